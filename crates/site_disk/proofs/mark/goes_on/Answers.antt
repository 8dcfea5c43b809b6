-- What is owed of `goes_on`.
use Rattle.std.proofs.Common.{◌↔◌, ℕ, length, IsTrue, subst, sym, ◌∙◌}
use Rattle.sqlite_wal.specs.Recovery.{Replays}
use Rattle.site_disk.specs.Mark.{GoesOn}
use Rattle.site_disk.proofs.mark.goes_on.Goals as goal

pub returns : goal.returns
returns c =
    let numbers = c.in_ok-numbers.numbers.items in
    let bytes = c.bytes.ensures in
    subst (λ log. (frames : ℕ) × Replays 4096 log frames × (IsTrue c.frames_go_on.result ↔ GoesOn log c.args.root frames c.args.file)) (bytes ∙ c.pages_of.ensures.same) (
      length c.as_slice.result.now,
      subst (λ xs. Replays 4096 c.bytes.result.now (length xs)) (sym c.as_slice.ensures.value)
          (subst (λ log. Replays 4096 log (length numbers)) (sym bytes) c.in_ok-numbers.ensures.frames.0),
      c.frames_go_on.ensures,
    )
