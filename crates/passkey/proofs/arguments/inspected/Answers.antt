-- What is owed of `inspected`.
use Rattle.std.proofs.Common.{codes, refl}
use Rattle.clap.specs.Words.{rows_of, found_of}
use Rattle.passkey.proofs.WordRows.{first_in, rows_are}
use Rattle.passkey.proofs.arguments.inspected.Goals as goal

pub returns : goal.returns
returns c =
    let inner = c.in_ok-inner.inner.now in
    let word = first_in inner (codes "kind") c.in_ok-word.word.now c.in_ok-word.ensures in
    rw (rows_are c.args.matches.now (codes "inspect") (rows_of (found_of inner)) (c.in_ok-inner.ensures.found.0 refl) c.in_ok-inner.ensures.rows) (
      refl,
      rw c.in_ok-kind.ensures.named word,
    )
