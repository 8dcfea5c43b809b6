-- What is owed of `explained`.
use Rattle.std.proofs.Common.{codes, ◌∙◌, refl}
use Rattle.clap.specs.Words.{rows_of, found_of}
use Rattle.clap.proofs.WalkLemmas.{one_text-rows}
use Rattle.passkey.proofs.WordRows.{first_in, rows_are}
use Rattle.passkey.proofs.arguments.explained.Goals as goal

pub returns : goal.returns
returns c =
    let m = c.in-Some.inner.now in
    let file = first_in m (codes "file") c.in-Some-get_str.file.now c.in-Some-get_str.ensures in
    let flag = one_text-rows (found_of m) (codes "json") in
    rw (rows_are c.args.matches.now (codes "explain") (rows_of (found_of m)) (c.in-Some.ensures.found.0 refl) c.in-Some.ensures.rows) (
      refl,
      rw c.in_ok-file.ensures.ok file,
      λ h. c.get_flag-json.ensures.value (flag ∙ h),
      λ h. c.get_flag-json.ensures.other (flag ∙ h),
    )
