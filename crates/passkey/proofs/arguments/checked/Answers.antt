-- What is owed of `checked`.
use Rattle.std.proofs.Common.{codes, ◌∙◌, refl}
use Rattle.clap.specs.Words.{rows_of, found_of}
use Rattle.clap.proofs.WalkLemmas.{one_text-rows}
use Rattle.passkey.proofs.WordRows.{first_in, rows_are}
use Rattle.passkey.proofs.arguments.checked.Goals as goal

pub returns : goal.returns
returns c =
    let m = c.in-Some.inner.now in
    let word = first_in m (codes "type") c.in-Some-get_str.word.now c.in-Some-get_str.ensures in
    let challenge = first_in m (codes "challenge") c.in-Some-get_str-2.challenge.now c.in-Some-get_str-2.ensures in
    let origin = first_in m (codes "origin") c.in-Some-get_str-3.origin.now c.in-Some-get_str-3.ensures in
    let flag = one_text-rows (found_of m) (codes "cross") in
    rw (rows_are c.args.matches.now (codes "check") (rows_of (found_of m)) (c.in-Some.ensures.found.0 refl) c.in-Some.ensures.rows) (
      refl,
      rw c.in-Some-ceremony_named.ensures.named word,
      rw c.in_ok-challenge.ensures.ok challenge,
      rw c.in_ok-origin.ensures.ok origin,
      λ h. c.get_flag-cross.ensures.value (flag ∙ h),
      λ h. c.get_flag-cross.ensures.other (flag ∙ h),
    )
