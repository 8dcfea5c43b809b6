-- What is owed of `is_taken`.
use Rattle.std.proofs.Common.{◌≡◌, ◌==◌, drop, get_or, true, false, sym, ap, ◌∙◌, arith, take_all, length-drop}
use Rattle.std.specs.Prelude.{is_some}
use Rattle.fast_float.specs.Text.{scan}
use Rattle.serde_json.specs.Read.{number_of, number_from}
use Rattle.clientdata.proofs.passing.is_taken.Goals as goal

pub returns-then-has_minus : goal.returns-then-has_minus
unfolding number_of
returns-then-has_minus c =
    let s = c.as_bytes-bytes.result.now in
    let minus : (get_or s 0 0 == 45) ≡ true = sym c.if-has_minus.ensures.value in
    let parts = c.scan.ensures.parts ∙ ap scan (take_all _ (drop 1 s) (omega (arith, length-drop 1 s))) in
    let taken : is_some (number_from true (scan (drop 1 s))) ≡ is_some (number_of s) = rw minus in
    c.is_in_range.ensures ∙ ap (λ p. is_some (number_from true p)) parts ∙ taken ∙ ap (λ t. is_some (number_of t)) c.as_bytes-bytes.ensures.value

pub returns-else-has_minus : goal.returns-else-has_minus
unfolding number_of
returns-else-has_minus c =
    let s = c.as_bytes-bytes.result.now in
    let none : (get_or s 0 0 == 45) ≡ false = sym c.if-has_minus.ensures.value in
    let taken : is_some (number_from false (scan s)) ≡ is_some (number_of s) = rw none in
    c.is_in_range-else-has_minus.ensures ∙ ap (λ p. is_some (number_from false p)) c.scan-else-has_minus.ensures.parts ∙ taken ∙ ap (λ t. is_some (number_of t)) c.as_bytes-bytes.ensures.value
