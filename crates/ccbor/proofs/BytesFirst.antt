-- A byte string at the front of the input.
use Rattle.std.proofs.Common.{◌≡◌, ◌<◌, ◌^◌, ◌++◌, ℕ, List, length, Some, sym, ◌∙◌, ap, subst}
use Rattle.std.proofs.lemmas.List.{append_assoc}
use Rattle.ccbor.specs.Item as of
use Rattle.ccbor.specs.Canon.{head, spelling}
use Rattle.ccbor.specs.Reading.{content_at, head_at}
use Rattle.ccbor.proofs.Leaves.{content_takes}
use Rattle.ccbor.proofs.Numbers.{IsBytes, head_takes}

pub bytes_spelled : (bs rest content tail : List ℕ) (major n : ℕ) → IsBytes bs → head_at bs ≡ Some ((major, n), rest) → major ≡ 2
    → content_at n rest ≡ Some (content, tail) → (bs ≡ spelling (of.bytes content) ++ tail) × (length content < 2 ^ 64)
bytes_spelled bs rest content tail major n fits at is found =
    let h = head_takes bs ((major, n), rest) fits at in
    let c = content_takes n rest (content, tail) h.0.rest_fits found in (
      h.0.parts ∙ ap (λ m. head m n ++ rest) is ∙ ap (λ l. head 2 n ++ l) c.0.parts ∙ ap (λ k. head 2 k ++ (content ++ tail)) (sym c.1)
          ∙ sym (append_assoc (head 2 (length content)) content tail),
      subst (λ k. k < 2 ^ 64) (sym c.1) h.1,
    )
