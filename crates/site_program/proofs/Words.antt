-- Random bytes that are taken one after the other.
use Rattle.std.proofs.Common.{◌≡◌, ℕ, List, [], ◌∷◌, ◌++◌, Option, Some, None, refl, sym, subst, ap, ◌∙◌, append_assoc}
use Rattle.std.specs.Io.KnownBytes.{Consumes}
use Rattle.site_lines.specs.declared.line.Arrived.{Arrived}
use Rattle.site_program.specs.Words.{words_in}

pub words_of_both : (xs ys : List Arrived) → words_in (xs ++ ys) ≡ words_in xs ++ words_in ys
words_of_both [] ys = refl
words_of_both (x ∷ xs) ys = ap (λ ws. x.words ++ ws) (words_of_both xs ys) ∙ sym (append_assoc x.words (words_in xs) (words_in ys))

consumed_then : (a b c : Option (List ℕ)) (xs ys : List ℕ) → Consumes a b xs → Consumes b c ys → Consumes a c (xs ++ ys)
consumed_then None b c xs ys p q = tt
consumed_then (Some w) None c xs ys p q = absurd p
consumed_then (Some w) (Some v) None xs ys p q = absurd q
consumed_then (Some w) (Some v) (Some u) xs ys p q = p ∙ ap (λ l. xs ++ l) q ∙ sym (append_assoc xs ys u)

-- the bytes of the lines so far, and then those of more lines
pub words_then : (a b c : Option (List ℕ)) (so_far more now : List Arrived) → now ≡ so_far ++ more → Consumes a b (words_in so_far) → Consumes b c (words_in more)
    → Consumes a c (words_in now)
words_then a b c so_far more now is p q =
    subst (λ ls. Consumes a c (words_in ls)) (sym is)
    (subst (Consumes a c) (sym (words_of_both so_far more)) (consumed_then a b c (words_in so_far) (words_in more) p q))
