-- An answer has one text at most.
use Rattle.std.proofs.Common.{◌≡◌, ◌≤◌, ◌∙◌, inl, inr, ℕ, Bool, true, false, List, ap, arith, sym}
use Rattle.passkey_c.specs.Texts.{IsLimitText, IsStepText, IsText, limit_text, registration_text, sign_in_text}
use Rattle.passkey_c.proofs.Numbers.{limit_range, registration_range, same_limit, same_registration_step, same_step, step_range}

one_limit_text : (n : ℕ) (s t : List ℕ) → IsLimitText n s → IsLimitText n t → s ≡ t
one_limit_text n s t a b = a.2 ∙ (ap limit_text (same_limit a.0 b.0 (a.1 ∙ sym b.1)) ∙ sym b.2)

one_step_text : (r : Bool) (n : ℕ) (s t : List ℕ) → IsStepText r n s → IsStepText r n t → s ≡ t
one_step_text true n s t a b = a.2 ∙ (ap registration_text (same_registration_step a.0 b.0 (a.1 ∙ sym b.1)) ∙ sym b.2)
one_step_text false n s t a b = a.2 ∙ (ap sign_in_text (same_step a.0 b.0 (a.1 ∙ sym b.1)) ∙ sym b.2)

limit_numbers : (n : ℕ) (t : List ℕ) → IsLimitText n t → (100 ≤ n) × (n ≤ 126)
limit_numbers n t a = let range = limit_range a.0 in rw (sym a.1) range

step_numbers : (r : Bool) (n : ℕ) (t : List ℕ) → IsStepText r n t → (1 ≤ n) × (n ≤ 19)
step_numbers true n t a = let range = registration_range a.0 in rw (sym a.1) range
step_numbers false n t a = let range = step_range a.0 in let e = a.1 in (omega arith, omega arith)

pub one_text : (r : Bool) (n : ℕ) (s t : List ℕ) → IsText r n s → IsText r n t → s ≡ t
one_text r n s t (inl a) (inl b) = a.1 ∙ sym b.1
one_text r n s t (inl a) (inr (inl b)) = let e = a.0 in let f = b.0 in absurd (omega arith)
one_text r n s t (inl a) (inr (inr (inl b))) = let e = a.0 in let f = limit_numbers n t b in absurd (omega arith)
one_text r n s t (inl a) (inr (inr (inr b))) = let e = a.0 in let f = step_numbers r n t b in absurd (omega arith)
one_text r n s t (inr (inl a)) (inl b) = let e = a.0 in let f = b.0 in absurd (omega arith)
one_text r n s t (inr (inl a)) (inr (inl b)) = a.1 ∙ sym b.1
one_text r n s t (inr (inl a)) (inr (inr (inl b))) = let e = a.0 in let f = limit_numbers n t b in absurd (omega arith)
one_text r n s t (inr (inl a)) (inr (inr (inr b))) = let e = a.0 in let f = step_numbers r n t b in absurd (omega arith)
one_text r n s t (inr (inr (inl a))) (inl b) = let e = limit_numbers n s a in let f = b.0 in absurd (omega arith)
one_text r n s t (inr (inr (inl a))) (inr (inl b)) = let e = limit_numbers n s a in let f = b.0 in absurd (omega arith)
one_text r n s t (inr (inr (inl a))) (inr (inr (inl b))) = one_limit_text n s t a b
one_text r n s t (inr (inr (inl a))) (inr (inr (inr b))) = let e = limit_numbers n s a in let f = step_numbers r n t b in absurd (omega arith)
one_text r n s t (inr (inr (inr a))) (inl b) = let e = step_numbers r n s a in let f = b.0 in absurd (omega arith)
one_text r n s t (inr (inr (inr a))) (inr (inl b)) = let e = step_numbers r n s a in let f = b.0 in absurd (omega arith)
one_text r n s t (inr (inr (inr a))) (inr (inr (inl b))) = let e = step_numbers r n s a in let f = limit_numbers n t b in absurd (omega arith)
one_text r n s t (inr (inr (inr a))) (inr (inr (inr b))) = one_step_text r n s t a b
