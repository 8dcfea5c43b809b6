-- An rp id after the front of a host.
use Rattle.std.proofs.Common.{◌≡◌, ◌≢◌, inl, inr, ℕ, List, [], ◌∷◌, ◌++◌, ◌==◌, length, Bool, false, sym, ◌∙◌, ap}
use Rattle.std.specs.Prelude.{codes}
use Rattle.std.proofs.lemmas.List.{append_cancel_right}
use Rattle.client.specs.Origins.{IsRpIdOf}
use Rattle.client.specs.Steps.{IsCut}

-- what a test of emptiness told
pub not_empty : (xs : List ℕ) (b : Bool) → b ≡ (length xs == 0) → b ≡ false → xs ≢ []
not_empty [] b is off = λ _. absurd (cc)
not_empty (x ∷ xs) b is off = λ none. absurd (cc)

-- it is one of the host, where the front is cut
pub is_own : (host rp_id front : List ℕ) → rp_id ≢ [] → host ≡ front ++ rp_id → IsCut front → IsRpIdOf host rp_id
is_own host rp_id front some is cut = (
  some,
  elim cut [
    | inl none ↦ inl (is ∙ ap (λ xs. xs ++ rp_id) none)
    | inr dot ↦ inr ((dot.0, is ∙ ap (λ xs. xs ++ rp_id) dot.1))
  ],
)

-- and only there
pub is_cut : (host rp_id front : List ℕ) → host ≡ front ++ rp_id → IsRpIdOf host rp_id → IsCut front
is_cut host rp_id front is own = elim own.1 [
  | inl same ↦ inl (append_cancel_right front [] rp_id (sym is ∙ same))
  | inr dot ↦ inr ((dot.0, append_cancel_right front (dot.0 ++ codes ".") rp_id (sym is ∙ dot.1)))
]

-- and it is after some front
pub is_behind : (host rp_id : List ℕ) → IsRpIdOf host rp_id → (front : List ℕ) × (host ≡ front ++ rp_id)
is_behind host rp_id own = elim own.1 [
  | inl same ↦ ([], same)
  | inr dot ↦ (dot.0 ++ codes ".", dot.1)
]
