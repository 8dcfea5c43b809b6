-- What is gathered of several assertions.
use Rattle.std.proofs.Common.{◌≡◌, ◌<◌, ◌+◌, ◌-◌, ℕ, List, [], ◌∷◌, length, take, drop, sym, ap, subst, ◌∙◌, inl, inr, Vec, Global}
use Rattle.ctap_open_replies.specs.Replies.{Assertion as Signed}
use Rattle.client_ceremony.specs.Commands.{Choice, EachTells, Several, count_of, next_replies}
use Rattle.client_ceremony.specs.Facts.{Facts}
use Rattle.client_ceremony.specs.declared.halt.Halt.{Halt}
use Rattle.client_ceremony.specs.declared.halt.Halt.TheVariants as halts
use Rattle.client_ceremony.specs.declared.step.Step.TheVariants as steps

module _ (k : Facts) (n count len : ℕ) (first : Signed) (rs : List (List ℕ)) (these : rs ≡ take (count - 1) (drop (n + 1) k.replies))
    (is : count ≡ count_of first) (sized : length rs ≡ len) where
  same : rs ≡ next_replies k n first
  same = these ∙ ap (λ (m : ℕ). take (m - 1) (drop (n + 1) k.replies)) is

  -- of the replies that the code took it is so of those that are meant
  pub there : (h : Halt) → Several k n first rs h → Several k n first (next_replies k n first) h
  there h s = subst (λ (t : List (List ℕ)). Several k n first t h) same s

  pub next_several : (qs : List Signed) → EachTells qs rs → len < count - 1 → (m : Vec ℕ Global) → m.items ≡ 8 ∷ []
      → Several k n first (next_replies k n first) (halts.Steps (n + 1 + len) (steps.Sends m))
  next_several qs each fewer m byte =
      let fewer_told : length rs < count_of first - 1 = subst (λ (t : ℕ). length rs < t - 1) is (subst (λ (t : ℕ). t < count - 1) (sym sized) fewer) in
      there (halts.Steps (n + 1 + len) (steps.Sends m)) (inr (qs, each, inl (fewer_told, m, byte, ap (λ (t : ℕ). halts.Steps (n + 1 + t) (steps.Sends m)) (sym sized))))

  pub chosen_several : (qs all : List Signed) → EachTells qs rs → all ≡ first ∷ qs → len ≡ count - 1 → (h : Halt) → Choice (n + 1 + len) all k.chosen h
      → Several k n first (next_replies k n first) h
  chosen_several qs all each parts full h choice =
      let all_told : length rs ≡ count_of first - 1 = sized ∙ full ∙ ap (λ (t : ℕ). t - 1) is in
      there h (inr (qs, each, inr (all_told, subst (λ (t : ℕ). Choice (n + 1 + t) (first ∷ qs) k.chosen h) (sym sized) (subst (λ (t : List Signed). Choice (n + 1 + len) t k.chosen h) parts choice))))
