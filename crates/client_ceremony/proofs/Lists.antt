-- Lists of texts and of replies, as they are lent, and assertions that replies tell.
use Rattle.std.proofs.Common.{◌≡◌, ◌<◌, ◌+◌, ℕ, List, [], ◌∷◌, ◌++◌, map, Bool, None, get_or, take, drop, length, refl, sym, ap, ◌∙◌, add-one, append_assoc, subst, Bor}
use Rattle.std.specs.List.{list_any}
use Rattle.std.proofs.Math.Seq.{take-suc}
use Rattle.std.proofs.lemmas.List.{get_or-map, length-map, take-append-drop}
use Rattle.ctap_open_replies.specs.Replies.{IsReply, TellsAssertion}
use Rattle.ctap_open_replies.specs.Replies.{Assertion as Signed}
use Rattle.client_ceremony.specs.Commands.{EachTells}

pub any_lent : (p : List ℕ → Bool) (xs : List (Bor (List ℕ))) → list_any p (map (λ b. b.now) xs) ≡ list_any (λ b. p b.now) xs
any_lent p [] = refl
any_lent p (x ∷ xs) = rw (any_lent p xs) refl

-- one more is answered
pub each_more : (qs : List Signed) (rs : List (List ℕ)) (q : Signed) (r : List ℕ) → EachTells qs rs → IsReply (TellsAssertion None) q r
    → EachTells (qs ++ (q ∷ [])) (rs ++ (r ∷ []))
each_more [] [] q r each is = (is, tt)
each_more [] (y ∷ ys) q r each is = absurd each
each_more (x ∷ xs) [] q r each is = absurd each
each_more (x ∷ xs) (y ∷ ys) q r each is = (each.0, each_more xs ys q r each.1 is)

module _ {A : Type 0} (f : A → List ℕ) (xs : List A) (i : ℕ) (x : A) (within : i < length xs) (is : x ≡ get_or xs i x) where
  here : get_or (map f xs) i (f x) ≡ f x
  here = get_or-map f xs i x (f x) within ∙ sym (ap f is)

  pub take_more : take (i + 1) (map f xs) ≡ take i (map f xs) ++ (f x ∷ [])
  take_more =
      let in_map : i < length (map f xs) = subst (λ (n : ℕ). i < n) (sym (length-map xs f)) within in
      subst (λ (y : List ℕ). take (i + 1) (map f xs) ≡ take i (map f xs) ++ (y ∷ [])) here (rw add-one (take-suc (map f xs) i (f x) in_map))

  pub parted : map f xs ≡ take i (map f xs) ++ (f x ∷ drop (i + 1) (map f xs))
  parted =
      sym (take-append-drop (i + 1) (map f xs)) ∙ ap (λ (t : List (List ℕ)). t ++ drop (i + 1) (map f xs)) take_more
      ∙ append_assoc (take i (map f xs)) (f x ∷ []) (drop (i + 1) (map f xs))
