-- Serialised client data, found piece by piece.
use Rattle.std.proofs.Common.{◌≡◌, ◌≢◌, ℕ, Bool, Bor, List, ◌++◌, Option, Some, None, true, false, ◌⊎◌, inl, inr, ap, subst, sym, ◌∙◌, append_assoc}
use Rattle.std.specs.Prelude.{◌↔◌, MatchOption, codes}
use Rattle.std.proofs.lemmas.List.{append_cancel_left}
use Rattle.clientdata.specs.declared.record.CeremonyType.{CeremonyType}
use Rattle.clientdata.specs.Quoted.{quoted}
use Rattle.clientdata.specs.Expected.{ArePlain, IsAfterChallenge, before_challenge, after_challenge}
use Rattle.clientdata.specs.Serialised.{challenge_text_of, client_data_front, client_data_text, truth_of, type_of}
use Rattle.clientdata.proofs.Plain.{quoted_plain}

joined : (a t b mark c o origin x truth z : List ℕ)
    → (((((((a ++ t) ++ b) ++ (mark ++ (c ++ mark))) ++ o) ++ origin) ++ x) ++ truth) ++ z
    ≡ ((a ++ t) ++ (b ++ mark)) ++ (c ++ ((((mark ++ o) ++ origin) ++ x) ++ (truth ++ z)))
joined a t b mark c o origin x truth z = simp append_assoc

-- the text, cut before the challenge, after it and before the last member's value
pub whole : (kind : CeremonyType) (challenge origin : List ℕ) (cross : Bool) → ArePlain (challenge_text_of challenge)
    → client_data_text kind challenge origin cross
    ≡ before_challenge kind ++ (challenge_text_of challenge ++ (after_challenge origin ++ (truth_of cross ++ codes "}")))
unfolding client_data_front before_challenge after_challenge
whole kind challenge origin cross plain =
    ap (λ (q : List ℕ). (((((((codes "{\"type\":" ++ quoted (type_of kind)) ++ codes ",\"challenge\":") ++ q) ++ codes ",\"origin\":") ++ quoted origin)
    ++ codes ",\"crossOrigin\":") ++ truth_of cross) ++ codes "}")
    (quoted_plain (challenge_text_of challenge) plain)
    ∙ joined (codes "{\"type\":") (quoted (type_of kind)) (codes ",\"challenge\":") (codes "\"") (challenge_text_of challenge) (codes ",\"origin\":")
    (quoted origin)
    (codes ",\"crossOrigin\":") (truth_of cross) (codes "}")

-- what is read of bytes that begin up to the challenge, or do not, and of a challenge after them
module _ (kind : CeremonyType) (challenge bytes front text : List ℕ)
    (ef : front ≡ before_challenge kind) (et : text ≡ challenge_text_of challenge) (plain : ArePlain text) where
  pieces : (origin : List ℕ) (cross : Bool)
      → client_data_text kind challenge origin cross ≡ front ++ (text ++ (after_challenge origin ++ (truth_of cross ++ codes "}")))
  pieces origin cross = rw (ef, et) (whole kind challenge origin cross (subst ArePlain et plain))

  pub no_front : ((rest : List ℕ) → bytes ≢ front ++ rest) → (origin : List ℕ) (cross : Bool) → bytes ≢ client_data_text kind challenge origin cross
  no_front none origin cross e = none _ (e ∙ pieces origin cross)

  pub behind_front : (o : Option (Bor (List ℕ))) (r : List ℕ) → bytes ≡ front ++ r
      → MatchOption o ((rest : List ℕ) → r ≢ text ++ rest) (λ rest. r ≡ text ++ rest.now)
      → MatchOption o ((origin : List ℕ) (cross : Bool) → bytes ≢ client_data_text kind challenge origin cross)
      (λ rest. (origin : List ℕ) (cross : Bool) → (bytes ≡ client_data_text kind challenge origin cross) ↔ IsAfterChallenge origin cross rest.now)
  behind_front None r is none = λ origin cross e. none _ (append_cancel_left front _ _ (sym is ∙ e ∙ pieces origin cross))
  behind_front (Some rest) r is next = λ origin cross. (
    λ e. append_cancel_left text _ _ (sym next ∙ append_cancel_left front _ _ (sym is ∙ e ∙ pieces origin cross)),
    λ e. is ∙ ap (λ (l : List ℕ). front ++ l) (next ∙ ap (λ (l : List ℕ). text ++ l) e) ∙ sym (pieces origin cross),
  )

-- what stands after an origin, of bytes that stand after a challenge
pub ends : (origin rest last : List ℕ) → rest ≡ after_challenge origin ++ last → (cross : Bool) × IsAfterChallenge origin cross rest
    → (last ≡ codes "false}") ⊎ (last ≡ codes "true}")
ends origin rest last is (false, e) = inl (append_cancel_left (after_challenge origin) _ _ (sym is ∙ e))
ends origin rest last is (true, e) = inr (append_cancel_left (after_challenge origin) _ _ (sym is ∙ e))

pub not_crossing : (origin rest last : List ℕ) → rest ≡ after_challenge origin ++ last → (cross : Bool) → cross ≡ false
    → IsAfterChallenge origin cross rest → last ≡ codes "false}"
not_crossing origin rest last is false e behind = append_cancel_left (after_challenge origin) _ _ (sym is ∙ behind)
not_crossing origin rest last is true e behind = absurd cc
