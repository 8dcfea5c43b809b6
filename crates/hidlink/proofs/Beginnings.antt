-- Beginnings of a list of packets, and what each of them carries.
use Rattle.std.proofs.Common.{◌≡◌, ℕ, suc, zero, ◌≤◌, ◌⊎◌, inl, inr, List, [], ◌∷◌, ◌++◌, take, drop, refl, sym, ◌∙◌, ap, arith}
use Rattle.std.proofs.lemmas.List.{append_assoc, append-nil, same_from_push, take-append-drop}
use Rattle.hidframe.specs.declared.Packet.{Packet}
use Rattle.hidlink.specs.Wire.{HasEnded, IsBeginning, IsDead, SomeIsDead}
use Rattle.hidlink.proofs.Runs.{cases_last}

-- of two beginnings of one list one begins the other
pub comparable : (as' bs ps : List Packet) → IsBeginning as' ps → IsBeginning bs ps → IsBeginning as' bs ⊎ IsBeginning bs as'
comparable as' bs ps a b = split as' bs a.0 b.0 (sym a.1 ∙ b.1)
  where
    split : (as' bs x y : List Packet) → as' ++ x ≡ bs ++ y → IsBeginning as' bs ⊎ IsBeginning bs as'
    split [] bs x y e = inl (bs, refl)
    split (a ∷ as') [] x y e = inr (a ∷ as', refl)
    split (a ∷ as') (b ∷ bs) x y e =
        let head : a ≡ b = cc in
        let tail : as' ++ x ≡ bs ++ y = cc in
        elim (split as' bs x y tail) [
          | inl h ↦ inl (h.0, ap (λ c. c ∷ bs) (sym head) ∙ ap (λ cs. a ∷ cs) h.1)
          | inr h ↦ inr (h.0, ap (λ c. c ∷ as') head ∙ ap (λ cs. b ∷ cs) h.1)
        ]

-- a beginning of a beginning is one
pub begins_later : (qs rs ps : List Packet) → IsBeginning qs rs → IsBeginning rs ps → IsBeginning qs ps
begins_later qs rs ps a b = (a.0 ++ b.0, b.1 ∙ ap (λ xs. xs ++ b.0) a.1 ∙ append_assoc qs a.0 b.0)

-- what begins with a dead list is dead
pub dead_later : (c : ℕ) (qs ps : List Packet) → IsBeginning qs ps → IsDead c qs → IsDead c ps
dead_later c qs ps b dead rs cmd m (inl r) carries = dead rs cmd m (comparable rs qs ps r b) carries
dead_later c qs ps b dead rs cmd m (inr r) carries = dead rs cmd m (inr (begins_later qs ps rs b r)) carries

pub dead_itself : (c : ℕ) (ps : List Packet) → SomeIsDead c ps → IsDead c ps
dead_itself c ps h = dead_later c h.0 ps h.1 h.2

-- what has ended stays so
pub has_ended_later : {c : ℕ} (qs ps : List Packet) → IsBeginning qs ps → HasEnded c qs → HasEnded c ps
has_ended_later qs ps b (inl h) = inl (h.0, h.1, h.2, begins_later h.0 qs ps h.3 b, h.4)
has_ended_later qs ps b (inr h) = inr (h.0, begins_later h.0 qs ps h.1 b, h.2)

pub begins_itself : (ps : List Packet) → IsBeginning ps ps
begins_itself ps = ([], sym (append-nil ps))

-- a beginning of one packet more is a beginning, or the whole
pub beginning_cases : (qs ps : List Packet) (p : Packet) → IsBeginning qs (ps ++ p ∷ []) → IsBeginning qs ps ⊎ (qs ≡ ps ++ p ∷ [])
beginning_cases qs ps p b = elim (cases_last b.0) [
  | inl none ↦ inr (sym (append-nil qs) ∙ ap (λ more. qs ++ more) (sym none) ∙ sym b.1)
  | inr more ↦ inl (more.0, (same_from_push ps (qs ++ more.0) p more.1 (b.1 ∙ ap (λ xs. qs ++ xs) more.2 ∙ sym (append_assoc qs more.0 (more.1 ∷ [])))).0)
]

-- the first packets of a list begin it, and so do fewer of more
pub taken : (k : ℕ) (ps : List Packet) → IsBeginning (take k ps) ps
taken k ps = (drop k ps, sym (take-append-drop k ps))

pub taken_less : (j k : ℕ) (ps : List Packet) → j ≤ k → IsBeginning (take j ps) (take k ps)
taken_less zero k ps h = (take k ps, refl)
taken_less (suc j) zero ps h = absurd (omega arith)
taken_less (suc j) (suc k) [] h = ([], refl)
taken_less (suc j) (suc k) (p ∷ ps) h = let t = taken_less j k ps (omega arith) in (t.0, ap (λ qs. p ∷ qs) t.1)
