-- A history has one reading.
use Rattle.std.proofs.Common.{◌≡◌, ℕ, ◌⊎◌, inl, inr, List, [], ◌∷◌, ◌++◌, refl, sym, ◌∙◌, ap, subst}
use Rattle.std.specs.List.{flat_map}
use Rattle.std.proofs.lemmas.List.{append_assoc, append-nil, append_cancel_left}
use Rattle.hidlink.specs.History.{DeviceCall}
use Rattle.hidlink.specs.History.{Closed, NoneShorter, AreClosed, Reads, channels, channels_after}

-- of two beginnings of one list one begins the other
abbrev Meets : List DeviceCall → List DeviceCall → Type 0
Meets a b = (a ≡ b) ⊎ (((call : DeviceCall) × (rest : List DeviceCall) × (a ≡ b ++ call ∷ rest))
    ⊎ ((call : DeviceCall) × (rest : List DeviceCall) × (b ≡ a ++ call ∷ rest)))

meets : (a b x y : List DeviceCall) → a ++ x ≡ b ++ y → Meets a b
meets [] [] x y e = inl refl
meets [] (b ∷ bs) x y e = inr (inr (b, bs, refl))
meets (a ∷ as') [] x y e = inr (inl (a, as', refl))
meets (a ∷ as') (b ∷ bs) x y e =
    let head : a ≡ b = cc in
    let tail : as' ++ x ≡ bs ++ y = cc in
    elim (meets as' bs x y tail) [
      | inl same ↦ inl (cc)
      | inr other ↦ elim other [
        | inl longer ↦ inr (inl (longer.0, longer.1, ap (λ c. c ∷ as') head ∙ ap (λ cs. b ∷ cs) longer.2))
        | inr longer ↦ inr (inr (longer.0, longer.1, ap (λ c. c ∷ bs) (sym head) ∙ ap (λ cs. a ∷ cs) longer.2))
      ]
    ]

-- two readings from n channels on are one
one : (n : ℕ) (ps qs : List (List DeviceCall)) (a b : List DeviceCall)
    → flat_map (λ part. part) ps ++ a ≡ flat_map (λ part. part) qs ++ b
    → AreClosed n ps → AreClosed n qs → NoneShorter (channels n ps) a → NoneShorter (channels n qs) b
    → (Closed (channels n ps) a → ⊥) → (Closed (channels n qs) b → ⊥) → (ps ≡ qs) × (a ≡ b)
one n [] [] a b e cp cq na nb oa ob = (refl, e)
one n [] (q ∷ qs) a b e cp cq na nb oa ob =
    -- a begins with the closed part q
    let split : a ≡ q ++ (flat_map (λ part. part) qs ++ b) = e ∙ append_assoc q (flat_map (λ part. part) qs) b in
    absurd (begins a q (flat_map (λ part. part) qs ++ b) split na oa cq.0)
  where
    begins : (a q rest : List DeviceCall) → a ≡ q ++ rest → NoneShorter n a → (Closed n a → ⊥) → Closed n q → ⊥
    begins a q [] s na oa c = oa (let P : List DeviceCall → Type 0 = Closed n in subst P (sym (s ∙ append-nil q)) c)
    begins a q (call ∷ rest) s na oa c = na q call rest s c
one n (p ∷ ps) [] a b e cp cq na nb oa ob =
    let split : b ≡ p ++ (flat_map (λ part. part) ps ++ a) = sym e ∙ append_assoc p (flat_map (λ part. part) ps) a in
    absurd (begins b p (flat_map (λ part. part) ps ++ a) split nb ob cp.0)
  where
    begins : (a q rest : List DeviceCall) → a ≡ q ++ rest → NoneShorter n a → (Closed n a → ⊥) → Closed n q → ⊥
    begins a q [] s na oa c = oa (let P : List DeviceCall → Type 0 = Closed n in subst P (sym (s ∙ append-nil q)) c)
    begins a q (call ∷ rest) s na oa c = na q call rest s c
one n (p ∷ ps) (q ∷ qs) a b e cp cq na nb oa ob =
    let all : p ++ (flat_map (λ part. part) ps ++ a) ≡ q ++ (flat_map (λ part. part) qs ++ b) =
    sym (append_assoc p (flat_map (λ part. part) ps) a) ∙ e ∙ append_assoc q (flat_map (λ part. part) qs) b in
    elim (meets p q (flat_map (λ part. part) ps ++ a) (flat_map (λ part. part) qs ++ b) all) [
      | inl same ↦ go_on same all (λ r c z w. one (channels_after n p) ps qs a b r cp.2 c na z oa w)
      | inr other ↦ elim other [
        | inl longer ↦ absurd (cp.1 q longer.0 longer.1 longer.2 cq.0)
        | inr longer ↦ absurd (cq.1 p longer.0 longer.1 longer.2 cp.0)
      ]
    ]
  where
    go_on : p ≡ q → p ++ (flat_map (λ part. part) ps ++ a) ≡ q ++ (flat_map (λ part. part) qs ++ b)
        → (flat_map (λ part. part) ps ++ a ≡ flat_map (λ part. part) qs ++ b → AreClosed (channels_after n p) qs
        → NoneShorter (channels (channels_after n p) qs) b
        → (Closed (channels (channels_after n p) qs) b → ⊥) → (ps ≡ qs) × (a ≡ b)) → (p ∷ ps ≡ q ∷ qs) × (a ≡ b)
    go_on same all more =
        let n' : channels_after n p ≡ channels_after n q = ap (channels_after n) same in
        let rest : flat_map (λ part. part) ps ++ a ≡ flat_map (λ part. part) qs ++ b =
        append_cancel_left q (flat_map (λ part. part) ps ++ a) (flat_map (λ part. part) qs ++ b) (ap (λ r. r ++ (flat_map (λ part. part) ps ++ a)) (sym same)
        ∙ all) in
        let r : (ps ≡ qs) × (a ≡ b) = more rest
        (subst (λ k. AreClosed k qs) (sym n') cq.2)
        (subst (λ k. NoneShorter (channels k qs) b) (sym n') nb)
        (subst (λ k. Closed (channels k qs) b → ⊥) (sym n') ob) in
        (ap (λ x. x ∷ ps) same ∙ ap (λ x. q ∷ x) r.0, r.1)

-- a history has one reading at most
pub one_reading : (h : List DeviceCall) (ps qs : List (List DeviceCall)) (a b : List DeviceCall) → Reads h ps a → Reads h qs b → (ps ≡ qs) × (a ≡ b)
one_reading h ps qs a b r t = one 0 ps qs a b (sym r.whole ∙ t.whole) r.closed t.closed r.shorter t.shorter r.is_open t.is_open
