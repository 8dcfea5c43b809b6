-- A sign-in is judged by its opened text as by the session that was sealed.
use Rattle.std.proofs.Common.{◌≡◌, ◌<◌, ◌≤◌, ◌↔◌, ◌⊎◌, inl, inr, ℕ, zero, suc, List, [], ◌∷◌, Bool, true, false, Decides, Option, Some, None, Contains, length, map, option_map, get_or, refl, sym, ap, subst, ◌∙◌, arith}
use Rattle.std.specs.Prelude.{IfSome}
use Rattle.std.specs.Option.{ForSome}
use Rattle.std.specs.Str.{bytes_eq}
use Rattle.std.specs.List.{AllByRecursion}
use Rattle.std.proofs.lemmas.List.{get_or-map, length-map}
use Rattle.std.proofs.lemmas.Slice.Eq.{bytes_eq-Decides}
use Rattle.cose.specs.Schemes.{Validity}
use Rattle.clientdata.specs.Reading.{seen_of}
use Rattle.authdata.specs.Layout.{AuthenticatorData, AuthOf}
use Rattle.verification.specs.Records.{Credential, ExpectedSignIn}
use Rattle.verification.specs.Shared.{HasChallenge, IsVerifiedAs}
use Rattle.verification.specs.SignIn.{AreUser, JudgedSignIn, PassesSignInStep}
use Rattle.verification.specs.declared.refusal.SignInRefusal.{SignInRefusal}
use Rattle.verification.specs.declared.refusal.SignInRefusal.TheVariants as refusal
use Rattle.site_seal.specs.Judged.{TellsApart, judged_by}
use Rattle.site_seal.specs.Seal.{IsExpectedOf, id_hash, sealed_sign_in, user_hash}

told : (b : Bool) (P : Type 0) → Decides b P → P ⊎ (P → ⊥)
told true P d = inl (d.0 refl)
told false P d = inr (λ p. let yes = d.1 p in absurd cc)

-- two lists of bytes are the same, or not
either : (xs ys : List ℕ) → (xs ≡ ys) ⊎ (xs ≡ ys → ⊥)
either xs ys = told (bytes_eq xs ys) (xs ≡ ys) (bytes_eq-Decides xs ys)

-- one is listed, or not
listed_or_not : (xs : List (List ℕ)) (x : List ℕ) → Contains xs x ⊎ (Contains xs x → ⊥)
listed_or_not [] x = inr (λ there. let bad : there.0 < 0 = there.1 in absurd (omega arith))
listed_or_not (y ∷ ys) x = elim (either y x) [
  | inl same ↦ inl (0, omega arith, same)
  | inr other ↦ elim (listed_or_not ys x) [
    | inl there ↦ inl (suc there.0, omega (arith, there.1), there.2)
    | inr none ↦ inr (in_rest y ys x other none)
  ]
] where
  in_rest : (y : List ℕ) (ys : List (List ℕ)) (x : List ℕ) → (y ≡ x → ⊥) → (Contains ys x → ⊥) → Contains (y ∷ ys) x → ⊥
  in_rest y ys x other none (zero, within, is) = other is
  in_rest y ys x other none (suc k, within, is) = none (k, omega (arith, within), is)

hashed : (h : List ℕ → List ℕ) (xs : List (List ℕ)) (x : List ℕ) → Contains xs x → Contains (map h xs) (h x)
hashed h xs x (k, within, is) = (k, omega (arith, within, length-map xs h), get_or-map h xs k x (h x) within ∙ ap h is)

at_place : (P : List ℕ → Type 0) (xs : List (List ℕ)) (k : ℕ) (d : List ℕ) → k < length xs → AllByRecursion P xs → P (get_or xs k d)
at_place P [] k d within all = let bad : k < 0 = within in absurd (omega arith)
at_place P (x ∷ xs) zero d within all = all.0
at_place P (x ∷ xs) (suc k) d within all = at_place P xs k d (omega (arith, within)) all.1

unhashed : (h : List ℕ → List ℕ) (xs : List (List ℕ)) (x : List ℕ) → AllByRecursion (λ y. h y ≡ h x → y ≡ x) xs → Contains (map h xs) (h x) → Contains xs x
unhashed h xs x all (k, within, is) =
    let here : k < length xs = omega (arith, within, length-map xs h) in
    (k, here, at_place (λ y. h y ≡ h x → y ≡ x) xs k x here all (sym (get_or-map h xs k x (h x) here) ∙ is))

-- a list of one element without bytes has none with bytes
none_in_empty : (x : List ℕ) → 1 ≤ length x → Contains ([] ∷ []) x → ⊥
none_in_empty x some (zero, within, is) = omega (arith, some, ap length is)
none_in_empty x some (suc k, within, is) = let bad : suc k < 1 = within in omega (arith, bad)

same_list : (h : List ℕ → List ℕ) (xs ys : List (List ℕ)) (x : List ℕ) → 1 ≤ length x → AllByRecursion (λ y. h y ≡ h x → y ≡ x) xs
    → (map h xs ≡ [] → ys ≡ []) → (Contains (map h xs) (h x) → ys ≡ x ∷ [])
    → (((map h xs ≡ []) ⊎ Contains (map h xs) (h x) → ⊥) → ys ≡ [] ∷ [])
    → ((xs ≡ []) ⊎ Contains xs x) ↔ ((ys ≡ []) ⊎ Contains ys x)
same_list h xs ys x some all none listed other = (
  λ p. elim p [
    | inl empty ↦ inl (none (ap (λ (l : List (List ℕ)). map h l) empty))
    | inr there ↦ inr (subst (λ (l : List (List ℕ)). Contains l x) (sym (listed (hashed h xs x there))) (0, omega arith, refl))
  ],
  back h xs ys x some all none listed other,
) where
  back : (h : List ℕ → List ℕ) (xs ys : List (List ℕ)) (x : List ℕ) → 1 ≤ length x → AllByRecursion (λ y. h y ≡ h x → y ≡ x) xs
      → (map h xs ≡ [] → ys ≡ []) → (Contains (map h xs) (h x) → ys ≡ x ∷ [])
      → (((map h xs ≡ []) ⊎ Contains (map h xs) (h x) → ⊥) → ys ≡ [] ∷ [])
      → ((ys ≡ []) ⊎ Contains ys x) → ((xs ≡ []) ⊎ Contains xs x)
  back h [] ys x some all none listed other p = inl refl
  back h (y ∷ xs) ys x some all none listed other p = elim (listed_or_not (y ∷ xs) x) [
    | inl there ↦ inr there
    | inr absent ↦
        let alone : ys ≡ [] ∷ [] = other (λ w. elim w [ inl empty ↦ absurd cc | inr there ↦ absent (unhashed h (y ∷ xs) x all there) ]) in
        elim p [
          | inl empty ↦ absurd cc
          | inr there ↦ absurd (none_in_empty x some (subst (λ (l : List (List ℕ)). Contains l x) alone there))
        ]
  ]

-- none is the user of another handle, or of one without bytes
not_user : (x : List ℕ) (named : Option (List ℕ)) (handle : List ℕ) → (x ≡ handle → ⊥) → AreUser (Some x) named handle → ⊥
not_user x None handle other is = other is
not_user x (Some y) handle other is = other is.0

same_named : (h : List ℕ → List ℕ) (u v named : Option (List ℕ)) (handle : List ℕ) → 1 ≤ length handle → IfSome u (λ x. h x ≡ h handle → x ≡ handle)
    → (option_map h u ≡ None → v ≡ None) → (option_map h u ≡ Some (h handle) → v ≡ Some handle)
    → (((option_map h u ≡ None) ⊎ (option_map h u ≡ Some (h handle)) → ⊥) → v ≡ Some [])
    → AreUser u named handle ↔ AreUser v named handle
same_named h None v named handle some apart none is other =
    subst (λ (o : Option (List ℕ)). AreUser None named handle ↔ AreUser o named handle) (sym (none refl)) (λ p. p, λ p. p)
same_named h (Some x) v named handle some apart none is other = elim (either x handle) [
  | inl same ↦
      let named_too : v ≡ Some x = is (ap (λ (l : List ℕ). Some (h l)) same) ∙ ap Some (sym same) in
      subst (λ (o : Option (List ℕ)). AreUser (Some x) named handle ↔ AreUser o named handle) (sym named_too) (λ p. p, λ p. p)
  | inr differs ↦
      let nobody : v ≡ Some [] = other (λ w. elim w [ inl empty ↦ absurd cc | inr there ↦ let hash : h x ≡ h handle = cc in differs (apart hash) ]) in (
        λ p. absurd (not_user x named handle differs p),
        λ p. absurd (not_user [] named handle (λ empty. omega (arith, some, ap length empty)) (subst (λ (o : Option (List ℕ)). AreUser o named handle) nobody p)),
      )
]

-- of one value each
for_both : {T U : Type 0} (P : T → Type 0) (Q : U → Type 0) (a : T) (b : U) → P a ↔ Q b → ForSome (Some a) P ↔ ForSome (Some b) Q
for_both P Q a b (there, back) = (
  λ p y is. let same : b ≡ y = cc in subst Q same (there (p a refl)),
  λ q y is. let same : a ≡ y = cc in subst P same (back (q b refl)),
)

pub same_step : (valid : Validity) (key : List ℕ) (e f : ExpectedSignIn) (x : JudgedSignIn) (c : Credential) (step : SignInRefusal)
    → 1 ≤ length c.user → 1 ≤ length x.response.credential → TellsApart key e c.user x.response.credential
    → IsExpectedOf key (sealed_sign_in key e) c.user x.response.credential f
    → PassesSignInStep valid (judged_by x e c) step ↔ PassesSignInStep valid (judged_by x f c) step
same_step valid key e f x c refusal.SessionNotOpen user id apart is = (λ p. p, λ p. p)
same_step valid key e f x c refusal.CredentialNotAllowed user id apart is =
    for_both (λ (s : ExpectedSignIn). (s.allow ≡ []) ⊎ Contains s.allow x.response.credential) (λ (s : ExpectedSignIn). (s.allow ≡ []) ⊎ Contains s.allow x.response.credential) e f
    (same_list (id_hash key e.challenge) e.allow f.allow x.response.credential id apart.ids is.allow.none is.allow.listed is.allow.other)
same_step valid key e f x c refusal.UnknownCredential user id apart is = (λ p. p, λ p. p)
same_step valid key e f x c refusal.OtherUser user id apart is =
    for_both (λ (s : ExpectedSignIn). ForSome (Some c) (λ (d : Credential). AreUser s.user x.response.user d.user))
    (λ (s : ExpectedSignIn). ForSome (Some c) (λ (d : Credential). AreUser s.user x.response.user d.user)) e f
    (for_both (λ (d : Credential). AreUser e.user x.response.user d.user) (λ (d : Credential). AreUser f.user x.response.user d.user) c c
    (same_named (user_hash key e.challenge) e.user f.user x.response.user c.user user apart.user is.user.none is.user.named is.user.other))
same_step valid key e f x c refusal.UnreadableClientData user id apart is = (λ p. p, λ p. p)
same_step valid key e f x c refusal.WrongType user id apart is = (λ p. p, λ p. p)
same_step valid key e f x c refusal.WrongChallenge user id apart is =
    for_both (λ (s : ExpectedSignIn). ForSome (seen_of x.response.client_data) (HasChallenge s.challenge))
    (λ (s : ExpectedSignIn). ForSome (seen_of x.response.client_data) (HasChallenge s.challenge)) e f
    (subst (λ (l : List ℕ). ForSome (seen_of x.response.client_data) (HasChallenge e.challenge) ↔ ForSome (seen_of x.response.client_data) (HasChallenge l))
    (sym is.challenge) (λ p. p, λ p. p))
same_step valid key e f x c refusal.WrongOrigin user id apart is = (λ p. p, λ p. p)
same_step valid key e f x c refusal.CrossOrigin user id apart is = (λ p. p, λ p. p)
same_step valid key e f x c refusal.WrongTopOrigin user id apart is = (λ p. p, λ p. p)
same_step valid key e f x c refusal.TokenBinding user id apart is = (λ p. p, λ p. p)
same_step valid key e f x c refusal.BadAuthenticatorData user id apart is = (λ p. p, λ p. p)
same_step valid key e f x c refusal.WrongRelyingParty user id apart is = (λ p. p, λ p. p)
same_step valid key e f x c refusal.UserNotPresent user id apart is = (λ p. p, λ p. p)
same_step valid key e f x c refusal.UserNotVerified user id apart is =
    for_both (λ (s : ExpectedSignIn). (a : AuthenticatorData) → AuthOf x.rp.profile a x.response.auth_data → IsVerifiedAs s.uv a)
    (λ (s : ExpectedSignIn). (a : AuthenticatorData) → AuthOf x.rp.profile a x.response.auth_data → IsVerifiedAs s.uv a) e f
    (subst (λ (b : Bool). ((a : AuthenticatorData) → AuthOf x.rp.profile a x.response.auth_data → IsVerifiedAs e.uv a)
    ↔ ((a : AuthenticatorData) → AuthOf x.rp.profile a x.response.auth_data → IsVerifiedAs b a)) (sym is.uv) (λ p. p, λ p. p))
same_step valid key e f x c refusal.BadSignature user id apart is = (λ p. p, λ p. p)
same_step valid key e f x c refusal.CounterNotGreater user id apart is = (λ p. p, λ p. p)
same_step valid key e f x c refusal.EligibilityChanged user id apart is = (λ p. p, λ p. p)
