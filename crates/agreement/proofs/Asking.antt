-- A request that a client asks with is carried out, where consent is given and nothing stands against it.
use Rattle.std.proofs.Common.{◌≡◌, ℕ, zero, suc, ◌<◌, List, [], ◌∷◌, length, map, Bool, true, false, not, ◌&&◌, ◌||◌, Some, None, is_none, is_some, cond}
use Rattle.std.proofs.Common.{find, refl, sym, ◌∙◌, ap, subst, arith, rules, inl, inr, Contains}
use Rattle.std.specs.Prelude.{nat_le, option_map}
use Rattle.std.specs.List.{AllByRecursion}
use Rattle.refusal_order.specs.Lines.{first_true}
use Rattle.refusal_order.proofs.Laws.{none_first}
use Rattle.cose.specs.Schemes.{Validity}
use Rattle.cose.specs.declared.key.Alg.{Alg}
use Rattle.cose.specs.declared.key.Alg.TheVariants as algs
use Rattle.cose.specs.declared.key.SigningAlg.{SigningAlg}
use Rattle.cose.specs.declared.key.SigningAlg.TheVariants as signing
use Rattle.cose.specs.Keys.{signed_alg}
use Rattle.ctap_requests.specs.Entities.{AssertionFlags, CreationFlags}
use Rattle.ctap_requests.specs.Requests.{RequestMessage}
use Rattle.ctap_requests.specs.Status.{ranks}
use Rattle.authenticator.specs.State.{AuthenticatorState}
use Rattle.authenticator.specs.Credentials.{credential_of}
use Rattle.authenticator.specs.Orders as order
use Rattle.authenticator.specs.Orders.{assertion_order, candidates, creation_order, first_is_at_end, first_supported, is_empty, is_excluded}
use Rattle.authenticator.specs.Orders.{is_false, is_true, kept}
use Rattle.authenticator.specs.Steps.{CarriesOut, Keys, Outcome, Step}
use Rattle.authenticator.specs.declared.consent.Consent.{Consent}
use Rattle.authenticator.specs.declared.consent.Words.{Words}
use Rattle.agreement.specs.Honest.{OffersSigning}
use Rattle.client.specs.Options.{RegistrationOptions, SignInOptions}
use Rattle.client.specs.Asked as client
use Rattle.client.specs.Asked.{IsWritten, assertion_of, creation_of, descriptors_of, parameters_of, wanted}

-- the request that was written is the one that is read
pub carried_out : (valid : Validity) (public : Keys) (old : AuthenticatorState) (channel : ℕ) (bs : List ℕ) (consent : Consent) (words : Words) (out : Outcome)
    (q : RequestMessage) → IsWritten q bs
    → Step valid public old channel bs consent words out → CarriesOut valid public old channel consent words q out
carried_out valid public old channel bs consent words out q w s = elim s [
  | inl r ↦ absurd (none_first (λ x no yes. no yes) ranks r.0 w.1 r.1)
  | inr k ↦ subst (λ (p : RequestMessage). CarriesOut valid public old channel consent words p out) (sym (k.1.only q None w.0)) k.2
]

-- ---- options

created_flags : (rk uv : Bool) → order.creation_flags (client.creation_flags rk uv) ≡ record { rk = wanted rk; up = None; uv = wanted uv }
created_flags true true = refl
created_flags true false = refl
created_flags false true = refl
created_flags false false = refl

asserted_flags : (uv : Bool) → order.assertion_flags (client.assertion_flags uv) ≡ record { up = None; uv = wanted uv }
asserted_flags true = refl
asserted_flags false = refl

is_wanted : (b : Bool) → is_true (wanted b) ≡ b
is_wanted true = refl
is_wanted false = refl

pub asks_resident : (rk uv : Bool) → is_true (order.creation_flags (client.creation_flags rk uv)).rk ≡ rk
asks_resident rk uv = ap (λ (f : CreationFlags). is_true f.rk) (created_flags rk uv) ∙ is_wanted rk

pub asks_verified : (rk uv : Bool) → is_true (order.creation_flags (client.creation_flags rk uv)).uv ≡ uv
asks_verified rk uv = ap (λ (f : CreationFlags). is_true f.uv) (created_flags rk uv) ∙ is_wanted uv

creation_up : (rk uv : Bool) → (order.creation_flags (client.creation_flags rk uv)).up ≡ None
creation_up rk uv = ap (λ (f : CreationFlags). f.up) (created_flags rk uv)

pub asserts_verified : (uv : Bool) → is_true (order.assertion_flags (client.assertion_flags uv)).uv ≡ uv
asserts_verified uv = ap (λ (f : AssertionFlags). is_true f.uv) (asserted_flags uv) ∙ is_wanted uv

pub assertion_up : (uv : Bool) → (order.assertion_flags (client.assertion_flags uv)).up ≡ None
assertion_up uv = ap (λ (f : AssertionFlags). f.up) (asserted_flags uv)

-- what is wanted is there
is_met : (want has : Bool) → (want ≡ true → has ≡ true) → (want && not has) ≡ false
is_met false has h = refl
is_met true true h = refl
is_met true false h = absurd (let bad = h refl in cc)

consented : (present want has : Bool) → present ≡ true → (want ≡ true → has ≡ true) → (not present || (want && not has)) ≡ false
consented true want has p h = is_met want has h
consented false want has p h = absurd cc

-- ---- algorithms

-- the first that is supported is one that was offered
abbrev pub Chosen : List Alg → Type 0
Chosen offered = (alg : SigningAlg) × (first_supported (map parameters_of offered) ≡ Some alg) × Contains offered (signed_alg alg)

-- RS256 is passed over
passed_over : (more : List Alg) → Chosen more → Chosen (algs.Rs256 ∷ more)
passed_over more c = (c.0, c.1, (suc c.2.0, omega (arith, c.2.1), c.2.2))

not_rs256 : (alg : SigningAlg) → algs.Rs256 ≡ signed_alg alg → ⊥
not_rs256 signing.Es256 e = absurd cc
not_rs256 signing.EdDsa e = absurd cc

pub chosen : (offered : List Alg) (alg : SigningAlg) → Contains offered (signed_alg alg) → Chosen offered
chosen [] alg (k, lt, e) = let bad : k < 0 = lt in absurd (omega arith)
chosen (algs.Es256 ∷ more) alg has = (signing.Es256, refl, (0, omega arith, refl))
chosen (algs.EdDsa ∷ more) alg has = (signing.EdDsa, refl, (0, omega arith, refl))
chosen (algs.Rs256 ∷ more) alg (zero, lt, e) = absurd (not_rs256 alg e)
chosen (algs.Rs256 ∷ more) alg (suc k, lt, e) = passed_over more (chosen more alg (k, omega (arith, lt), e))

-- ---- orders

-- no line's test is true
none_true : (lines : List (Bool × ℕ)) → AllByRecursion (λ l. l.0 ≡ false) lines → first_true lines ≡ None
none_true [] h = refl
none_true (l ∷ lines) h = ap (λ b. option_map (λ x. x.1) (cond b (Some l) (find (λ x. x.0) lines))) h.0 ∙ none_true lines h.1

below_room : (n : ℕ) → n < 256 → nat_le 256 n ≡ false
below_room n lt = search (rules, lt)

pub none_against_creation : (a : AuthenticatorState) (o : RegistrationOptions) (t : List ℕ) (consent : Consent) (words : Words) → OffersSigning o.algs
    → (o.uv ≡ true → a.uv ≡ true) → consent.present ≡ true
    → (o.uv ≡ true → consent.verified ≡ true) → is_excluded o.rp_id a.credentials (descriptors_of o.exclude) ≡ false
    → credential_of words.id a.credentials ≡ None
    → length (kept a.credentials (creation_of o t)) < 256 → first_true (creation_order a (creation_of o t) consent words) ≡ None
none_against_creation a o t consent words offered configured present verified excluded new room =
    let alg = chosen o.algs offered.0 offered.1 in
    let asks = asks_verified o.rk o.uv in
    let flags = order.creation_flags (client.creation_flags o.rk o.uv) in
    let met : (is_false flags.up || (is_true flags.uv && not a.uv)) ≡ false =
    ap (λ up. is_false up || (is_true flags.uv && not a.uv)) (creation_up o.rk o.uv) ∙ ap (λ uv. uv && not a.uv) asks ∙ is_met o.uv a.uv configured in
    let given : (not consent.present || (is_true flags.uv && not consent.verified)) ≡ false =
    ap (λ uv. not consent.present || (uv && not consent.verified)) asks ∙ consented consent.present o.uv consent.verified present verified in
    none_true (creation_order a (creation_of o t) consent words)
    (ap is_none alg.1, (met, (given, (excluded, (ap is_some new, (below_room (length (kept a.credentials (creation_of o t))) room, tt))))))

pub none_against_assertion : (a : AuthenticatorState) (o : SignInOptions) (t : List ℕ) (consent : Consent) (id : List ℕ) (ids : List (List ℕ))
    → (o.uv ≡ true → a.uv ≡ true) → consent.present ≡ true
    → (o.uv ≡ true → consent.verified ≡ true) → candidates a.credentials o.rp_id (descriptors_of o.allow) ≡ id ∷ ids
    → order.is_at_end (credential_of id a.credentials) ≡ false
    → first_true (assertion_order a (assertion_of o t) consent) ≡ None
none_against_assertion a o t consent id ids configured present verified first below =
    let asks = asserts_verified o.uv in
    let flags = order.assertion_flags (client.assertion_flags o.uv) in
    let met : (is_true flags.uv && not a.uv) ≡ false = ap (λ uv. uv && not a.uv) asks ∙ is_met o.uv a.uv configured in
    let given : ((not (is_false flags.up) && not consent.present) || (is_true flags.uv && not consent.verified)) ≡ false =
    ap (λ up. (not (is_false up) && not consent.present) || (is_true flags.uv && not consent.verified)) (assertion_up o.uv)
    ∙ ap (λ uv. not consent.present || (uv && not consent.verified)) asks ∙ consented consent.present o.uv consent.verified present verified in
    none_true (assertion_order a (assertion_of o t) consent) (met, (given, (ap is_empty first, (ap (first_is_at_end a.credentials) first ∙ below, tt))))
