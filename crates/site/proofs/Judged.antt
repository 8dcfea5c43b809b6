-- A response as it is judged, by what the table and the sessions answer.
use Rattle.std.proofs.Common.{◌≡◌, ◌<◌, ◌≤◌, ◌↔◌, ℕ, List, ◌∙◌, ap, refl, sym, subst, inl, inr, arith, nat_lt, length}
use Rattle.std.proofs.lemmas.Grind.{common_steps}
use Rattle.std.proofs.lemmas.Bool.{cases_Bool}
use Rattle.std.specs.Prelude.{Bool, true, false, not, Option, Some, None, IsSome, IsTrue, is_some, option_map}
use Rattle.authdata.specs.declared.profile.Profile.{Profile}
use Rattle.authdata.specs.declared.profile.Profile.TheVariants.{Level3, Open, Strict}
use Rattle.authdata.specs.Profiles.{max_id}
use Rattle.authdata.specs.Layout.{AuthenticatorData, AttestedCredential, IsAuthenticatorData}
use Rattle.authdata.proofs.Unique.{is_credential}
use Rattle.authdata.specs.Responses.{AuthenticatorAssertionResponse}
use Rattle.authdata.specs.Responses as responses
use Rattle.cose.specs.declared.key.CoseKey.{CoseKey}
use Rattle.verification.specs.Records.{RelyingParty, Credential, ExpectedSignIn, ExpectedRegistration}
use Rattle.verification.specs.SignIn.{JudgedSignIn}
use Rattle.verification.specs.Registration.{JudgedRegistration}
use Rattle.verification.specs.declared.party.Policy.{Policy}
use Rattle.site_state.specs.Table.{IsWithin, row_of, signed_in, with_row}
use Rattle.site_state.specs.Sessions.{OpenSessions}
use Rattle.site.specs.State.{SiteState}

-- ---- sign-in

abbrev attempt_with : RelyingParty → AuthenticatorAssertionResponse → Option ExpectedSignIn → Option Credential → JudgedSignIn
attempt_with rp r session credential = record { rp = rp; session = session; credential = credential; response = r }

pub same_attempt : (rp : RelyingParty) (r : AuthenticatorAssertionResponse) (s t : Option ExpectedSignIn) (c d : Option Credential) → s ≡ t → c ≡ d
    → attempt_with rp r s c ≡ attempt_with rp r t d
same_attempt rp r s t c d sessions credentials =
    ap (λ x. attempt_with rp r x c) sessions ∙ ap (attempt_with rp r t) credentials

-- ---- registration

abbrev registration_with : RelyingParty → Policy → responses.AuthenticatorAttestationResponse → (List ℕ → Bool) → Bool → Option ExpectedRegistration
    → JudgedRegistration
registration_with rp policy r is_registered is_full session =
    record { rp = rp; policy = policy; session = session; response = r; is_registered = is_registered; is_full = is_full }

pub same_registration : (rp : RelyingParty) (policy : Policy) (r : responses.AuthenticatorAttestationResponse) (is_registered : List ℕ → Bool) (is_full : Bool)
    (s t : Option ExpectedRegistration) → s ≡ t
    → registration_with rp policy r is_registered is_full s ≡ registration_with rp policy r is_registered is_full t
same_registration rp policy r is_registered is_full s t sessions = ap (registration_with rp policy r is_registered is_full) sessions

-- whether a row is there, as it is given
pub said_row : (b : Bool) (o : Option Credential) → b ≡ false ↔ o ≡ None → is_some o ≡ b
said_row true None is = let none : Option Credential = None in let no : true ≡ false = is.1 refl in cc
said_row false None is = refl
said_row true (Some x) is = refl
said_row false (Some x) is = let bad : Some x ≡ None = is.0 refl in cc

pub no_row : (o : Option Credential) → is_some o ≡ false → o ≡ None
no_row None e = refl
no_row (Some x) e = let bad : true ≡ false = e in cc

-- whether there is room, as it is given
abbrev pub is_full : List Credential → Bool
is_full rows = not (nat_lt (length rows) 65536)

pub said_full : (b : Bool) (rows : List Credential) → IsTrue b ↔ (65536 ≤ length rows) → is_full rows ≡ b
said_full true rows is = let few = is.0 refl in grind (arith, common_steps, few)
said_full false rows is =
    elim (cases_Bool (nat_lt (length rows) 65536)) [
      | inl lt ↦ rw lt refl
      | inr ge ↦ let many : 65536 ≤ length rows = grind (arith, common_steps, ge) in let no : false ≡ true = is.1 many in cc
    ]

pub has_room : (rows : List Credential) → is_full rows ≡ false → length rows < 65536
has_room rows e = grind (arith, common_steps, e)

pub some_seen : {A B : Type 0} (f : A → B) (o : Option A) → IsSome (option_map f o) → IsSome o
some_seen f None is = is
some_seen f (Some x) is = refl

-- an attested id is within its limits, and so is the session's user handle
pub row_limits : (p : Profile) (a : AuthenticatorData) (c : AttestedCredential) (id user handle : List ℕ) → IsAuthenticatorData p a → a.attested ≡ Some c
    → id ≡ c.id → handle ≡ user → IsWithin 64 user → IsWithin (max_id p) id × IsWithin 64 handle
row_limits p a c id user handle is e ids handles low =
    let l = is_credential a c is e in
    (subst (IsWithin (max_id p)) (sym ids) (l.id_low, l.id_high), subst (IsWithin 64) (sym handles) low)

pub looser_id : (p : Profile) (id : List ℕ) → IsWithin (max_id p) id → IsWithin 1023 id
looser_id Strict id is = (is.0, omega (arith, is.1))
looser_id Open id is = is
looser_id Level3 id is = is

abbrev pub admitted_as : RelyingParty → Policy → responses.AuthenticatorAttestationResponse → List Credential → Option ExpectedRegistration → JudgedRegistration
admitted_as rp policy r rows session = registration_with rp policy r (λ id. is_some (row_of id rows)) (is_full rows) session

abbrev row_with : List ℕ → List ℕ → CoseKey → ℕ → Bool → Credential
row_with id user key sign_count eligible = record { id = id; user = user; key = key; sign_count = sign_count; eligible = Some eligible; retired = false }

-- the row that is pushed, by what is answered of it
pub same_row : {id i : List ℕ} {user u : List ℕ} {key k : CoseKey} {sign_count n : ℕ} {eligible b : Bool} → id ≡ i → user ≡ u → key ≡ k → sign_count ≡ n
    → eligible ≡ b
    → row_with id user key sign_count eligible ≡ row_with i u k n b
same_row {id} {i} {user} {u} {key} {k} {sign_count} {n} {eligible} {b} ids users keys counts marks =
    ap (λ x. row_with x user key sign_count eligible) ids ∙ ap (λ x. row_with i x key sign_count eligible) users
    ∙ ap (λ x. row_with i u x sign_count eligible) keys
    ∙ ap (λ x. row_with i u k x eligible) counts ∙ ap (row_with i u k n) marks

-- ---- the state afterwards

abbrev state_of : RelyingParty → Policy → List Credential → OpenSessions → SiteState
state_of rp policy rows sessions = record { rp = rp; policy = policy; rows = rows; sessions = sessions }

pub same_state : (rp : RelyingParty) (policy : Policy) (x y : List Credential) (s t : OpenSessions) → x ≡ y → s ≡ t
    → state_of rp policy x s ≡ state_of rp policy y t
same_state rp policy x y s t rows sessions = ap (λ l. state_of rp policy l s) rows ∙ ap (state_of rp policy y) sessions

pub same_change : (rows : List Credential) (id k : List ℕ) (m n : ℕ) (b d : Bool) → id ≡ k → m ≡ n → b ≡ d
    → with_row id (signed_in m b) rows ≡ with_row k (signed_in n d) rows
same_change rows id k m n b d ids counts marks =
    ap (λ x. with_row x (signed_in m b) rows) ids ∙ ap (λ x. with_row k (signed_in x b) rows) counts ∙ ap (λ x. with_row k (signed_in n x) rows) marks
