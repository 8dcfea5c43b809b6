-- What an accepted response says: the data that are answered are those that its bytes spell.
use Rattle.std.proofs.Common.{◌≡◌, ◌++◌, ◌∷◌, ◌∙◌, ◌⊎◌, inl, inr, ℕ, Bool, true, false, List, [], Some, ap, arith, refl, subst, sym}
use Rattle.std.specs.Prelude.{◌≢◌, ◌≤◌, IsSome, codes, length}
use Rattle.ccbor.specs.Canon.{head, spelling}
use Rattle.ccbor.specs.Item.{text}
use Rattle.cose.specs.Schemes.{Validity}
use Rattle.cose.specs.declared.key.CoseKey.{CoseKey}
use Rattle.std.specs.Int.{to_be_bytes, w32}
use Rattle.std.proofs.lemmas.List.{append_assoc, append-nil}
use Rattle.authdata.specs.Layout.{AuthenticatorData, AuthOf, attested_bytes, data_bytes, extension_bytes}
use Rattle.authdata.specs.Layout.{lent_auth_view}
use Rattle.authdata.specs.Objects.{Attestation, ObjectOf}
use Rattle.authdata.specs.Statements.{IsNone, IsSelfSigned}
use Rattle.authdata.specs.declared.auth.AuthView.{AuthView}
use Rattle.authdata.specs.declared.profile.Profile.{Profile}
use Rattle.authdata.proofs.Unique.{is_credential}
use Rattle.authdata.specs.Layout.{IsAttestedCredential}
use Rattle.authdata.specs.declared.profile.Profile.TheVariants.{Level3, Open, Strict}
use Rattle.verification.specs.Records.{AttestedRegistration}
use Rattle.verification.specs.Registration.{JudgedRegistration, PassesRegistration, hash_in}
use Rattle.verification.specs.RegistrationAnswers.{IsVerifiedRegistration}
use Rattle.passkey_c.specs.Parts.{EndsIn, flag_of, given}
use Rattle.passkey_c.specs.Seen.{TellsSeen, TellsView}
use Rattle.passkey_c.specs.Registrations.{IsFormat, TellsRegistration, counted_in, judged_registration}
use Rattle.passkey_c.specs.SignIns.{TellsSignIn, judged_sign_in}
use Rattle.passkey_c.specs.declared.parts.AssertionCall.{AssertionCall}
use Rattle.passkey_c.specs.declared.parts.AssertionOut.{AssertionOut}
use Rattle.passkey_c.specs.declared.parts.RegistrationCall.{RegistrationCall}
use Rattle.passkey_c.specs.declared.parts.RegistrationOut.{RegistrationOut}

-- what stands before does not change how bytes end
behind : (front whole end : List ℕ) → EndsIn whole end → EndsIn (front ++ whole) end
behind front whole end h = (front ++ h.0, ap (λ (l : List ℕ). front ++ l) h.1 ∙ sym (append_assoc front h.0 end))

-- authenticator data end in their extensions
data_end : (a : AuthenticatorData) → EndsIn (data_bytes a) (extension_bytes a.extensions)
data_end a = behind a.rp_id_hash _ _ (behind (a.flags ∷ []) _ _ (behind (to_be_bytes w32 a.sign_count) _ _ (attested_bytes a.attested, refl)))

-- an attestation object ends in its authenticator data
object_end : (o : Attestation) (bytes : List ℕ) → ObjectOf o bytes → EndsIn bytes o.auth_data
object_end o bytes h =
    let last : EndsIn ((head 2 (length o.auth_data) ++ o.auth_data) ++ []) o.auth_data = (head 2 (length o.auth_data), append-nil _) in
    let pairs = behind (spelling (text (codes "fmt"))) _ _ (behind (spelling (text o.fmt)) _ _ (behind (spelling (text (codes "attStmt"))) _ _
    (behind (spelling o.statement) _ _ (behind (spelling (text (codes "authData"))) _ _ last)))) in
    subst (λ (l : List ℕ). EndsIn l o.auth_data) (sym h.1.1) (behind (head 5 3) _ _ pairs)

-- the format is reported as the statement shows it
format_of : (format : List ℕ) (n : ℕ) (o : Attestation) (key : CoseKey) (valid : Validity) (hash : List ℕ) → format ≡ o.fmt
    → (format ≡ codes "none" → n ≡ 0) × (format ≢ codes "none" → n ≡ 1) → IsNone o ⊎ IsSelfSigned valid o key hash → IsFormat n o key
format_of format n o key valid hash is told (inl none) = inl (told.0 (is ∙ none.0), none)
format_of format n o key valid hash is told (inr signed) = inr (
  told.1 (λ none. let other : codes "none" ≡ codes "packed" = sym none ∙ (is ∙ signed.0) in absurd cc),
  (signed.1.0, (signed.0, signed.1.1)),
)

-- the view's members are those of its bytes
pub tells_sign_in : (call : AssertionCall) (out : AssertionOut) (view : AuthView)
    → AuthOf (judged_sign_in call).rp.profile (lent_auth_view view) call.response.auth_data.now → TellsView out view → TellsSignIn call out
tells_sign_in call out view spelled told =
    let end : EndsIn call.response.auth_data.now (extension_bytes (lent_auth_view view).extensions) =
    subst (λ (l : List ℕ). EndsIn l (extension_bytes (lent_auth_view view).extensions)) (sym spelled.1) (data_end (lent_auth_view view)) in
    (lent_auth_view view, spelled, (told.0, told.1, told.2, told.3, told.4, (told.5, end)))

-- a session that is there is the one that is given
is_given : {T : Type 0} (there : Bool) (x : T) → IsSome (given there x) → given there x ≡ Some x
is_given true x some = refl
is_given false x none = absurd cc

-- what is answered of an accepted registration is what it attests
pub tells_registration : (call : RegistrationCall) (out : RegistrationOut) (v : AttestedRegistration) (valid : Validity)
    → IsVerifiedRegistration (judged_registration call) v → PassesRegistration valid (judged_registration call) → TellsSeen out v
    → TellsRegistration call out
tells_registration call out v valid verified passes told =
    let o = verified.0 in
    let attests = verified.1 in
    let session = is_given (flag_of call.has_session) _ passes.0 in
    let at_end = object_end o _ attests.object in
    let rest : EndsIn o.auth_data (extension_bytes v.auth_data.extensions) =
    subst (λ (l : List ℕ). EndsIn l (extension_bytes v.auth_data.extensions)) (sym attests.auth_data.1) (data_end v.auth_data) in
    let end : EndsIn call.response.object.now (extension_bytes v.auth_data.extensions) =
    subst (λ (l : List ℕ). EndsIn l (extension_bytes v.auth_data.extensions)) (sym at_end.1) (behind at_end.0 _ _ rest) in
    let statement = passes.1.1.1.1.1.1.1.1.1.1.1.1.1.1.1.0 _ session o v.auth_data v.credential attests in
    let hash = hash_in (judged_registration call).response in
    let format = format_of v.format out.format (counted_in call o) v.credential.key valid hash (verified.2 _ session) told.8 statement in (
      o,
      v.auth_data,
      v.credential,
      attests,
      (told.0, told.1, told.2, told.3, told.4, told.5, told.6, told.7, format, (told.9, end)),
    )

-- an attested id has at most 1,023 bytes
pub id_fits : (x : JudgedRegistration) (v : AttestedRegistration) → IsVerifiedRegistration x v → length v.credential.id ≤ 1023
id_fits x v verified = fits x.rp.profile (is_credential v.auth_data v.credential verified.1.auth_data.0 verified.1.attested) where
  fits : (p : Profile) → IsAttestedCredential p v.credential → length v.credential.id ≤ 1023
  fits Strict is = omega (arith, is.id_high)
  fits Open is = omega (arith, is.id_high)
  fits Level3 is = omega (arith, is.id_high)
