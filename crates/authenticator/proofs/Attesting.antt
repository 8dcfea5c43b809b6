-- Attestations of new credentials.
use Rattle.std.proofs.Common.{◌≡◌, ◌≤◌, ◌++◌, ℕ, List, [], ◌∷◌, length, refl, sym, subst, arith, Vec, Global}
use Rattle.std.specs.Prelude.{Result, Ok, Err, IfOk, codes}
use Rattle.cose.specs.Keys.{alg_of, encoded_length, signed_alg}
use Rattle.cose.specs.Schemes.{Validity}
use Rattle.cose.specs.declared.key.SigningAlg.{SigningAlg}
use Rattle.cose.specs.declared.key.SigningAlg.TheVariants as signing
use Rattle.cose.specs.declared.key.CoseKey.{CoseKey}
use Rattle.cose.specs.declared.key.CoseKey.TheVariants as keys
use Rattle.authdata.specs.declared.profile.Profile.TheVariants.{Strict}
use Rattle.authdata.specs.Layout.{AuthOf}
use Rattle.authdata.specs.Statements.{packed_statement}
use Rattle.authdata.specs.declared.statement.AttestationType.{AttestationType}
use Rattle.authdata.specs.declared.statement.AttestationType.TheVariants as types
use Rattle.authdata.proofs.Unique.{length-exact}
use Rattle.ctap_replies.specs.Replies.{Creation}
use Rattle.ctap_requests.specs.Requests.{CreationRequest}
use Rattle.authenticator.specs.State.{AuthenticatorState}
use Rattle.authenticator.specs.Private.{IsAttested}
use Rattle.authenticator.specs.Steps.{Entry, IsSignature, attestation, creation_data}
use Rattle.authenticator.specs.declared.consent.Consent.{Consent}

pub attested_packed : (valid : Validity) (key : CoseKey) (client_data_hash : List ℕ) (consent : Consent) (attest : AttestationType) (r : Creation)
    (signature : List ℕ)
    → attest ≡ types.SelfSigned → r.fmt ≡ codes "packed" → IsSignature valid key (r.auth_data ++ client_data_hash) signature
    → r.statement ≡ packed_statement (alg_of key) signature
    → IsAttested valid key client_data_hash consent attest r
attested_packed valid key client_data_hash consent attest r signature e f s st =
    let entry : Entry = record { key = key; message = r.auth_data ++ client_data_hash; purpose = attestation; consent = consent } in
    subst (λ (a : AttestationType). IsAttested valid key client_data_hash consent a r) (sym e) (entry ∷ [], (f, (signature, s, st), refl))

-- the key of an algorithm that a signer has
pub at_most_77 : (key : CoseKey) (alg : SigningAlg) → alg_of key ≡ signed_alg alg → encoded_length key ≤ 77
at_most_77 (keys.Es256 x y) alg e = omega arith
at_most_77 (keys.EdDsa x) alg e = omega arith
at_most_77 (keys.Rs256 k) signing.Es256 e = absurd cc
at_most_77 (keys.Rs256 k) signing.EdDsa e = absurd cc

pub creation_length : (a : AuthenticatorState) (q : CreationRequest) (id : List ℕ) (key : CoseKey) (bs : List ℕ) → AuthOf Strict (creation_data a q id key) bs
    → encoded_length key ≤ 77 → length id ≡ 32 → length bs ≤ 164
creation_length a q id key bs h most l =
    let exact = length-exact (creation_data a q id key) (record { aaguid = a.aaguid; id = id; key = key }) bs h refl in
    omega (arith, exact, most, l)

pub creation_size : {E : Type 0} (a : AuthenticatorState) (q : CreationRequest) (id : List ℕ) (key : CoseKey) (r : Result (Vec ℕ Global) E)
    → encoded_length key ≤ 77 → length id ≡ 32 → IfOk r (λ v. AuthOf Strict (creation_data a q id key) v.items) → IfOk r (λ v. length v.items ≤ 164)
creation_size a q id key (Ok v) most l h = creation_length a q id key v.items h most l
creation_size a q id key (Err e) most l h = tt
