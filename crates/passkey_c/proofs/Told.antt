-- Which signature a registration asks for, by its parts.
use Rattle.std.proofs.Common.{◌≡◌, ◌++◌, ℕ, Bool, List, subst, sym}
use Rattle.authdata.specs.declared.profile.Profile.{Profile}
use Rattle.authdata.specs.Layout.{AuthOf}
use Rattle.authdata.specs.Objects.{Attestation, ObjectOf}
use Rattle.authdata.specs.Responses.{AuthenticatorAttestationResponse}
use Rattle.authdata.specs.Statements.{IsSelfSignedBy}
use Rattle.authdata.proofs.Objects.{one_object}
use Rattle.cose.specs.Keys.{lent_key_view}
use Rattle.cose.specs.declared.key.CoseKey.{CoseKey}
use Rattle.verification.specs.Registration.{counted, hash_in}
use Rattle.verification.specs.AttestedKey.{AttestsKey, AttestsNoKey}
use Rattle.passkey_c.specs.Asked.{Asks, AsksNothing, IsBroken, IsNotSelfSigned, IsSmall, IsUnread, SelfAsks, Tells, TellsAs}
use Rattle.passkey_c.specs.Parts.{flag_of}
use Rattle.passkey_c.specs.declared.answers.Limit.{Limit}
use Rattle.passkey_c.specs.declared.answers.Limit.TheVariants as limits
use Rattle.passkey_c.specs.declared.asked.AskedSignature.{AskedSignature}
use Rattle.passkey_c.specs.declared.parts.SignatureCall.{SignatureCall}
use Rattle.passkey_c.specs.declared.parts.SignatureOut.{SignatureOut}

pub asks_nothing : (p : Profile) (asked : Bool) (r : AuthenticatorAttestationResponse) (o : Attestation) (key : CoseKey) → ObjectOf o r.object
    → AttestsKey p o.auth_data key → IsNotSelfSigned (counted p asked o) key → AsksNothing p asked r
asks_nothing p asked r o key spelled attests none = (
  o,
  attests.0,
  attests.1,
  record { object = spelled; auth_data = attests.2; attested = attests.3 },
  subst (IsNotSelfSigned (counted p asked o)) (sym attests.4) none,
)

pub self_asks : (p : Profile) (asked : Bool) (r : AuthenticatorAttestationResponse) (o : Attestation) (key : CoseKey) (message signature : List ℕ)
    → ObjectOf o r.object → AttestsKey p o.auth_data key → IsSelfSignedBy (counted p asked o) key signature → message ≡ o.auth_data ++ hash_in r
    → SelfAsks p asked r key message signature
self_asks p asked r o key message signature spelled attests signed joined = (
  o,
  attests.0,
  attests.1,
  record { object = spelled; auth_data = attests.2; attested = attests.3 },
  attests.4,
  subst (λ k. IsSelfSignedBy (counted p asked o) k signature) (sym attests.4) signed,
  joined,
)

pub is_unread : (p : Profile) (r : AuthenticatorAttestationResponse) (o : Attestation) → ObjectOf o r.object → AttestsNoKey p o.auth_data → IsUnread p r
is_unread p r o spelled none = λ other a c attests.
    let same : other ≡ o = one_object other o r.object attests.object spelled in
    none a c (subst (λ (x : Attestation). AuthOf p a x.auth_data) same attests.auth_data) attests.attested

-- what is answered is what was asked
pub tells : (call : SignatureCall) (out : SignatureOut) (message signature : List ℕ) (asked : AskedSignature)
    → Asks (flag_of call.is_registration) call (lent_key_view asked.key) (asked.auth_data.now ++ asked.hash) asked.signature.now
    → TellsAs out message signature asked
    → Tells call out message signature out.is_asked
tells call out message signature asked asks told =
    rw told.0 (lent_key_view asked.key, asked.auth_data.now ++ asked.hash, asked.signature.now, asks, told.1, told.2, told.3)

-- a room that is too small for it
pub broken : (call : SignatureCall) (m s : ℕ) (asked : AskedSignature) (limit : Limit)
    → Asks (flag_of call.is_registration) call (lent_key_view asked.key) (asked.auth_data.now ++ asked.hash) asked.signature.now
    → IsSmall m s asked limit → IsBroken call m s limit
broken call m s asked limits.MessageRoom asks small = (lent_key_view asked.key, asked.auth_data.now ++ asked.hash, asked.signature.now, asks, small)
broken call m s asked limits.SignatureRoom asks small = (lent_key_view asked.key, asked.auth_data.now ++ asked.hash, asked.signature.now, asks, small)
broken call m s asked limits.RpId asks small = absurd small
broken call m s asked limits.Origin asks small = absurd small
broken call m s asked limits.Profile asks small = absurd small
broken call m s asked limits.TopOrigin asks small = absurd small
broken call m s asked limits.Challenge asks small = absurd small
broken call m s asked limits.KeyAlgorithm asks small = absurd small
broken call m s asked limits.KeyX asks small = absurd small
broken call m s asked limits.KeyY asks small = absurd small
broken call m s asked limits.VerifiedAlgorithm asks small = absurd small
broken call m s asked limits.VerifiedX asks small = absurd small
broken call m s asked limits.VerifiedY asks small = absurd small
