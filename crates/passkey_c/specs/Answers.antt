-- What each call answers and writes: the contract of the call and of the symbol of C that hands it on.
use Rattle.std.specs.Prelude.{◌≡◌, ◌≢◌, ◌↔◌, ◌++◌, ◌<◌, IsTrue, Bool, List, Some, drop, false, length, true, ℕ}
use Rattle.std.specs.Int.{to_be_bytes, w64}
use Rattle.refusal_order.specs.Lines.{Each}
use Rattle.ccbor.specs.Canon.{Canon}
use Rattle.ccbor.specs.Item.{Item}
use Rattle.clientdata.specs.Serialised.{challenge_text_of}
use Rattle.cose.specs.declared.key.CoseKey.{CoseKey}
use Rattle.verification.specs.Numbers.{registration_number, sign_in_number}
use Rattle.verification.specs.SignIn.{IsFirstFailing as IsFirstOfSignIn, PassesSignIn}
use Rattle.verification.specs.Registration.{IsFirstFailing as IsFirstOfRegistration, PassesRegistration}
use Rattle.verification.specs.declared.refusal.RegistrationRefusal.{RegistrationRefusal}
use Rattle.verification.specs.declared.refusal.SignInRefusal.{SignInRefusal}
use Rattle.passkey_c.specs.Asked.{AskKeeps, IsBroken, IsUnread, Tells, response_of}
use Rattle.passkey_c.specs.Cose.{IsCoseKey}
use Rattle.passkey_c.specs.Limits.{KeyKeeps, RegistrationKeeps, SignInKeeps, key_order, registration_limits, sign_in_limits}
use Rattle.passkey_c.specs.Numbers.{IsAskAnswer, limit_number}
use Rattle.passkey_c.specs.Parts.{TellsKey, flag_of, key_of, profile_of}
use Rattle.passkey_c.specs.Registrations.{IsRegistrationAnswer, TellsRegistration, judged_registration, registration_validity}
use Rattle.passkey_c.specs.SignIns.{IsSignInAnswer, TellsSignIn, judged_sign_in, sign_in_validity}
use Rattle.passkey_c.specs.Texts.{IsText}
use Rattle.passkey_c.specs.declared.answers.Limit.{Limit}
use Rattle.passkey_c.specs.declared.parts.AssertionCall.{AssertionCall}
use Rattle.passkey_c.specs.declared.parts.AssertionOut.{AssertionOut}
use Rattle.passkey_c.specs.declared.parts.KeyOut.{KeyOut}
use Rattle.passkey_c.specs.declared.parts.KeyParts.{KeyParts}
use Rattle.passkey_c.specs.declared.parts.RegistrationCall.{RegistrationCall}
use Rattle.passkey_c.specs.declared.parts.RegistrationOut.{RegistrationOut}
use Rattle.passkey_c.specs.declared.parts.SignatureCall.{SignatureCall}
use Rattle.passkey_c.specs.declared.parts.SignatureOut.{SignatureOut}

-- what a host learns of a signature: what is said of it, and the rooms of its message and of itself
pub record AskedRooms : Type 0 where
  pub out : SignatureOut
  pub message : List ℕ
  pub signature : List ℕ

-- which signature the host is to verify: told with 0; 7 where a registration attests nothing, else the limit that is not kept
pub record IsSignatureAsked (call : SignatureCall) (old new : AskedRooms) (result : ℕ) : Type 0 where
  pub told : result ≡ 0 → Tells call new.out new.message new.signature new.out.is_asked
  pub unread : result ≡ 7 → (flag_of call.is_registration ≡ true) × IsUnread (profile_of call.profile) (response_of call.registration)
  pub limit : (limit : Limit) → result ≡ limit_number limit → IsBroken call (length old.message) (length old.signature) limit
  pub within : result < 100 → AskKeeps (flag_of call.is_registration) call
  pub answer : IsAskAnswer result
  pub untouched : result ≢ 0 → (new.out ≡ old.out) × (new.message ≡ old.message) × (new.signature ≡ old.signature)

-- a sign-in is judged (WebAuthn Level 2, section 7.2): 0 where each step is passed, and then it is answered what its response
-- says; else the first step that is not passed, or the limit that is not kept
pub record IsAssertion (call : AssertionCall) (old new : AssertionOut) (result : ℕ) : Type 0 where
  pub accepted : result ≡ 0 → PassesSignIn (sign_in_validity call) (judged_sign_in call)
  pub told : result ≡ 0 → TellsSignIn call new
  pub refused : (step : SignInRefusal) → result ≡ sign_in_number step → IsFirstOfSignIn (sign_in_validity call) (judged_sign_in call) step
  pub limit : (limit : Limit) → result ≡ limit_number limit → SignInKeeps call limit → ⊥
  pub within : result < 100 → Each (SignInKeeps call) sign_in_limits
  pub answer : IsSignInAnswer result
  pub untouched : result ≢ 0 → new ≡ old

-- a registration is judged (section 7.1), by the same answers
pub record IsRegistration (call : RegistrationCall) (old new : RegistrationOut) (result : ℕ) : Type 0 where
  pub accepted : result ≡ 0 → PassesRegistration (registration_validity call) (judged_registration call)
  pub told : result ≡ 0 → TellsRegistration call new
  pub refused : (step : RegistrationRefusal) → result ≡ registration_number step
      → IsFirstOfRegistration (registration_validity call) (judged_registration call) step
  pub limit : (limit : Limit) → result ≡ limit_number limit → RegistrationKeeps call limit → ⊥
  pub within : result < 100 → Each (RegistrationKeeps call) registration_limits
  pub answer : IsRegistrationAnswer result
  pub untouched : result ≢ 0 → new ≡ old

-- the key whose COSE_Key bytes these are is answered: exactly if they are a key's
pub record IsKeyFromCose (bytes : List ℕ) (old new : KeyOut) (result : Bool) : Type 0 where
  pub is : IsTrue result ↔ ((key : CoseKey) × IsCoseKey key bytes)
  pub told : result ≡ true → (key : CoseKey) × IsCoseKey key bytes × TellsKey new key
  pub untouched : result ≡ false → new ≡ old

-- a key's COSE_Key bytes are written to the front of the room; the answer is how many they are
pub record IsKeyToCose (key : KeyParts) (old new : List ℕ) (result : ℕ) : Type 0 where
  pub kept : result ≢ 0 → Each (KeyKeeps key) key_order
  pub written : result ≢ 0 → (k : CoseKey) × (bytes : List ℕ) × (key_of key ≡ Some k) × IsCoseKey k bytes
      × (result ≡ length bytes) × (new ≡ bytes ++ drop result old)
  pub untouched : result ≡ 0 → new ≡ old

-- the version of the calls
abbrev pub abi_version : ℕ
abi_version = 5

-- the version of the library, 0.1.0: major * 10,000 + minor * 100 + patch
abbrev pub version : ℕ
version = 100

-- the bytes are one value of canonical CBOR
abbrev pub IsCanonical : List ℕ → Type 0
IsCanonical bytes = (v : Item) × Canon v bytes

-- a session's challenge: its number in 8 big-endian bytes, then 24 random bytes
pub record IsChallenge (session : ℕ) (words old new : List ℕ) (result : Bool) : Type 0 where
  pub fits : IsTrue result ↔ ((length words ≡ 24) × (length old ≡ 32))
  pub made : result ≡ true → new ≡ to_be_bytes w64 session ++ words
  pub untouched : result ≡ false → new ≡ old

-- a challenge as client data have it: 43 characters
pub record IsChallengeText (challenge old new : List ℕ) (result : Bool) : Type 0 where
  pub fits : IsTrue result ↔ ((length challenge ≡ 32) × (length old ≡ 43))
  pub written : result ≡ true → new ≡ challenge_text_of challenge
  pub untouched : result ≡ false → new ≡ old

-- the text of an answer is written to the front of the room, and the answer is how many bytes it has; 0 where the answer has
-- none or it does not fit
pub record IsRefusalText (is_registration : Bool) (answer : ℕ) (old new : List ℕ) (result : ℕ) : Type 0 where
  pub written : result ≢ 0 → (text : List ℕ) × IsText is_registration answer text × (result ≡ length text) × (new ≡ text ++ drop result old)
  pub none : result ≡ 0 → (text : List ℕ) → IsText is_registration answer text → length old < length text
  pub untouched : result ≡ 0 → new ≡ old
