-- Signing in two steps, for a host that signs elsewhere. The first step answers the request, or tells what is to be
-- signed and leaves the authenticator as it was. The second takes the signature.
use Rattle.std.specs.Prelude.{◌≡◌, ◌≤◌, ◌<◌, ℕ, ◌+◌, List, [], ◌∷◌, ◌++◌, length, Option, Some, None, codes, reverse, Vec}
use Rattle.std.specs.Global.{Global}
use Rattle.cose.specs.Keys.{signed_alg}
use Rattle.cose.specs.Schemes.{Validity}
use Rattle.cose.specs.declared.key.SigningAlg.{SigningAlg}
use Rattle.cose.specs.declared.key.CoseKey.{CoseKey}
use Rattle.authdata.specs.Statements.{packed_statement}
use Rattle.ctap_requests.specs.RequestView.{creation_view}
use Rattle.ctap_replies.specs.Replies.{Assertion, ReplyMessage, assertion_reply, creation_reply, next_reply, ReplyOf}
use Rattle.authenticator.specs.State.{Asked, AuthenticatorState, CredentialSource, Remembered, forgotten}
use Rattle.authenticator.specs.Credentials.{credential_of, with_sign_count}
use Rattle.authenticator.specs.Orders.{kept}
use Rattle.authenticator.specs.Steps.{Comes, IsSignature, Keys, Outcome, Step, Steps, new_credential, number_with, remembering, shown_user}
use Rattle.authenticator.specs.Views.{asked_view}
use Rattle.authenticator.specs.declared.consent.Consent.{Consent}
use Rattle.authenticator.specs.declared.consent.Words.{Words}
use Rattle.authenticator.specs.declared.pending.Begun.{Begun}
use Rattle.authenticator.specs.declared.pending.Begun.TheVariants as begun
use Rattle.authenticator.specs.declared.pending.Pending.{Pending}
use Rattle.authenticator.specs.declared.pending.Work.{Work}
use Rattle.authenticator.specs.declared.pending.Work.TheVariants as work

-- ---- what is to be signed

abbrev pub auth_data_of : Work → List ℕ
auth_data_of (work.Creation c) = c.auth_data.items
auth_data_of (work.Assertion a) = a.auth_data.items
auth_data_of (work.Next n) = n.auth_data.items

abbrev pub hash_of : Work → List ℕ
hash_of (work.Creation c) = c.request.client_data_hash.items
hash_of (work.Assertion a) = a.asked.client_data_hash.items
hash_of (work.Next n) = n.client_data_hash.items

-- the authenticator data and then the hash of the client data (WebAuthn Level 2, sections 6.3.3 and 8.2)
abbrev pub message_of : Pending → List ℕ
message_of p = auth_data_of p.work ++ hash_of p.work

-- ---- which signatures count

-- none
abbrev pub no_signature : Validity
no_signature k m s = ⊥

-- this one, of this message under this key
abbrev pub only : CoseKey → List ℕ → List ℕ → Validity
only key message signature k m s = (k ≡ key) × (m ≡ message) × (s ≡ signature)

-- ---- the second step

-- a credential answers with this authenticator data and signature, where it is stored and its counter can grow
abbrev pub AnswersBy : AuthenticatorState → List ℕ → Asked → List (List ℕ) → (Assertion → ReplyMessage) → Option ℕ
    → List ℕ → List ℕ → List ℕ → AuthenticatorState → Type 0
AnswersBy old id asked later message count auth_data signature reply new =
    (c : CredentialSource) → credential_of id old.credentials ≡ Some c → c.sign_count < 4294967295
    → ReplyOf (message (record { credential = c.id; auth_data = auth_data; signature = signature; user = shown_user c; number = count })) reply
    × (new ≡ record old { credentials = with_sign_count id (c.sign_count + 1) old.credentials; remembered = remembering asked later })

-- with its signature the request has this reply, and the authenticator this state
abbrev pub FinishesWork : AuthenticatorState → SigningAlg → Work → List ℕ → List ℕ → AuthenticatorState → Type 0
FinishesWork old alg (work.Creation c) signature reply new =
    ReplyOf (creation_reply (record { fmt = codes "packed"; auth_data = c.auth_data.items; statement = packed_statement (signed_alg alg) signature })) reply
    × (new ≡ record (forgotten old)
    { credentials = kept old.credentials (creation_view c.request) ++ new_credential (creation_view c.request) alg c.words ∷ [] })
FinishesWork old alg (work.Assertion a) signature reply new =
    AnswersBy old a.candidates.first (asked_view a.asked) (reverse a.candidates.later.items) assertion_reply
    (number_with (reverse a.candidates.later.items)) a.auth_data.items signature reply new
FinishesWork old alg (work.Next n) signature reply new =
    (r : Remembered) → old.remembered ≡ Some r
    → AnswersBy old r.next r.asked r.later next_reply None n.auth_data.items signature reply new

abbrev pub Finishes : AuthenticatorState → Pending → List ℕ → List ℕ → AuthenticatorState → Type 0
Finishes old p signature reply new = FinishesWork old p.alg p.work signature reply new

-- ---- the first step

-- with each signature of 1 to 128 bytes, what the second step comes to is such an outcome where that signature, of
-- that message under that key, is valid
abbrev pub Waits : (Validity → Outcome → Type 0) → Keys → AuthenticatorState → Pending → Type 0
Waits X public old p =
    (signature reply : List ℕ) (new : AuthenticatorState) → 1 ≤ length signature → length signature ≤ 128
    → Finishes old p signature reply new
    → Comes (X (only (public p.alg p.secret) (message_of p) signature)) reply new

-- a reply is such an outcome whatever signatures are valid; or the request waits, and nothing has changed
abbrev pub BeginsBy : (Validity → Outcome → Type 0) → Keys → AuthenticatorState → Begun → AuthenticatorState → Type 0
BeginsBy X public old (begun.Replied reply) new = Comes (X no_signature) reply.items new
BeginsBy X public old (begun.Signs p) new = (new ≡ old) × Waits X public old p

-- the outcomes are the steps that this request may have
abbrev pub Begins : Keys → AuthenticatorState → ℕ → List ℕ → Consent → Words → Begun → AuthenticatorState → Type 0
Begins public old channel bs consent words b new =
    BeginsBy (λ valid out. Step valid public old channel bs consent words out) public old b new

-- of this secret the one has the keys of the other
abbrev pub AgreesOn : List ℕ → Keys → Keys → Type 0
AgreesOn secret public known = (alg : SigningAlg) → public alg secret ≡ known alg secret

-- a reply, where it is one, has at most 7,609 bytes
abbrev pub HasSize : Begun → Type 0
HasSize (begun.Replied reply) = length reply.items ≤ 7609
HasSize (begun.Signs p) = Unit {0}

-- ---- both steps are one step of the authenticator

pub record SigningLaws (valid : Validity) (public : Keys) : Type 0 where
  -- what is answered at once is a step
  pub replied : (old new : AuthenticatorState) (channel : ℕ) (bs : List ℕ) (consent : Consent) (words : Words) (reply : Vec ℕ Global)
      → Begins public old channel bs consent words (begun.Replied reply) new
      → Steps valid public old channel bs consent words reply.items new
  -- what waits has changed nothing, and with a signature that is valid the two calls are a step
  pub signed : (old middle new : AuthenticatorState) (channel : ℕ) (bs : List ℕ) (consent : Consent) (words : Words) (p : Pending)
      (signature reply : List ℕ)
      → Begins public old channel bs consent words (begun.Signs p) middle
      → IsSignature valid (public p.alg p.secret) (message_of p) signature
      → Finishes middle p signature reply new
      → (middle ≡ old) × Steps valid public old channel bs consent words reply new
