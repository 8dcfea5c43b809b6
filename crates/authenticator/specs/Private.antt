-- What private functions are proved against; no public clause cites it.
use Rattle.std.specs.Prelude.{◌≡◌, ◌≤◌, ◌<◌, ◌^◌, ℕ, List, [], ◌∷◌, length, Bool, not, ◌&&◌, ◌||◌, Result, Ok, Err, Option, Some, None, IfSome}
use Rattle.std.specs.Prelude.{position, remove, if◌then◌else◌, ◌==◌, nat_le}
use Rattle.std.specs.Str.{bytes_eq}
use Rattle.refusal_order.specs.Lines.{first_true}
use Rattle.ccbor.specs.Item.{Item, Items, Pairs, uint}
use Rattle.ccbor.specs.Access.{split_key, is_end, uint_in, nint_in, bytes_in, text_in, bool_in, items_in, pairs_in}
use Rattle.ccbor.specs.Reading.{◌>>=◌}
use Rattle.ccbor.specs.Viewing.{shown_items}
use Rattle.cose.specs.Schemes.{Validity}
use Rattle.cose.specs.declared.key.SigningAlg.{SigningAlg}
use Rattle.cose.specs.declared.key.SigningAlg.TheVariants as algs
use Rattle.cose.specs.declared.key.CoseKey.{CoseKey}
use Rattle.authdata.specs.declared.statement.AttestationType.{AttestationType}
use Rattle.ctap_replies.specs.Replies.{Assertion, Creation, ReplyMessage, ReplyOf}
use Rattle.ctap_requests.specs.Entities.{CredentialDescriptor}
use Rattle.ctap_requests.specs.RequestView.{assertion_options_view}
use Rattle.ctap_requests.specs.Requests.{AssertionRequest, CreationRequest, RequestMessage, make_credential}
use Rattle.ctap_requests.specs.declared.request.AssertionOptions.{AssertionOptions}
use Rattle.authenticator.specs.Credentials.{credential_of}
use Rattle.authenticator.specs.State.{Asked, CredentialSource, AuthenticatorState}
use Rattle.authenticator.specs.Orders.{assertion_flags, creation_flags, assertion_order, candidates, creation_order, first_is_at_end, is_false}
use Rattle.authenticator.specs.Orders.{is_stored_for, is_true, first_supported, kept, next_order, remembered_on}
use Rattle.authenticator.specs.Laws.{IsUnique}
use Rattle.authenticator.specs.Steps.{MakesStatement, CarriesOut, Creates, Entry, FirstAnswers, Keys, NextAnswers, Unless, asked_by}
use Rattle.authenticator.specs.Signing.{BeginsBy}
use Rattle.authenticator.specs.declared.consent.Consent.{Consent}
use Rattle.authenticator.specs.declared.consent.Words.{Words}
use Rattle.authenticator.specs.declared.make_credential.Choice.{Choice}
use Rattle.authenticator.specs.declared.members.SourceView.{SourceView}
use Rattle.authenticator.specs.declared.members.SavedMembers.{SavedMembers}
use Rattle.authenticator.specs.declared.pending.Begun.{Begun}

-- the reply has bytes, at most 7,609
pub record IsMessage (r : ReplyMessage) : Type 0 where
  pub bytes : List ℕ
  pub spelled : ReplyOf r bytes
  pub size : length bytes ≤ 7609

-- a user handle of 1 to 64 bytes
abbrev pub IsUser : List ℕ → Type 0
IsUser user = (1 ≤ length user) × (length user ≤ 64)

-- a number of credentials that a reply may have
abbrev pub IsCount : ℕ → Type 0
IsCount n = (2 ≤ n) × (n < 2 ^ 64)

-- its parts are within their limits
pub record FitsReply (r : Assertion) : Type 0 where
  pub credential : length r.credential ≡ 32
  pub auth_data : length r.auth_data ≡ 37
  pub signature : length r.signature ≤ 128
  pub user : IfSome r.user IsUser
  pub number : IfSome r.number IsCount

-- with some signing or none
abbrev pub IsAttested : Validity → CoseKey → List ℕ → Consent → AttestationType → Creation → Type 0
IsAttested valid key client_data_hash consent attest r = (signed : List Entry) × MakesStatement valid key client_data_hash consent attest r signed

-- the credential of the descriptor, where it is stored for this relying party
abbrev pub stored_for : List ℕ → List CredentialSource → CredentialDescriptor → Option CredentialSource
stored_for rp_id cs d = if is_stored_for rp_id cs d then credential_of d.id cs else None

-- the first credential of this id stands at this place
abbrev pub StandsAt : List ℕ → List CredentialSource → ℕ → Type 0
StandsAt id cs place = (place < length cs) × (position (λ c. bytes_eq c.id id) cs ≡ Some place)

-- without the one at a place
abbrev pub without : {X : Type 0} → List X → Option ℕ → List X
without xs None = xs
without xs (Some i) = remove xs i

-- exactly the credential at this place goes when the new one is made
pub record Overwrites (cs : List CredentialSource) (q : CreationRequest) (place : Option ℕ) : Type 0 where
  pub within : IfSome place (λ i. i < length cs)
  pub kept : kept cs q ≡ without cs place

-- it asks for verification
abbrev pub asks_verified : CreationRequest → Bool
asks_verified q = is_true (creation_flags q.options).uv

-- it asks for a resident credential
abbrev pub asks_resident : CreationRequest → Bool
asks_resident q = is_true (creation_flags q.options).rk

-- no line of the order applies, and this is what is made: of the first supported algorithm, as the options ask, in
-- place of what goes; or the status of the first line
abbrev pub IsChoice : AuthenticatorState → CreationRequest → Consent → Words → Result Choice ℕ → Type 0
IsChoice a q consent words (Ok choice) =
    (first_true (creation_order a q consent words) ≡ None)
    × (first_supported q.pub_key_cred_params ≡ Some choice.alg)
    × (choice.uv ≡ asks_verified q)
    × (choice.resident ≡ asks_resident q)
    × Overwrites a.credentials q choice.overwritten
IsChoice a q consent words (Err status) = first_true (creation_order a q consent words) ≡ Some status

-- a request that was read begins
abbrev pub RequestBegins : Keys → AuthenticatorState → ℕ → Consent → Words → RequestMessage → Begun → AuthenticatorState → Type 0
RequestBegins public old channel consent words q b new =
    BeginsBy (λ valid out. CarriesOut valid public old channel consent words q out) public old b new

abbrev pub HasUser : RequestMessage → Type 0
HasUser (make_credential q) = IsUser q.user.id
HasUser _ = Unit {0}

-- the lines of a getAssertion that ask for consent
abbrev pub consent_order : AuthenticatorState → AssertionRequest → Consent → List (Bool × ℕ)
consent_order a q consent =
    let flags = assertion_flags q.options in
    (is_true flags.uv && not a.uv, 0x2C)
    ∷ ((not (is_false flags.up) && not consent.present) || (is_true flags.uv && not consent.verified), 0x27)
    ∷ []

-- none of these lines applies, and these are its options; or the status of the first line
abbrev pub IsGranted : AuthenticatorState → AssertionRequest → Consent → Result AssertionOptions ℕ → Type 0
IsGranted a q consent (Ok options) =
    (first_true (consent_order a q consent) ≡ None) × (assertion_options_view options ≡ assertion_flags q.options)
IsGranted a q consent (Err status) = first_true (consent_order a q consent) ≡ Some status

-- the first of the candidates is to answer, or its counter is at its end
abbrev pub FirstBegins : Keys → AuthenticatorState → List (List ℕ) → Asked → Begun → AuthenticatorState → Type 0
FirstBegins public old ids asked b new =
    BeginsBy (λ valid out. Unless (first_true ((first_is_at_end old.credentials ids, 0x7F) ∷ [])) old out (FirstAnswers valid public old ids asked out))
    public old b new

-- a makeCredential
abbrev pub CreationBegins : Keys → AuthenticatorState → CreationRequest → Consent → Words → Begun → AuthenticatorState → Type 0
CreationBegins public old q consent words b new =
    BeginsBy (λ valid out. Unless (first_true (creation_order old q consent words)) old out (Creates valid public old q consent words out))
    public old b new

-- a getAssertion
abbrev pub AssertionBegins : Keys → AuthenticatorState → ℕ → AssertionRequest → Consent → Begun → AuthenticatorState → Type 0
AssertionBegins public old channel q consent b new =
    BeginsBy (λ valid out. Unless (first_true (assertion_order old q consent)) old out
    (FirstAnswers valid public old (candidates old.credentials q.rp_id q.allow_list) (asked_by channel q consent) out))
    public old b new

-- a getNextAssertion
abbrev pub NextBegins : Keys → AuthenticatorState → ℕ → Begun → AuthenticatorState → Type 0
NextBegins public old channel b new =
    BeginsBy (λ valid out. Unless (first_true (next_order old channel)) old out (NextAnswers valid public old (remembered_on channel old.remembered) out))
    public old b new

-- ---- loading

-- this many bytes, from low to high
abbrev pub sized_in : ℕ → ℕ → Item → Option (List ℕ)
sized_in low high x = bytes_in x >>= λ bs. if nat_le low (length bs) && nat_le (length bs) high then Some bs else None

abbrev pub alg_at : ℕ → Option SigningAlg
alg_at n = if n == 6 then Some algs.Es256 else if n == 7 then Some algs.EdDsa else None

abbrev pub alg_in : Item → Option SigningAlg
alg_in x = nint_in x >>= alg_at

-- a counter of 32 bits
abbrev pub counter_in : Item → Option ℕ
counter_in x = uint_in x >>= λ n. if nat_le n 4294967295 then Some n else None

-- the credential of these parts, whose other members are these
abbrev pub after_secret : List ℕ → List ℕ → List ℕ → List ℕ → Pairs → Option CredentialSource
after_secret id rp_id user secret ps = do
  five ← split_key (uint 5) ps
  alg ← alg_in five.0
  six ← split_key (uint 6) five.1
  resident ← bool_in six.0
  seven ← split_key (uint 7) six.1
  count ← counter_in seven.0
  if is_end seven.1 then Some (record { id = id; rp_id = rp_id; user = user; secret = secret; alg = alg; resident = resident; sign_count = count }) else None

-- the credential, from the front of its map
unfoldable pub source_in : Item → Option CredentialSource
source_in x = do
  ps ← pairs_in x
  one ← split_key (uint 1) ps
  id ← sized_in 32 32 one.0
  two ← split_key (uint 2) one.1
  rp_id ← text_in two.0
  three ← split_key (uint 3) two.1
  user ← sized_in 1 64 three.0
  four ← split_key (uint 4) three.1
  secret ← sized_in 32 32 four.0
  after_secret id rp_id user secret four.1

abbrev pub Members : Type 0
Members = List ℕ × Bool × Bool × Items

-- the aaguid, the two configurations and the credentials' values, from the front of the map
unfoldable pub members_in : Item → Option Members
members_in x = do
  ps ← pairs_in x
  one ← split_key (uint 1) ps
  version ← uint_in one.0
  two ← split_key (uint 2) one.1
  aaguid ← sized_in 16 16 two.0
  three ← split_key (uint 3) two.1
  uv ← bool_in three.0
  four ← split_key (uint 4) three.1
  self_signed ← bool_in four.0
  five ← split_key (uint 5) four.1
  credentials ← items_in five.0
  if is_end five.1 && (version == 1) then Some (aaguid, uv, self_signed, credentials) else None

-- at most 256, no two of one id
abbrev pub IsStore : List CredentialSource → Type 0
IsStore cs = (length cs ≤ 256) × IsUnique cs

abbrev pub source_shown : SourceView → CredentialSource
source_shown c = record {
  id = c.id;
  rp_id = c.rp_id.now;
  user = c.user.now;
  secret = c.secret;
  alg = c.alg;
  resident = c.resident;
  sign_count = c.sign_count;
}

abbrev pub members_shown : SavedMembers → Members
members_shown m = (m.aaguid, m.uv, m.self_signed, shown_items m.credentials)
