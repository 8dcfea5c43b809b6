-- An honest registration is accepted.
use Rattle.std.proofs.Common.{◌≡◌, ◌≢◌, ◌⊎◌, inl, inr, ℕ, ◌<◌, ◌+◌, List, [], ◌∷◌, ◌++◌, length, Bool, true, false, not, is_some, Option}
use Rattle.std.proofs.Common.{Some, codes, refl, sym, ◌∙◌, ap, subst, arith, rules, Contains}
use Rattle.std.specs.Prelude.{nat_lt}
use Rattle.sha2.specs.Sha256.{sha256}
use Rattle.clientdata.specs.declared.record.CeremonyType.TheVariants.{Create}
use Rattle.clientdata.specs.Serialised.{client_data_text, hash_of}
use Rattle.cose.specs.Keys.{alg_of, signed_alg}
use Rattle.cose.specs.Schemes.{Validity}
use Rattle.cose.specs.declared.key.Alg.{Alg}
use Rattle.cose.specs.declared.key.CoseKey.{CoseKey}
use Rattle.authdata.specs.Flags.{is_set, BE, UP, UV}
use Rattle.authdata.specs.Layout.{AttestedCredential, AuthenticatorData}
use Rattle.authdata.specs.Objects.{Attestation}
use Rattle.authdata.specs.Statements.{IsKnownFormat, IsNone, IsSelfSigned}
use Rattle.authdata.specs.declared.profile.Profile.{Profile}
use Rattle.authdata.specs.declared.profile.Profile.TheVariants.{Level3, Open, Strict}
use Rattle.authdata.specs.declared.statement.AttestationType.{AttestationType}
use Rattle.authdata.specs.declared.statement.AttestationType.TheVariants as types
use Rattle.ctap_replies.specs.Replies.{Creation, ReplyOf, creation_reply}
use Rattle.ctap_requests.specs.Requests.{CreationRequest, make_credential}
use Rattle.verification.specs.Records as expects
use Rattle.verification.specs.Registration as steps
use Rattle.verification.specs.Registration.{counted}
use Rattle.verification.specs.RegistrationAnswers.{AcceptsAttestation}
use Rattle.verification.specs.declared.party.Policy.{Policy}
use Rattle.verification.proofs.Expected.{expected_says}
use Rattle.site_state.specs.Table.{row_of}
use Rattle.site.specs.State as site
use Rattle.site.specs.State.{IsAfterRegistration, judged_registration, registered}
use Rattle.authenticator.specs.State.{CredentialSource, AuthenticatorState}
use Rattle.authenticator.specs.Credentials.{credential_of, resident_ids}
use Rattle.authenticator.specs.Orders.{kept}
use Rattle.authenticator.specs.Steps.{MakesStatement, Creates, Entry, Keys, Outcome, Unless, attestation, creation_data, key_of, new_credential, uv_bit}
use Rattle.authenticator.specs.declared.consent.Consent.{Consent}
use Rattle.authenticator.proofs.Stored.{last_push}
use Rattle.client.specs.Asked.{creation_of, registration_data}
use Rattle.client.specs.Responses.{object_of}
use Rattle.ceremony.specs.Registration.{IsAfter, response}
use Rattle.ceremony.specs.Verdict.{Delivers}
use Rattle.ceremony.proofs.Objects.{has_object}
use Rattle.ceremony.proofs.OneVerdict.{registration_one}
use Rattle.agreement.specs.Ends.{IsIdleOn}
use Rattle.agreement.specs.Honest.{IsHonestRegistration, counts_as, IsShared, Registering, Registers}
use Rattle.agreement.specs.Below.{Below, KeepsAlg}
use Rattle.agreement.specs.Lived.{attested_by}
use Rattle.agreement.proofs.Exchanges.{IsStep, Replied, Stepped, replied}
use Rattle.agreement.proofs.Delivered.{delivers}
use Rattle.agreement.proofs.Asking.{asks_resident, asks_verified, carried_out, chosen, none_against_creation}
use Rattle.agreement.proofs.Storing.{few_kept, newest_first, none_kept, row_last}
use Rattle.agreement.proofs.RegistrationSteps.{MeetsSteps, meets_steps, one_attested}

-- ---- flags

pub record CreationBits (uv : Bool) : Type 0 where
  pub present : is_set (0x41 + uv_bit uv) UP ≡ true
  pub verified : uv ≡ true → is_set (0x41 + uv_bit uv) UV ≡ true
  pub eligible : is_set (0x41 + uv_bit uv) BE ≡ false

creation_bits : (uv : Bool) → CreationBits uv
creation_bits true = record { present = refl; verified = λ e. refl; eligible = refl }
creation_bits false = record { present = refl; verified = λ e. absurd cc; eligible = refl }

-- ---- statements

not_packed : (fmt : List ℕ) → fmt ≡ codes "none" → fmt ≡ codes "packed" → ⊥
not_packed fmt a b = let bad : codes "none" ≡ codes "packed" = sym a ∙ b in absurd cc

pub record Stated (valid : Validity) (policy : Policy) (o : Attestation) (key : CoseKey) (hash : List ℕ) : Type 0 where
  pub known : IsKnownFormat o.fmt
  pub statement : IsNone o ⊎ IsSelfSigned valid o key hash
  pub accepted : (IsNone o → policy.accept_none ≡ true) × (IsSelfSigned valid o key hash → policy.accept_self ≡ true)

stated : (valid : Validity) (policy : Policy) (attest : AttestationType) (key : CoseKey) (hash : List ℕ) (consent : Consent) (r : Creation)
    (signed : List Entry)
    → AcceptsAttestation policy attest → MakesStatement valid key hash consent attest r signed → Stated valid policy (object_of r) key hash
stated valid policy types.None key hash consent r signed accepts x = record {
  known = inl x.0;
  statement = inl (x.0, x.1);
  accepted = (λ n. accepts, λ s. absurd (not_packed r.fmt x.0 s.0));
}
stated valid policy types.SelfSigned key hash consent r signed accepts x =
    let self : IsSelfSigned valid (object_of r) key hash = (x.0, (x.1.0, x.1.2, x.1.1.2)) in
    record { known = inr x.0; statement = inr self; accepted = (λ n. absurd (not_packed r.fmt n.0 x.0), λ s. accepts) }

-- and as it counts for the session
pub stated_as : (valid : Validity) (policy : Policy) (p : Profile) (asked : Bool) (attest : AttestationType) (key : CoseKey) (hash : List ℕ) (consent : Consent)
    (r : Creation) (signed : List Entry) → AcceptsAttestation policy (counts_as p asked attest) → MakesStatement valid key hash consent attest r signed
    → Stated valid policy (counted p asked (object_of r)) key hash
stated_as valid policy Strict asked attest key hash consent r signed accepts x = stated valid policy attest key hash consent r signed accepts x
stated_as valid policy Open asked attest key hash consent r signed accepts x = stated valid policy attest key hash consent r signed accepts x
stated_as valid policy Level3 true attest key hash consent r signed accepts x = stated valid policy attest key hash consent r signed accepts x
stated_as valid policy Level3 false attest key hash consent r signed accepts x = record {
  known = inl refl;
  statement = inl (refl, refl);
  accepted = (λ n. accepts, λ s. absurd (not_packed (codes "none") refl s.0));
}

signed_for : (valid : Validity) (key : CoseKey) (hash : List ℕ) (consent : Consent) (attest : AttestationType) (r : Creation) (signed : List Entry)
    → MakesStatement valid key hash consent attest r signed
    → signed ≡ attested_by attest (record { key = key; message = r.auth_data ++ hash; purpose = attestation; consent = consent })
signed_for valid key hash consent types.None r signed x = x.2
signed_for valid key hash consent types.SelfSigned r signed x = x.2

-- ---- the site afterwards

room_for : (n : ℕ) → n < 65536 → not (nat_lt n 65536) ≡ false
room_for n lt = let less : nat_lt n 65536 ≡ true = search (rules, lt) in rw less refl

module _ (valid : Validity) (public : Keys) (b : Below valid public) (keeps : KeepsAlg public) (x : Registering) (idle : IsIdleOn x.channel x.before)
    (h : IsHonestRegistration valid public x) where
  abbrev a : AuthenticatorState
  a = x.before.authenticator

  abbrev text : List ℕ
  text = registration_data x.origin x.options

  abbrev q : CreationRequest
  q = creation_of x.options text

  abbrev m : List ℕ
  m = h.decided.asks.message

  some : m ≢ []
  some e = let is = h.decided.asks.written.0.1 in let bad : [] ≡ 1 ∷ h.decided.asks.written.0.0 = sym e ∙ is in absurd cc

  came : Replied valid public x.channel m h.decided.consent x.words x.before x.packets x.after
  came = replied b.links valid public x.channel m x.out.packets h.decided.waits h.decided.consent x.words x.before x.after x.packets idle some
      h.decided.asks.packets.frames h.decided.exchange

  abbrev outcome : Outcome
  outcome = record { reply = came.reply; state = x.after.authenticator; signed = came.steps.0; made = came.steps.1 }

  abbrev t : List ℕ
  t = x.out.client_data

  text_is : t ≡ text
  text_is = h.decided.asks.client_data

  creates : Creates valid public a q h.decided.consent x.words outcome
  creates =
      let none = none_against_creation a x.options text h.decided.consent x.words h.offered h.decided.configured h.decided.present h.decided.verified
      h.not_excluded h.not_stored
      (few_kept a.credentials q h.room) in
      subst (λ (o : Option ℕ). Unless o a outcome (Creates valid public a q h.decided.consent x.words outcome)) none
      (carried_out valid public a x.channel m h.decided.consent x.words outcome (make_credential q) h.decided.asks.written came.steps.2)

  abbrev key : CoseKey
  key = public creates.alg x.words.secret

  abbrev auth : AuthenticatorData
  auth = creation_data a q x.words.id key

  abbrev attested : AttestedCredential
  attested = record { aaguid = a.aaguid; id = x.words.id; key = key }

  abbrev new : CredentialSource
  new = new_credential q creates.alg x.words

  abbrev r : Creation
  r = creates.shown

  abbrev judged : steps.JudgedRegistration
  judged = judged_registration x.site x.session (response r t)

  flags_are : auth.flags ≡ 0x41 + uv_bit x.options.uv
  flags_are = ap (λ b. 0x41 + uv_bit b) (asks_verified x.options.rk x.options.uv)

  attests : steps.Attests x.site.rp.profile (response r t) (object_of r) auth attested
  attests = record {
    object = has_object r came.reply creates.reply;
    auth_data = b.readings.taken x.site.rp.profile auth r.auth_data creates.spelled;
    attested = refl;
  }

  offered : Contains x.expected.algorithms (alg_of key)
  offered =
      let c = chosen x.options.algs h.offered.0 h.offered.1 in
      let some_alg : Some c.0 ≡ Some creates.alg = sym c.1 ∙ creates.chosen in
      let same : signed_alg c.0 ≡ alg_of key = (let is : c.0 ≡ creates.alg = cc in ap signed_alg is ∙ sym (keeps creates.alg x.words.secret)) in
      subst (λ (offered : List Alg). Contains offered (alg_of key)) h.algorithms (subst (λ (alg : Alg). Contains x.options.algs alg) same c.2)

  says_how : Stated valid x.site.policy (counted x.site.rp.profile x.expected.attestation (object_of r)) key (hash_of t)
  says_how =
      subst (λ (b : List ℕ). Stated valid x.site.policy (counted x.site.rp.profile x.expected.attestation (object_of r)) key (hash_of b)) (sym text_is)
      (stated_as valid x.site.policy x.site.rp.profile x.expected.attestation a.attest key q.client_data_hash h.decided.consent r came.steps.0 h.accepted creates.attested)

  meets : MeetsSteps b.readings valid judged x.expected (object_of r) auth attested
  meets = record {
    is_open = h.is_open;
    says =
        expected_says Create x.expected.challenge t x.site.rp
        (x.origin, false, λ _. refl, h.origin, h.origin_text, text_is ∙ ap (λ c. client_data_text Create c x.origin false) h.challenge);
    attests = attests;
    party = ap hash_of h.rp_id;
    present = ap (λ f. is_set f UP) flags_are ∙ (creation_bits x.options.uv).present;
    verified = λ is. ap (λ f. is_set f UV) flags_are ∙ (creation_bits x.options.uv).verified (h.verified ∙ is);
    offered = offered;
    named = λ raw_id is. absurd cc;
    known = says_how.known;
    statement = says_how.statement;
    accepted = says_how.accepted;
    not_registered = ap is_some h.not_registered;
    not_full = room_for (length x.site.rows) h.site_room;
  }

  delivered : Delivers x.channel x.packets (length x.packets) came.reply
  delivered = delivers b.links x.channel came.reply came.waits x.packets came.low came.payload came.are_waits came.all

  -- the row that is registered
  abbrev row : expects.Credential
  row = registered x.expected auth attested

  row_is : Some row ≡ Some (record { id = x.words.id; user = x.options.user_id; key = key; sign_count = 0; eligible = Some false; retired = false })
  row_is =
      ap (λ (u : List ℕ). Some (record row { user = u })) (sym h.user)
      ∙ ap (λ (b : Bool). Some (record row { user = x.options.user_id; eligible = Some b })) (ap (λ f. is_set f BE) flags_are
      ∙ (creation_bits x.options.uv).eligible)

  stored : x.after.authenticator.credentials ≡ kept a.credentials q ++ new ∷ []
  stored = ap (λ (s : AuthenticatorState). s.credentials) creates.state

  shared : (s : site.SiteState) → IsAfter x.site x.session t x.channel x.packets s → IsShared public s x.after.authenticator new 0
  shared s k =
      let o = b.links.carried x.channel k.0 (length x.packets) x.packets 16 16 k.1 came.reply k.3.0 (omega arith) k.3.1 delivered.1 in
      let one : k.2 ≡ r = (registration_one valid x.site x.session t).one_reply k.2 r came.reply
      (subst (λ (l : List ℕ). ReplyOf (creation_reply k.2) l) o.2 k.4) creates.reply in
      let after : IsAfterRegistration x.site x.session (response r t) s =
      subst (λ (z : Creation). IsAfterRegistration x.site x.session (response z t) s) one k.5 in
      let same = one_attested b.readings x.site.rp.profile (response r t) after.1 (object_of r) after.2 auth after.3 attested after.5 attests in
      let some_expected : Some after.0 ≡ Some x.expected = sym after.4 ∙ h.is_open in
      let expected : after.0 ≡ x.expected = cc in
      let rows : s.rows ≡ x.site.rows ++ row ∷ [] =
      ap (λ (z : site.SiteState). z.rows) after.6 ∙ ap (λ e. x.site.rows ++ registered e after.2 after.3 ∷ []) expected
      ∙ ap (λ d. x.site.rows ++ registered x.expected d after.3 ∷ []) same.auth_data
      ∙ ap (λ c. x.site.rows ++ registered x.expected auth c ∷ []) same.credential in
      record {
        stored = ap (credential_of x.words.id) stored ∙ last_push (kept a.credentials q) new (none_kept a.credentials q x.words.id h.not_stored);
        sign_count = refl;
        rp_id = h.rp_id ∙ sym (ap (λ (z : site.SiteState). z.rp.rp_id) after.6);
        registered = ap (row_of x.words.id) rows ∙ row_last x.site.rows row h.not_registered ∙ row_is;
      }

  pub registers : Registers valid public x
  registers = record {
    reply = r;
    accepted = (came.reply, delivered, creates.reply, meets_steps b.readings valid judged x.expected (object_of r) auth attested meets);
    credential = new;
    id = refl;
    rp_id = refl;
    user = refl;
    resident = asks_resident x.options.rk x.options.uv;
    shared = shared;
    newest = λ is. (
      _,
      ap (λ cs. resident_ids x.options.rp_id cs) stored
          ∙ newest_first x.options.rp_id (kept a.credentials q) new (asks_resident x.options.rk x.options.uv ∙ is) refl,
    );
    idle = came.idle;
  }

  -- the one step of the exchange, with what is signed and made
  pub stepped : Stepped valid public x.before.authenticator x.channel m h.decided.consent x.words x.after.authenticator
      (attested_by a.attest (record {
        key = key_of public registers.credential;
        message = registers.reply.auth_data ++ sha256 t;
        purpose = attestation;
        consent = h.decided.consent;
      }))
      (key_of public registers.credential ∷ [])
  unfolding registers
  stepped =
      let signed : came.steps.0 ≡ attested_by a.attest
      (record { key = key; message = r.auth_data ++ q.client_data_hash; purpose = attestation; consent = h.decided.consent }) =
      signed_for valid key q.client_data_hash h.decided.consent a.attest r came.steps.0 creates.attested in
      let over : q.client_data_hash ≡ sha256 t = ap sha256 (sym text_is) in
      record {
        reply = came.reply;
        step = subst (λ (l : List Entry). IsStep valid public a x.channel m h.decided.consent x.words came.reply x.after.authenticator l (key ∷ []))
            (signed ∙ ap (λ hash. attested_by a.attest
            (record { key = key; message = r.auth_data ++ hash; purpose = attestation; consent = h.decided.consent })) over)
            (subst (λ (l : List CoseKey). IsStep valid public a x.channel m h.decided.consent x.words came.reply x.after.authenticator came.steps.0 l)
            creates.made came.steps.2);
      }
