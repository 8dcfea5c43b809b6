-- An honest sign-in is accepted.
use Rattle.std.proofs.Common.{◌≡◌, ◌≢◌, ◌⊎◌, inl, inr, ℕ, ◌<◌, ◌+◌, ◌-◌, ◌^◌, List, [], ◌∷◌, ◌++◌, length, Bool, true, false, not}
use Rattle.std.proofs.Common.{if◌then◌else◌, Option, Some, None, refl, sym, ◌∙◌, ap, subst, arith, get_or, Contains}
use Rattle.std.specs.Option.{ForSome}
use Rattle.sha2.specs.Sha256.{sha256}
use Rattle.refusal_order.specs.Lines.{Each}
use Rattle.clientdata.specs.declared.record.CeremonyType.TheVariants.{Get}
use Rattle.clientdata.specs.Serialised.{client_data_text, hash_of}
use Rattle.cose.specs.Schemes.{Validity}
use Rattle.cose.specs.declared.key.CoseKey.{CoseKey}
use Rattle.authdata.specs.Flags.{is_set, AT, BE, UP, UV}
use Rattle.authdata.specs.declared.profile.Profile.TheVariants.{Strict}
use Rattle.authdata.specs.Layout.{AuthenticatorData, AuthOf}
use Rattle.ctap_replies.specs.Replies.{Assertion, ReplyOf, assertion_reply}
use Rattle.ctap_requests.specs.Requests.{AssertionRequest, get_assertion}
use Rattle.verification.specs.SignIn.{AreUser, JudgedSignIn, IsCounted, PassesSignInStep, PassesSignIn, steps}
use Rattle.verification.specs.declared.refusal.SignInRefusal.{SignInRefusal}
use Rattle.verification.specs.declared.refusal.SignInRefusal.TheVariants as step
use Rattle.std.proofs.lemmas.List.Elements.{recursion_from_All}
use Rattle.verification.specs.ClientData.{PassesClientDataStep, client_data_order}
use Rattle.verification.specs.Records as expects
use Rattle.verification.specs.Shared.{IsFor, IsPresent, IsVerifiedAs}
use Rattle.verification.proofs.Expected.{expected_says}
use Rattle.verification.proofs.Steps.{of_some}
use Rattle.site_state.specs.Table.{row_of, signed_in}
use Rattle.site.specs.State as site
use Rattle.site.specs.State.{IsAfterSignIn, judged_sign_in}
use Rattle.authenticator.specs.State.{Asked, CredentialSource, AuthenticatorState}
use Rattle.authenticator.specs.Credentials.{credential_of, resident_ids}
use Rattle.authenticator.specs.Orders.{candidates, is_at_end, is_false}
use Rattle.authenticator.specs.Steps.{AnswersWith, Entry, FirstAnswers, Keys, Outcome, Unless, asked_by, assertion, assertion_data, key_of}
use Rattle.authenticator.specs.Steps.{number_with, shown_user, up_bit, uv_bit}
use Rattle.authenticator.proofs.Refusing.{not_at_end}
use Rattle.authenticator.proofs.Stored.{with_at}
use Rattle.client.specs.Asked.{assertion_of, descriptors_of, sign_in_data}
use Rattle.client.specs.Responses.{response_of}
use Rattle.ceremony.specs.SignIn.{IsAfter}
use Rattle.ceremony.specs.Verdict.{Delivers}
use Rattle.ceremony.proofs.OneVerdict.{sign_in_one}
use Rattle.agreement.specs.Ends.{IsIdleOn}
use Rattle.agreement.specs.Honest.{IsAskedFor, IsHonestSignIn, IsShared, SigningIn, SignsIn}
use Rattle.agreement.specs.Below.{Below, Readings}
use Rattle.agreement.proofs.Exchanges.{IsStep, Replied, Stepped, replied}
use Rattle.agreement.proofs.Delivered.{delivers}
use Rattle.agreement.proofs.Asking.{asserts_verified, assertion_up, carried_out, none_against_assertion}
use Rattle.agreement.proofs.Storing.{listed}

-- ---- flags

record AssertionBits (uv : Bool) : Type 0 where
  pub bare : is_set (0x01 + uv_bit uv) AT ≡ false
  pub present : is_set (0x01 + uv_bit uv) UP ≡ true
  pub verified : uv ≡ true → is_set (0x01 + uv_bit uv) UV ≡ true
  pub eligible : is_set (0x01 + uv_bit uv) BE ≡ false

assertion_bits : (uv : Bool) → AssertionBits uv
assertion_bits true = record { bare = refl; present = refl; verified = λ e. refl; eligible = refl }
assertion_bits false = record { bare = refl; present = refl; verified = λ e. absurd cc; eligible = refl }

-- ---- steps

module _ (readings : Readings) (valid : Validity) (x : JudgedSignIn) (e : expects.ExpectedSignIn) (c : expects.Credential) (a : AuthenticatorData) where
  all : (P : AuthenticatorData → Type 0) → AuthOf x.rp.profile a x.response.auth_data → P a → (b : AuthenticatorData)
      → AuthOf x.rp.profile b x.response.auth_data → P b
  all P is h b other = subst P (readings.one_value x.rp.profile x.rp.profile a b x.response.auth_data is other) h

  pub record Signs : Type 0 where
    pub is_open : x.session ≡ Some e
    pub registered : x.credential ≡ Some c
    pub allowed : (e.allow ≡ []) ⊎ Contains e.allow x.response.credential
    pub same_id : c.id ≡ x.response.credential
    pub not_retired : c.retired ≡ false
    pub user : AreUser e.user x.response.user c.user
    pub says : Each (PassesClientDataStep Get e.challenge x.rp x.response.client_data) client_data_order
    pub spelled : AuthOf x.rp.profile a x.response.auth_data
    pub bare : is_set a.flags AT ≡ false
    pub party : IsFor x.rp a
    pub present : IsPresent a
    pub verified : IsVerifiedAs e.uv a
    pub signature : valid c.key (x.response.auth_data ++ hash_of x.response.client_data) x.response.signature
    pub counted : IsCounted c.sign_count a.sign_count
    pub eligible : ForSome c.eligible (λ known. is_set a.flags BE ≡ known)

  passed : Signs → (w : SignInRefusal) → PassesSignInStep valid x w
  passed h step.SessionNotOpen = rw h.is_open refl
  passed h step.CredentialNotAllowed = of_some _ x.session e h.is_open h.allowed
  passed h step.UnknownCredential = (rw h.registered refl, of_some _ x.credential c h.registered (h.same_id, h.not_retired))
  passed h step.OtherUser = of_some _ x.session e h.is_open (of_some _ x.credential c h.registered h.user)
  passed h step.UnreadableClientData = h.says.0
  passed h step.WrongType = h.says.1.0
  passed h step.WrongChallenge = of_some _ x.session e h.is_open h.says.1.1.0
  passed h step.WrongOrigin = h.says.1.1.1.0
  passed h step.CrossOrigin = h.says.1.1.1.1.0
  passed h step.WrongTopOrigin = h.says.1.1.1.1.1.0
  passed h step.TokenBinding = h.says.1.1.1.1.1.1.0
  passed h step.BadAuthenticatorData = (a, h.spelled, h.bare)
  passed h step.WrongRelyingParty = all _ h.spelled h.party
  passed h step.UserNotPresent = all _ h.spelled h.present
  passed h step.UserNotVerified = of_some _ x.session e h.is_open (all _ h.spelled h.verified)
  passed h step.BadSignature = of_some _ x.credential c h.registered h.signature
  passed h step.CounterNotGreater = of_some _ x.credential c h.registered (all _ h.spelled h.counted)
  passed h step.EligibilityChanged = of_some _ x.credential c h.registered (λ known is. all _ h.spelled (h.eligible known is))

  pub signs : Signs → PassesSignIn valid x
  signs h = recursion_from_All (PassesSignInStep valid x) steps (λ k w lt. passed h (get_or steps k w))

-- ---- who is asked for

-- the user that a session and a reply name
named : (resident : Bool) (user : List ℕ) → AreUser (Some user) (if resident then Some user else None) user
named true user = (refl, refl)
named false user = refl

newest_named : (o : Option (List ℕ)) (user : List ℕ) → ForSome o (λ u. u ≡ user) → AreUser o (Some user) user
newest_named None user h = refl
newest_named (Some u) user h = (h u refl, refl)

user_named : (c : CredentialSource) (a : AuthenticatorState) (e : expects.ExpectedSignIn) → IsAskedFor c a e → AreUser e.user (shown_user c) c.user
user_named c a e asked = elim asked [
  | inl k ↦ rw k.1 (named c.resident c.user)
  | inr k ↦
      let shown : shown_user c ≡ Some c.user = ap (λ b. if b then Some c.user else None) k.1 in
      subst (λ (o : Option (List ℕ)). AreUser e.user o c.user) (sym shown) (newest_named e.user c.user k.3)
]

one_listed : (c : List ℕ) (id : List ℕ) (allow : List (List ℕ)) → allow ≡ c ∷ [] → id ≡ c → Contains allow id
one_listed c id allow is same = rw is (rw same (0, omega arith, refl))

is_allowed : (c : CredentialSource) (a : AuthenticatorState) (e : expects.ExpectedSignIn) (id : List ℕ) → id ≡ c.id → IsAskedFor c a e → (e.allow ≡ [])
    ⊎ Contains e.allow id
is_allowed c a e id same asked = elim asked [
  | inl k ↦ inr (one_listed c.id id e.allow k.0 same)
  | inr k ↦ inl k.0
]

answers_first : (c : CredentialSource) (a : AuthenticatorState) (e : expects.ExpectedSignIn) (rp_id : List ℕ) (allow : List (List ℕ)) → allow ≡ e.allow
    → c.rp_id ≡ rp_id
    → credential_of c.id a.credentials ≡ Some c → IsAskedFor c a e → (later : List (List ℕ))
    × (candidates a.credentials rp_id (descriptors_of allow) ≡ c.id ∷ later)
answers_first c a e rp_id allow same of stored asked = elim asked [
  | inl k ↦ ([], ap (λ l. candidates a.credentials rp_id (descriptors_of l)) (same ∙ k.0) ∙ listed a.credentials rp_id c stored of)
  | inr k ↦ (k.2.0, ap (λ l. candidates a.credentials rp_id (descriptors_of l)) (same ∙ k.0) ∙ ap (λ id. resident_ids id a.credentials) (sym of) ∙ k.2.1)
]

-- ---- the sign-in

module _ (valid : Validity) (public : Keys) (b : Below valid public) (x : SigningIn) (c : CredentialSource) (n : ℕ) (idle : IsIdleOn x.channel x.before)
    (h : IsHonestSignIn valid public x) (shared : IsShared public x.site x.before.authenticator c n) (below : n < 2 ^ 32 - 1)
    (asked_for : IsAskedFor c x.before.authenticator x.expected) where
  abbrev a : AuthenticatorState
  a = x.before.authenticator

  abbrev text : List ℕ
  text = sign_in_data x.origin x.options

  abbrev q : AssertionRequest
  q = assertion_of x.options text

  abbrev m : List ℕ
  m = h.decided.asks.message

  abbrev t : List ℕ
  t = x.out.client_data

  text_is : t ≡ text
  text_is = h.decided.asks.client_data

  some : m ≢ []
  some e = let is = h.decided.asks.written.0.1 in let bad : [] ≡ 2 ∷ h.decided.asks.written.0.0 = sym e ∙ is in absurd cc

  came : Replied valid public x.channel m h.decided.consent x.words x.before x.packets x.after
  came = replied b.links valid public x.channel m x.out.packets h.decided.waits h.decided.consent x.words x.before x.after x.packets idle some
      h.decided.asks.packets.frames h.decided.exchange

  abbrev outcome : Outcome
  outcome = record { reply = came.reply; state = x.after.authenticator; signed = came.steps.0; made = came.steps.1 }

  abbrev asked : Asked
  asked = asked_by x.channel q h.decided.consent

  first : (later : List (List ℕ)) × (candidates a.credentials x.options.rp_id (descriptors_of x.options.allow) ≡ c.id ∷ later)
  first = answers_first c a x.expected x.options.rp_id x.options.allow h.allow (shared.rp_id ∙ sym h.rp_id) shared.stored asked_for

  may_count : is_at_end (credential_of c.id a.credentials) ≡ false
  may_count = let is = shared.sign_count in not_at_end c.id a.credentials c shared.stored (omega (arith, is, below))

  answers : AnswersWith valid public a c.id asked first.0 assertion_reply (number_with first.0) outcome
  answers =
      let none = none_against_assertion a x.options text h.decided.consent c.id first.0 h.decided.configured h.decided.present h.decided.verified first.1
      may_count in
      subst (λ (ids : List (List ℕ)). FirstAnswers valid public a ids asked outcome) first.1
      (subst (λ (o : Option ℕ). Unless o a outcome (FirstAnswers valid public a (candidates a.credentials q.rp_id q.allow_list) asked outcome)) none
      (carried_out valid public a x.channel m h.decided.consent x.words outcome (get_assertion q) h.decided.asks.written came.steps.2))

  -- it is the credential that is shared
  own : answers.credential ≡ c
  own = let some_credential : Some answers.credential ≡ Some c = sym answers.found ∙ shared.stored in cc

  abbrev r : Assertion
  r = answers.shown

  abbrev auth : AuthenticatorData
  auth = assertion_data c asked

  spelled : AuthOf x.site.rp.profile auth r.auth_data
  spelled = b.readings.taken x.site.rp.profile auth r.auth_data
      (subst (λ (d : CredentialSource). AuthOf Strict (assertion_data d asked) r.auth_data) own answers.asserts.spelled)

  flags_are : auth.flags ≡ 0x01 + uv_bit x.options.uv
  flags_are = ap (λ o. up_bit (not (is_false o)) + uv_bit asked.uv) (assertion_up x.options.uv) ∙ ap (λ b. 0x01 + uv_bit b) (asserts_verified x.options.uv)

  id_is : r.credential ≡ c.id
  id_is = answers.asserts.credential ∙ ap (λ (d : CredentialSource). d.id) own

  user_is : r.user ≡ shown_user c
  user_is = answers.asserts.user ∙ ap shown_user own

  abbrev row : expects.Credential
  row = record { id = c.id; user = c.user; key = key_of public c; sign_count = n; eligible = Some false; retired = false }

  found : row_of r.credential x.site.rows ≡ Some row
  found = ap (λ id. row_of id x.site.rows) id_is ∙ shared.registered

  abbrev attempt : JudgedSignIn
  attempt = judged_sign_in x.site x.session (response_of r t)

  signature : valid row.key (r.auth_data ++ hash_of t) r.signature
  signature =
      subst (λ (b : List ℕ). valid row.key (r.auth_data ++ hash_of b) r.signature) (sym text_is)
      (subst (λ (d : CredentialSource). valid (key_of public d) (r.auth_data ++ asked.client_data_hash) r.signature) own answers.asserts.signs.2)

  one_more : auth.sign_count ≡ n + 1
  one_more = ap (λ k. k + 1) shared.sign_count

  eligible_is : is_set auth.flags BE ≡ false
  eligible_is = ap (λ f. is_set f BE) flags_are ∙ (assertion_bits x.options.uv).eligible

  passes : Signs b.readings valid attempt x.expected row auth
  passes = record {
    is_open = h.is_open;
    registered = found;
    allowed = is_allowed c a x.expected r.credential id_is asked_for;
    same_id = sym id_is;
    not_retired = refl;
    user = subst (λ (o : Option (List ℕ)). AreUser x.expected.user o c.user) (sym user_is) (user_named c a x.expected asked_for);
    says =
        expected_says Get x.expected.challenge t x.site.rp
        (x.origin, false, λ _. refl, h.origin, h.origin_text, text_is ∙ ap (λ k. client_data_text Get k x.origin false) h.challenge);
    spelled = spelled;
    bare = ap (λ f. is_set f AT) flags_are ∙ (assertion_bits x.options.uv).bare;
    party = ap hash_of shared.rp_id;
    present = ap (λ f. is_set f UP) flags_are ∙ (assertion_bits x.options.uv).present;
    verified = λ is. ap (λ f. is_set f UV) flags_are ∙ (assertion_bits x.options.uv).verified (h.verified ∙ is);
    signature = signature;
    counted = let more = one_more in inr (omega (arith, more));
    eligible = λ known is. let false_is : false ≡ known = cc in eligible_is ∙ false_is;
  }

  delivered : Delivers x.channel x.packets (length x.packets) came.reply
  delivered = delivers b.links x.channel came.reply came.waits x.packets came.low came.payload came.are_waits came.all

  abbrev next : CredentialSource
  next = record c { sign_count = n + 1 }

  stored : credential_of c.id x.after.authenticator.credentials ≡ Some next
  stored =
      ap (λ (s : AuthenticatorState). credential_of c.id s.credentials) answers.state
      ∙ with_at c.id (answers.credential.sign_count + 1) a.credentials c shared.stored
      ∙ ap (λ k. Some (record c { sign_count = k })) (ap (λ (d : CredentialSource). d.sign_count + 1) own ∙ one_more)

  still_shared : (s : site.SiteState) → IsAfter x.site x.session t x.channel x.packets s → IsShared public s x.after.authenticator next (n + 1)
  still_shared s k =
      let o = b.links.carried x.channel k.0 (length x.packets) x.packets 16 16 k.1 came.reply k.3.0 (omega arith) k.3.1 delivered.1 in
      let one : k.2 ≡ r = (sign_in_one valid x.site x.session t).one_reply k.2 r came.reply
      (subst (λ (l : List ℕ). ReplyOf (assertion_reply k.2) l) o.2 k.4) answers.reply in
      let after : IsAfterSignIn x.site x.session (response_of r t) s = subst (λ (z : Assertion). IsAfterSignIn x.site x.session (response_of z t) s) one k.5 in
      let kept = b.sites.stores x.site x.session (response_of r t) s row after found in
      let data_is : kept.0 ≡ auth = b.readings.one_value x.site.rp.profile x.site.rp.profile kept.0 auth r.auth_data kept.1 spelled in
      record {
        stored = stored;
        sign_count = refl;
        rp_id = shared.rp_id ∙ sym (ap (λ (z : site.SiteState). z.rp.rp_id) after.2);
        registered =
            ap (λ id. row_of id s.rows) (sym id_is) ∙ kept.2 ∙ ap (λ (d : AuthenticatorData). Some (signed_in d.sign_count (is_set d.flags BE) row)) data_is
            ∙ ap (λ k. Some (signed_in k (is_set auth.flags BE) row)) one_more ∙ ap (λ b. Some (signed_in (n + 1) b row)) eligible_is;
      }

  pub signs_in : SignsIn valid public c n x
  signs_in = record {
    reply = r;
    accepted = (came.reply, delivered, answers.reply, signs b.readings valid attempt x.expected row auth passes);
    shared = still_shared;
    idle = came.idle;
  }

  -- the one step of the exchange, with what is signed
  pub stepped : Stepped valid public a x.channel m h.decided.consent x.words x.after.authenticator
      (record { key = key_of public c; message = signs_in.reply.auth_data ++ sha256 t; purpose = assertion; consent = h.decided.consent } ∷ []) []
  unfolding signs_in
  stepped =
      let signed : came.steps.0 ≡ record { key = key_of public c; message = r.auth_data ++ sha256 t; purpose = assertion; consent = h.decided.consent } ∷ [] =
      answers.signed
      ∙ ap (λ (d : CredentialSource). record { key = key_of public d; message = r.auth_data ++ sha256 text; purpose = assertion; consent = h.decided.consent }
      ∷ []) own
      ∙ ap (λ b. record { key = key_of public c; message = r.auth_data ++ sha256 b; purpose = assertion; consent = h.decided.consent } ∷ []) (sym text_is) in
      record {
        reply = came.reply;
        step = subst (λ (l : List Entry). IsStep valid public a x.channel m h.decided.consent x.words came.reply x.after.authenticator l []) signed
            (subst (λ (l : List CoseKey). IsStep valid public a x.channel m h.decided.consent x.words came.reply x.after.authenticator came.steps.0 l)
            answers.made came.steps.2);
      }

  pub credential_is : signs_in.reply.credential ≡ c.id
  unfolding signs_in
  credential_is = id_is
