-- A history of a host's rows, with an authenticator that makes a credential and signs with it.
use Rattle.std.proofs.Common.{◌≡◌, ◌≢◌, ◌<◌, ◌^◌, ℕ, zero, suc, List, [], ◌∷◌, Bool, true, false, None, Some, codes, refl, sym, ◌∙◌, ap, subst, arith, inl, Contains}
use Rattle.std.specs.Prelude.{if◌then◌else◌, slice_index, slice_index_or}
use Rattle.std.specs.Int.{w64, to_be_bytes}
use Rattle.std.specs.FinMap.{gets}
use Rattle.std.specs.FinMap as finite
use Rattle.std.specs.Str.{bytes_eq}
use Rattle.std.proofs.lemmas.Grind.{common_steps}
use Rattle.base64.specs.GeneralPurpose.{IsBytes}
use Rattle.hidframe.proofs.Bytes.{bytes-append}
use Rattle.ctap_replies.proofs.Texts.{plain}
use Rattle.cose.specs.Bench.{bench_public, bench_valid}
use Rattle.authdata.specs.declared.statement.AttestationType.TheVariants as types
use Rattle.authdata.specs.Responses.{AuthenticatorAssertionResponse, AuthenticatorAttestationResponse}
use Rattle.verification.specs.Records.{ExpectedRegistration, ExpectedSignIn}
use Rattle.verification.specs.Registration.{PassesRegistration}
use Rattle.verification.specs.SignIn.{PassesSignIn}
use Rattle.verification.specs.declared.party.Policy.{Policy}
use Rattle.site_state.specs.Sessions.{ForRegistration, ForSignIn, challenge_of, for_registration, for_sign_in, registration_at, sign_in_at}
use Rattle.site_state.specs.Table.{retired}
use Rattle.site.specs.State as site
use Rattle.site.specs.State.{SiteState}
use Rattle.authenticator.specs.Steps.{Outcome}
use Rattle.client.specs.Responses.{object_of}
use Rattle.agreement.specs.Below.{Below}
use Rattle.agreement.specs.Hosts.{IsWithin}
use Rattle.agreement.specs.Lived.{with_holder, with_site}
use Rattle.agreement.specs.World as world
use Rattle.agreement.specs.World.{Done, Event, Holder, SiteActs, World, after_begin_as, after_call}
use Rattle.agreement.proofs.Sites.{bytes_of_64}
use Rattle.shown_runs.proofs.Accepting.{after_registration, attests, created, creating_text, getting_text, got, passes, registers}
use Rattle.shown_runs.proofs.Answering.{entry, first_outcome, first_step, signed, signed_bytes, signed_spelled}
use Rattle.shown_runs.proofs.Effects.{at_holder, random_bytes, start, was_signed}
use Rattle.shown_runs.proofs.Making.{attested, creation, made, makes}
use Rattle.shown_runs.proofs.Moments.{a0, asks, com_is_text, expects_any, expects_user, h0, one_stored, world as first_world}
use Rattle.shown_runs.proofs.Requests.{any_request, asking_any, creating}
use Rattle.shown_runs.proofs.Texts.{random}
use Rattle.shown_runs.proofs.Values.{com_id, com_page, credential, filled, key, row}
use Rattle.shown_runs.proofs.Values as given
use Rattle.host_runs.specs.Rows.{Begins, Closes, Configures, Deletes, HostStore, Registers, Retires, SignedIn, SignsIn, Table, TakesOut, Writes}
use Rattle.host_runs.specs.Rows as rows
use Rattle.host_runs.specs.Histories.{Act, Elsewhere, Plays, Scene, Stores, Turn}
use Rattle.host_runs.specs.Shown.{Shown}
use Rattle.host_runs.proofs.Tables.{is_other, is_same}

-- ---- tables

abbrev put : {Row : Type 0} → List ℕ → Row → Table Row → Table Row
put key row t = λ k. if bytes_eq k key then Some row else t k

abbrev out : {Row : Type 0} → List ℕ → Table Row → Table Row
out key t = λ k. if bytes_eq k key then None else t k

writes : {Row : Type 0} → (t : Table Row) (key : List ℕ) (row : Row) → Writes t key row (put key row t)
writes t key row = (
  ap (λ (b : Bool). if b then Some row else t key) (is_same key key refl),
  λ other apart. ap (λ (b : Bool). if b then Some row else t other) (is_other other key apart),
)

takes_out : {Row : Type 0} → (t : Table Row) (key : List ℕ) → TakesOut t key (out key t)
takes_out t key = (
  ap (λ (b : Bool). if b then None else t key) (is_same key key refl),
  λ other apart. ap (λ (b : Bool). if b then None else t other) (is_other other key apart),
)

-- ---- sessions, whose challenges begin with no number of theirs

abbrev challenge : ℕ → List ℕ
challenge n = challenge_of n random

challenge_bytes : (n : ℕ) → n < 2 ^ 64 → IsBytes (challenge n)
challenge_bytes n low = bytes-append (to_be_bytes w64 n) random (bytes_of_64 n low) random_bytes

two_challenges : (n k : ℕ) → slice_index (challenge n) 7 ≢ slice_index (challenge k) 7 → challenge n ≢ challenge k
two_challenges n k apart same = apart (ap (λ (l : List ℕ). slice_index l 7) same)

abbrev registering : ExpectedRegistration
registering = expects_user 7 1

abbrev signing_in : ExpectedSignIn
signing_in = expects_any 9

abbrev waiting : ExpectedSignIn
waiting = expects_any 5

abbrev first_key : List ℕ
first_key = codes "a"

abbrev second_key : List ℕ
second_key = codes "b"

abbrev third_key : List ℕ
third_key = codes "c"

-- ---- responses

abbrev new_text : List ℕ
new_text = creating_text com_page (challenge 7)

abbrev new : AuthenticatorAttestationResponse
new = created types.None com_id 1 new_text

abbrev text : List ℕ
text = getting_text com_page (challenge 9)

abbrev response : AuthenticatorAssertionResponse
response = got com_id 1 1 false text

-- ---- the rows, one after another

abbrev s0 : HostStore
s0 = record { rp = a0.rp; policy = a0.policy; credentials = λ id. None; sessions = λ key. None }

abbrev s1 : HostStore
s1 = record s0 { sessions = put first_key (ForRegistration registering) s0.sessions }

abbrev s2 : HostStore
s2 = record s1 { credentials = put (filled 1) (row 1 0) s1.credentials; sessions = out first_key s1.sessions }

abbrev s3 : HostStore
s3 = record s2 { sessions = put second_key (ForSignIn signing_in) s2.sessions }

abbrev s4 : HostStore
s4 = record s3 { credentials = put (filled 1) (row 1 1) s3.credentials; sessions = out second_key s3.sessions }

abbrev s5 : HostStore
s5 = record s4 { sessions = put third_key (ForSignIn waiting) s4.sessions }

abbrev s6 : HostStore
s6 = record s5 { sessions = out third_key s5.sessions }

abbrev s7 : HostStore
s7 = record s6 { credentials = put (filled 1) (retired (row 1 1)) s6.credentials }

abbrev s8 : HostStore
s8 = record s7 { credentials = out (filled 1) s7.credentials }

abbrev none_alone : Policy
none_alone = record { accept_none = true; accept_self = false }

abbrev s9 : HostStore
s9 = record s8 { rp = s0.rp; policy = none_alone }

-- ---- authenticator 0 makes credential 1, and signs with it

abbrev makes_one : Outcome
makes_one = made types.None com_id 1 new_text []

abbrev answers_one : Outcome
answers_one = first_outcome types.None one_stored None com_id 1 0 false text (omega arith) refl [] tt

abbrev h1 : Holder
h1 = after_call h0 makes_one

abbrev h2 : Holder
h2 = after_call h1 answers_one

abbrev w1 : World
w1 = with_holder 0 h1 first_world

abbrev w2 : World
w2 = with_holder 0 h2 w1

abbrev making : Event
making = asks 0 (creating com_id 1 new_text) 1

abbrev asking : Event
asking = asks 0 (asking_any com_id text) 0

-- ---- the history

abbrev scene : HostStore → World → Scene
scene s w = record { store = s; world = w }

abbrev turn : Scene → Act → Scene → Turn
turn old act after = record { old = old; act = act; new = after }

abbrev before : List Turn
before =
    turn (scene s0 first_world) (Stores (Begins first_key (ForRegistration registering))) (scene s1 first_world)
    ∷ turn (scene s1 first_world) (Elsewhere making Done) (scene s1 w1)
    ∷ turn (scene s1 w1) (Stores (Registers first_key registering new)) (scene s2 w1)
    ∷ turn (scene s2 w1) (Stores (Begins second_key (ForSignIn signing_in))) (scene s3 w1)
    ∷ turn (scene s3 w1) (Elsewhere asking Done) (scene s3 w2) ∷ []

abbrev signing : Turn
signing = turn (scene s3 w2) (Stores (SignsIn second_key signing_in (row 1 0) response)) (scene s4 w2)

abbrev later : List Turn
later =
    turn (scene s4 w2) (Stores (Begins third_key (ForSignIn waiting))) (scene s5 w2)
    ∷ turn (scene s5 w2) (Stores (Closes third_key (ForSignIn waiting))) (scene s6 w2)
    ∷ turn (scene s6 w2) (Stores (Retires (filled 1) (row 1 1))) (scene s7 w2)
    ∷ turn (scene s7 w2) (Stores (Deletes (filled 1))) (scene s8 w2)
    ∷ turn (scene s8 w2) (Stores (Configures s0.rp none_alone)) (scene s9 w2) ∷ []

none_in_two : (c d e : List ℕ) → d ≢ c → e ≢ c → Contains (d ∷ e ∷ []) c → ⊥
none_in_two c d e first second there = go there.0 there.1 there.2
  where
    go : (k : ℕ) → k < 2 → slice_index_or (d ∷ e ∷ []) k c ≡ c → ⊥
    go zero lt is = first is
    go (suc zero) lt is = second is
    go (suc (suc k)) lt is = omega (arith, lt)

none_in_one : (c d : List ℕ) → d ≢ c → Contains (d ∷ []) c → ⊥
none_in_one c d first there = go there.0 there.1 there.2
  where
    go : (k : ℕ) → k < 1 → slice_index_or (d ∷ []) k c ≡ c → ⊥
    go zero lt is = first is
    go (suc k) lt is = omega (arith, lt)

none_in_none : (c : List ℕ) → Contains [] c → ⊥
none_in_none c there = let lt : there.0 < 0 = there.1 in omega (arith, lt)

within : IsWithin bench_valid bench_valid
within key message signature is = is

module _ (b : Below bench_valid bench_public) where
  -- a site at which the session is open, to judge by
  abbrev registers_at : SiteState
  registers_at = after_begin_as a0 (ForRegistration registering)

  is_open : registration_at 1 registers_at.sessions ≡ Some registering
  is_open = ap for_registration at_one
    where
      at_one : finite.get registers_at.sessions.expected 1 ≡ Some (ForRegistration registering)
      at_one = grind (arith, gets, common_steps)

  registers_there : SiteActs bench_valid registers_at (world.Registers 1 new) (after_registration registers_at 1 registering 1)
  registers_there =
      registers b registers_at 1 com_page (0, omega arith, refl) (plain com_page refl) registering types.None 1 is_open (0, omega arith, refl) refl refl refl

  registered_one : rows.Registered bench_valid s1 first_key registering new s2
  registered_one = record {
    session = (writes s0.sessions first_key (ForRegistration registering)).0;
    passes = subst (PassesRegistration bench_valid) judged registers_there.0;
    object = object_of (creation types.None com_id 1 new_text);
    auth = attested com_id 1;
    credential = credential 1;
    attests =
        attests b registers_at 1 com_page (0, omega arith, refl) (plain com_page refl) registering types.None 1 is_open (0, omega arith, refl) refl refl refl;
    inserts = writes s1.credentials (filled 1) (row 1 0);
    deletes = takes_out s1.sessions first_key;
    rest = refl;
  } where
    judged : world.with_room (site.judged_registration registers_at 1 new) ≡ rows.judged_registration s1 registering new
    judged =
        let session = is_open in
        λ i. record { rp = a0.rp; policy = a0.policy; session = session i; response = new; is_registered = λ id. false; is_full = false }

  abbrev signs_at : SiteState
  signs_at = after_begin_as (record a0 { rows = row 1 0 ∷ [] }) (ForSignIn signing_in)

  waits : sign_in_at 1 signs_at.sessions ≡ Some signing_in
  waits = ap for_sign_in at_one
    where
      at_one : finite.get signs_at.sessions.expected 1 ≡ Some (ForSignIn signing_in)
      at_one = grind (arith, gets, common_steps)

  passes_there : PassesSignIn bench_valid (site.judged_sign_in signs_at 1 response)
  passes_there =
      passes b signs_at 1 com_page (0, omega arith, refl) (plain com_page refl) signing_in 1 0 1 false waits refl (inl refl) refl (λ e. absurd cc)
      (omega arith) (omega arith)

  signed_in_one : SignedIn bench_valid s3 second_key signing_in (row 1 0) response s4
  signed_in_one = record {
    session = (writes s2.sessions second_key (ForSignIn signing_in)).0;
    credential = (writes s1.credentials (filled 1) (row 1 0)).0;
    passes = subst (PassesSignIn bench_valid) judged passes_there;
    auth = signed com_id 1 false;
    spelled = b.readings.taken a0.rp.profile (signed com_id 1 false) (signed_bytes com_id 1 false) (signed_spelled com_id 1 false (omega arith));
    writes = writes s3.credentials (filled 1) (row 1 1);
    deletes = takes_out s3.sessions second_key;
    rest = refl;
  } where
    judged : site.judged_sign_in signs_at 1 response ≡ rows.judged_sign_in s3 signing_in (row 1 0) response
    judged = let session = waits in λ i. record { rp = a0.rp; session = session i; credential = Some (row 1 0); response = response }

  makes_it : Plays bench_valid bench_public 0 (scene s1 first_world) (Elsewhere making Done) (scene s1 w1)
  makes_it = (
    λ s.
        at_holder 0 (creating com_id 1 new_text) 1 makes_one h0 (with_site 0 s first_world) refl
        (makes types.None com_id 1 new_text [] refl com_is_text refl (omega arith)),
    refl,
  )

  signs_it : Plays bench_valid bench_public 0 (scene s3 w1) (Elsewhere asking Done) (scene s3 w2)
  signs_it = (
    λ s.
        at_holder 0 (asking_any com_id text) 0 answers_one h1 (with_site 0 s w1) refl
        (first_step types.None one_stored None com_id 1 0 false text (omega arith) refl (given.by_any com_id []) (asking_any com_id text) (given.words 0) [] tt
        (any_request com_id refl com_is_text text) refl refl refl),
    refl,
  )

  pub shown : Shown bench_valid bench_public
  shown = record {
    first = scene s0 first_world;
    before = before;
    signing = signing;
    later = later;
    starts = start;
    numbers = λ key. 0;
    stands_for = record {
      rp = refl;
      policy = refl;
      credentials = λ id. refl;
      sessions = λ key e is. absurd cc;
      own = λ key other e f is js same. absurd cc;
    };
    history = (refl, (tt, within, (record { bytes = challenge_bytes 7 (omega arith); writes = writes s0.sessions first_key (ForRegistration registering); rest = refl }, refl)), (refl, (tt, within, makes_it), (refl, (tt, within, (registered_one, refl)), (refl, (tt, within, (record { bytes = challenge_bytes 9 (omega arith); writes = writes s2.sessions second_key (ForSignIn signing_in); rest = refl }, refl)), (refl, (tt, within, signs_it), (refl, (tt, within, (signed_in_one, refl)), (refl, (tt, within, (record { bytes = challenge_bytes 5 (omega arith); writes = writes s4.sessions third_key (ForSignIn waiting); rest = refl }, refl)), (refl, (tt, within, (record { there = (writes s4.sessions third_key (ForSignIn waiting)).0; deletes = takes_out s5.sessions third_key; rest = refl }, refl)), (refl, (tt, within, (record { there = (writes s3.credentials (filled 1) (row 1 1)).0; writes = writes s6.credentials (filled 1) (retired (row 1 1)); rest = refl }, refl)), (refl, (tt, within, (record { deletes = takes_out s7.credentials (filled 1); rest = refl }, refl)), (refl, (tt, within, (record { rp_id = refl; rest = refl }, refl)), tt)))))))))));
    once = (
      none_in_two (challenge 7) (challenge 9) (challenge 5) (two_challenges 9 7 (λ e. let bad : 9 ≡ 7 = e in omega (arith, bad)))
          (two_challenges 5 7 (λ e. let bad : 5 ≡ 7 = e in omega (arith, bad))),
      (
        none_in_one (challenge 9) (challenge 5) (two_challenges 5 9 (λ e. let bad : 5 ≡ 9 = e in omega (arith, bad))),
        (none_in_none (challenge 5), tt),
      ),
    );
    keys = (first_key, second_key, third_key);
    registering = registering;
    signing_in = signing_in;
    waiting = waiting;
    makes = making;
    signs = asking;
    asked = (refl, refl);
    new = new;
    response = response;
    row = row 1 0;
    counted = row 1 1;
    policy = none_alone;
    acts = refl;
    acts_then = refl;
    signed = was_signed w2 0 (key 1) (entry com_id 1 1 false text) (0, omega arith, refl) (0, omega arith, refl) refl;
    raced = λ after again.
        let bad : None ≡ Some (ForSignIn signing_in) = sym (takes_out s3.sessions second_key).0 ∙ again.session in absurd cc;
  }
