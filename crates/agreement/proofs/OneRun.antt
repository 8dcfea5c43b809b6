-- An honest run that takes place, written out: a registration and then a sign-in by the scheme for tests.
use Rattle.std.proofs.Common.{◌≡◌, ◌≢◌, rules, ◌≤◌, ◌++◌, ℕ, inr, List, [], ◌∷◌, true, false, None, Some, length, refl, ap, arith, replicate, map}
use Rattle.std.specs.FinMap as finite
use Rattle.std.specs.FinMap.{gets}
use Rattle.std.proofs.lemmas.Grind.{common_steps}
use Rattle.base64.specs.GeneralPurpose.{IsBytes}
use Rattle.hidframe.specs.declared.Packet.{Packet}
use Rattle.hidframe.specs.Frames.{TheZeroFrames}
use Rattle.hidframe.specs.Pieces.{frame_list}
use Rattle.hidframe.proofs.Bytes.{bytes_zeros}
use Rattle.hidlink.specs.History.{Leaves, Took}
use Rattle.hidlink.specs.Ranks.{Idle}
use Rattle.ccbor.specs.Canon.{Fits, before, head, spelling}
use Rattle.cose.specs.Bench.{bench_keeps_alg, bench_public, bench_valid}
use Rattle.cose.specs.declared.key.SigningAlg.TheVariants as signing
use Rattle.authdata.specs.declared.profile.Profile.TheVariants.{Strict}
use Rattle.authdata.specs.declared.statement.AttestationType.TheVariants as types
use Rattle.authdata.specs.Flags.{is_set, BE}
use Rattle.ctap_replies.proofs.Texts.{plain}
use Rattle.verification.specs.declared.party.Policy.{Policy}
use Rattle.verification.specs.Records as expects
use Rattle.site_state.specs.Table.{signed_in as counted_row, with_row}
use Rattle.site_state.specs.Sessions.{Opening, OpenSessions, OpensRegistration, OpensSignIn, begun, challenge_of, closed, expected_of, usual}
use Rattle.site_state.specs.Sessions.{for_registration, for_sign_in}
use Rattle.site.specs.Saved.{TableOf, table_item, version_of}
use Rattle.site.specs.State.{SiteState, idle, party_of, registered, saved_of}
use Rattle.authenticator.specs.Saved.{SavedOf, authenticator_item}
use Rattle.site.specs.Laws.{after_begin}
use Rattle.client.specs.Asked.{registration_data, sign_in_data}
use Rattle.client.specs.Responses.{object_of}
use Rattle.ceremony.specs.Registration as registration
use Rattle.ceremony.specs.SignIn as sign_in
use Rattle.ceremony.specs.Verdict.{Delivers}
use Rattle.ceremony.proofs.Objects.{has_object}
use Rattle.agreement.specs.Below.{Below}
use Rattle.agreement.specs.Ends.{AuthenticatorEnd}
use Rattle.agreement.specs.Honest.{IsHonestRegistration, IsHonestRun, IsHonestSignIn, Registering, Run, SigningIn}
use Rattle.agreement.specs.Lived.{Place, TakesPlace}
use Rattle.agreement.specs.Shown.{FullRun, HonestRunTakesPlace}
use Rattle.agreement.specs.World.{Holder, World}
use Rattle.agreement.proofs.Delivered.{delivers}
use Rattle.agreement.proofs.Everything.{full_run}
use Rattle.agreement.proofs.Exchanged.{after_reply, exchanged}
use Rattle.agreement.proofs.IdleDevice.{history, idle_device}
use Rattle.agreement.proofs.Given as given
use Rattle.agreement.proofs.Given.{asserting, assertion_bytes, assertion_written, consent, creating, creation_bytes, creation_written, origin, rp_id, user}
use Rattle.agreement.proofs.Given.{words, zeros}
use Rattle.agreement.proofs.OneStep as step

-- ---- the site

abbrev policy : Policy
policy = record { accept_none = true; accept_self = true }

abbrev pub at_first : SiteState
at_first = idle (party_of Strict rp_id (origin ∷ [])) policy [] 1

abbrev pub random : List ℕ
random = replicate 24 0

random_bytes : IsBytes random
random_bytes = bytes_zeros 24

abbrev pub for_registration_of : Opening
for_registration_of = OpensRegistration user (given.registering []).algs false random usual

abbrev pub for_sign_in_by : Opening
for_sign_in_by = OpensSignIn None [] false random

is_begun : (s : OpenSessions) (o : Opening) → finite.get (begun s o).expected s.next ≡ Some (expected_of s.next o)
is_begun s o = grind (arith, gets, common_steps)

-- ---- it

module _ (b : Below bench_valid bench_public) where
  abbrev challenge : List ℕ
  challenge = challenge_of 1 random

  abbrev text : List ℕ
  text = registration_data origin (given.registering challenge)

  abbrev asked_first : List ℕ
  asked_first = creating challenge text

  abbrev reply : List ℕ
  reply = step.creation_reply_bytes challenge text

  abbrev end_first : AuthenticatorEnd
  end_first = record { history = history; channels = 1; device = Idle; authenticator = step.fresh }

  pub out_one : (1 ≤ 1) × (1 ≤ 1)
  out_one = (omega arith, omega arith)

  pub first_some : asked_first ≢ []
  first_some e = absurd cc

  first_size : length asked_first ≤ 7609
  first_size = given.creating_size challenge text

  abbrev first_frames : List Packet
  first_frames = frame_list 1 16 asked_first

  first_zero : TheZeroFrames 1 16 asked_first first_frames
  first_zero = b.links.frames 1 16 asked_first (omega arith) (omega arith) first_size (creation_bytes challenge text)

  abbrev end_second : AuthenticatorEnd
  end_second =
      after_reply b.links bench_valid bench_public history 1 1 asked_first step.fresh idle_device out_one first_some first_frames reply
      (step.holding challenge text)

  pub second_idle : Leaves end_second.history 1 Idle
  second_idle =
      b.links.answered (history ++ map Took first_frames) 1 1 asked_first reply
      (b.links.comes history 1 1 asked_first first_frames idle_device out_one first_some first_zero.frames) (step.creation_payload challenge text).0

  abbrev asking : SiteState
  asking = after_begin at_first for_registration_of

  abbrev expected : expects.ExpectedRegistration
  expected = record {
    user = user;
    algorithms = (given.registering []).algs;
    uv = false;
    challenge = challenge;
    conditional = false;
    attestation = true;
  }

  abbrev pub registering : Registering
  registering = record {
    site = asking;
    session = 1;
    expected = expected;
    origin = origin;
    options = given.registering challenge;
    channel = 1;
    before = end_first;
    words = words;
    out = record { client_data = text; packets = first_frames };
    packets = frame_list 1 16 reply;
    after = end_second;
  }

  honest_registration : IsHonestRegistration bench_valid bench_public registering
  honest_registration = record {
    is_open = ap for_registration (is_begun at_first.sessions for_registration_of);
    rp_id = refl;
    challenge = refl;
    user = refl;
    algorithms = refl;
    verified = refl;
    offered = (signing.EdDsa, (0, omega arith, refl));
    origin = (0, omega arith, refl);
    origin_text = plain origin refl;
    accepted = refl;
    not_stored = refl;
    not_registered = refl;
    room = omega arith;
    site_room = omega arith;
    not_excluded = refl;
    decided = record {
      asks = record { client_data = refl; message = asked_first; written = creation_written challenge text; packets = first_zero };
      consent = consent;
      waits = 0;
      present = refl;
      configured = λ e. refl;
      verified = λ e. refl;
      exchange =
          exchanged b.links bench_valid bench_public history 1 1 asked_first step.fresh idle_device out_one first_some first_frames reply
          (step.holding challenge text) consent words first_zero.frames (step.creation_payload challenge text) (step.makes challenge text);
    };
  }

  -- the site once it is registered
  abbrev pub stored : SiteState
  stored = record asking {
    rows = asking.rows ++ registered expected (step.attested challenge text)
        (record { aaguid = step.aaguid; id = zeros; key = step.key }) ∷ [];
    sessions = closed 1 asking.sessions;
  }

  carried_first : Delivers 1 registering.packets (length registering.packets) reply
  carried_first = delivers b.links 1 reply [] registering.packets (omega arith) (step.creation_payload challenge text) tt refl

  stored_after : registration.IsAfter asking 1 text 1 registering.packets stored
  stored_after = (
    length registering.packets,
    reply,
    step.creation challenge text,
    carried_first,
    step.creation_spelled challenge text,
    (
      expected,
      object_of (step.creation challenge text),
      step.attested challenge text,
      record { aaguid = step.aaguid; id = zeros; key = step.key },
      ap for_registration (is_begun at_first.sessions for_registration_of),
      record {
        object = has_object (step.creation challenge text) reply (step.creation_spelled challenge text);
        auth_data = b.readings.taken Strict (step.attested challenge text) (step.attested_bytes challenge text) (step.attested_spelled challenge text);
        attested = refl;
      },
      refl,
    ),
  )

  -- ---- the sign-in

  abbrev later : List ℕ
  later = challenge_of 2 random

  abbrev later_text : List ℕ
  later_text = sign_in_data origin (given.signing_in later)

  abbrev asked_then : List ℕ
  asked_then = asserting later later_text

  abbrev answer : List ℕ
  answer = step.assertion_reply_bytes challenge text later later_text

  pub then_some : asked_then ≢ []
  then_some e = absurd cc

  abbrev then_frames : List Packet
  then_frames = frame_list 1 16 asked_then

  then_zero : TheZeroFrames 1 16 asked_then then_frames
  then_zero =
      b.links.frames 1 16 asked_then (omega arith) (omega arith) (given.asserting_size later later_text) (assertion_bytes later later_text)

  abbrev end_third : AuthenticatorEnd
  end_third =
      after_reply b.links bench_valid bench_public end_second.history 1 1 asked_then (step.holding challenge text) second_idle out_one then_some
      then_frames answer (step.counted challenge text later later_text)

  abbrev asking_again : SiteState
  asking_again = after_begin stored for_sign_in_by

  abbrev expected_then : expects.ExpectedSignIn
  expected_then = record { user = None; allow = []; uv = false; challenge = later }

  abbrev pub signing_in : SigningIn
  signing_in = record {
    site = asking_again;
    session = 2;
    expected = expected_then;
    origin = origin;
    options = given.signing_in later;
    channel = 1;
    before = end_second;
    words = words;
    out = record { client_data = later_text; packets = then_frames };
    packets = frame_list 1 16 answer;
    after = end_third;
  }

  honest_sign_in : IsHonestSignIn bench_valid bench_public signing_in
  honest_sign_in = record {
    is_open = ap for_sign_in (is_begun stored.sessions for_sign_in_by);
    rp_id = refl;
    challenge = refl;
    allow = refl;
    verified = refl;
    origin = (0, omega arith, refl);
    origin_text = plain origin refl;
    decided = record {
      asks = record { client_data = refl; message = asked_then; written = assertion_written later later_text; packets = then_zero };
      consent = consent;
      waits = 0;
      present = refl;
      configured = λ e. refl;
      verified = λ e. refl;
      exchange =
          exchanged b.links bench_valid bench_public end_second.history 1 1 asked_then (step.holding challenge text) second_idle out_one then_some
          then_frames answer (step.counted challenge text later later_text) consent words then_zero.frames
          (step.assertion_payload challenge text later later_text) (step.asserts challenge text later later_text);
    };
  }

  abbrev pub run : Run
  run = record { registering = registering; registered = stored; signing_in = signing_in }

  pub honest : IsHonestRun bench_valid bench_public run
  honest = record {
    idle = record { idle = refl; reading = idle_device; out = out_one };
    honest_registration = honest_registration;
    registered = stored_after;
    begins = (for_sign_in_by, refl);
    goes_on = refl;
    channel = refl;
    honest_sign_in = honest_sign_in;
    asks = inr (refl, refl, λ user is. absurd cc);
  }

  abbrev pub signed_in : SiteState
  signed_in = record asking_again {
    rows = with_row zeros (counted_row 1 (is_set (step.signed challenge text later later_text).flags BE)) asking_again.rows;
    sessions = closed 2 asking_again.sessions;
  }

  pub signed_in_after : sign_in.IsAfter asking_again 2 later_text 1 signing_in.packets signed_in
  signed_in_after = (
    length signing_in.packets,
    answer,
    step.assertion challenge text later later_text,
    delivers b.links 1 answer [] signing_in.packets (omega arith) (step.assertion_payload challenge text later later_text) tt refl,
    step.assertion_spelled challenge text later later_text,
    (
      step.signed challenge text later later_text,
      b.readings.taken Strict (step.signed challenge text later later_text) (step.signed_bytes challenge text later later_text)
          (step.signed_spelled challenge text later later_text),
      refl,
    ),
  )

  abbrev pub new_holder : Holder
  new_holder = record { state = step.fresh; signed = []; made = [] }

  abbrev pub world : World
  world = record { site = λ i. at_first; holder = λ k. new_holder }

  abbrev pub place : Place
  place = record { world = world; opening = for_registration_of; signed_in = signed_in; site = 0; holder = 0 }

  pub takes_place : TakesPlace bench_valid bench_public run honest place
  unfolding honest
  takes_place = record {
    start = record {
      sites = λ i. refl;
      holders = λ k. record { aaguid = step.aaguid; uv = true; attest = types.None; state = refl; signed = refl; made = refl };
    };
    authenticator = refl;
    begins = refl;
    words = (random_bytes, random_bytes);
    numbers = (omega arith, omega arith);
    ids = (refl, refl);
    after = signed_in_after;
  }

  pub happens : HonestRunTakesPlace bench_valid bench_public
  happens = record { run = run; honest = honest; place = place; takes_place = takes_place }

  -- ---- a run in which everything happens

  table_fits : Fits 4 (table_item 3 (saved_of at_first))
  unfolding head before
  table_fits = search (rules, arith, plain)

  restarts : (bytes : List ℕ) × TableOf (version_of at_first.rows) (saved_of at_first) bytes
  restarts = (
    spelling (table_item 3 (saved_of at_first)),
    record {
      known = (omega arith, omega arith);
      next = omega arith;
      rows = search (rules, arith);
      each = tt;
      needed = λ more. absurd (omega (arith, more));
      spelled = (table_fits, refl);
    },
  )

  saved_fits : Fits 4 (authenticator_item step.fresh)
  unfolding head before
  saved_fits = search (rules, arith)

  saved_new : SavedOf step.fresh (spelling (authenticator_item step.fresh))
  saved_new = record { aaguid = refl; remembered = refl; sources = tt; spelled = (saved_fits, refl) }

  pub everything : FullRun bench_valid bench_public
  everything =
      full_run bench_valid bench_public b bench_keeps_alg run honest place takes_place restarts
      (spelling (authenticator_item step.fresh), saved_new, saved_new)
