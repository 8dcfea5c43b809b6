-- The commands of a registration and of a sign-in (CTAP 2.1, sections 6.1 and 6.2), and what the replies tell.
use Rattle.std.specs.Prelude.{◌≡◌, ℕ, ◌+◌, ◌-◌, ◌<◌, ◌≤◌, ◌==◌, List, [], ◌∷◌, ◌++◌, map, length, take, drop, slice_get, Option, Some, None, option_map, unwrap_or, ◌⊎◌, Vec, if◌then◌else◌}
use Rattle.std.specs.Global.{Global}
use Rattle.ctap_encoding.specs.Content.{item_of}
use Rattle.ctap_encoding.specs.Table.{record_of}
use Rattle.ctap_open_replies.specs.ReplyView.{assertion_view, creation_view}
use Rattle.ctap_open_replies.specs.Replies.{IsReply, Info, TellsAssertion, TellsCreation}
use Rattle.ctap_open_replies.specs.Replies.{Assertion as Signed}
use Rattle.ctap_open_replies.specs.declared.reply.KeyAssertion.{KeyAssertion}
use Rattle.ctap_open_replies.specs.declared.reply.KeyCreation.{KeyCreation}
use Rattle.ctap_open_requests.specs.Extensions.{assertion_inputs, assertion_inputs_content, creation_inputs, creation_inputs_content, wanted}
use Rattle.ctap_open_requests.specs.ExtensionView.{assertion_inputs_view, creation_inputs_view}
use Rattle.ctap_open_requests.specs.Limits.{IsRefused, IsWritten}
use Rattle.ctap_open_requests.specs.RequestView.{rp_view, user_view}
use Rattle.ctap_open_requests.specs.Requests.{Assertion, AssertionOf, Creation, CreationOf}
use Rattle.ctap_open_requests.specs.declared.error.RequestError.{RequestError}
use Rattle.pin_protocols.specs.Flows.{Scope}
use Rattle.client_ceremony.specs.Exchanges.{Ends, Then, Told, Unread, Untold}
use Rattle.client_ceremony.specs.Facts.{Facts}
use Rattle.client_ceremony.specs.Refusals.{of_request}
use Rattle.client_ceremony.specs.Tokens.{Unverified, Verified, Verifies}
use Rattle.client_ceremony.specs.Way.{assertion_way, creation_way, is_discoverable}
use Rattle.client_ceremony.specs.declared.halt.Halt.{Halt}
use Rattle.client_ceremony.specs.declared.halt.Halt.TheVariants as halts
use Rattle.client_ceremony.specs.declared.refusal.Refusal.{Refusal}
use Rattle.client_ceremony.specs.declared.refusal.Refusal.TheVariants as refusals
use Rattle.client_ceremony.specs.declared.step.Step.TheVariants as steps
use Rattle.client_ceremony.specs.declared.wish.Asserting.{Asserting}
use Rattle.client_ceremony.specs.declared.wish.Creating.{Creating}

-- ---- a registration: the permission mc, which is 1 (6.5.5.7)

abbrev pub creation_of : Info → Creating → Verified → Creation
creation_of info c v = record {
  client_data_hash = c.client_data_hash.now;
  rp = rp_view c.rp;
  user = user_view c.user;
  algorithms = c.algorithms.now;
  exclude = map (λ b. b.now) c.exclude.now;
  extensions = option_map (λ e. item_of (record_of creation_inputs) (creation_inputs_content (creation_inputs_view e))) c.extensions;
  options = record { rk = wanted (is_discoverable info c.resident); up = None; uv = v.uv };
  auth = v.auth;
}

abbrev pub CreationBytes : Info → Creation → List ℕ → Type 0
CreationBytes info q = IsWritten info q.options q.exclude (CreationOf q)

abbrev pub NoCreationBytes : Info → Creation → Refusal → Type 0
NoCreationBytes info q f = (e : RequestError) × IsRefused info q.options q.exclude (CreationOf q) e × (f ≡ of_request e)

abbrev pub creation_scope : Creating → Scope
creation_scope c = record { permissions = 1; rp_id = Some c.rp.id.now }

abbrev pub CreationVerified : Facts → Info → Creating → Verified → Type 0
CreationVerified k info c = Verifies k info (creation_way info c k.built_in) (creation_scope c) c.client_data_hash.now

abbrev pub CreationUnverified : Facts → Info → Creating → Halt → Type 0
CreationUnverified k info c = Unverified k info (creation_way info c k.built_in) (creation_scope c) c.client_data_hash.now

-- the command that is sent after n others is next, tells nothing, or made the credential
abbrev pub Makes : Facts → ℕ → (List ℕ → Type 0) → Halt → Type 0
Makes k n P h =
    Untold k n P TellsCreation h
    ⊎ ((r : KeyCreation) × Told k n P TellsCreation (creation_view r) × (h ≡ halts.Steps (n + 1) (steps.Created r)))

abbrev pub Registers : Facts → Info → Creating → Halt → Type 0
Registers k info c =
    Then (CreationVerified k info c) (CreationUnverified k info c) (λ v h.
    Ends (NoCreationBytes info (creation_of info c v)) h ⊎ Makes k v.place (CreationBytes info (creation_of info c v)) h)

-- ---- a sign-in: the permission ga, which is 2 (6.5.5.7)

abbrev pub assertion_of : Asserting → Verified → Assertion
assertion_of a v = record {
  rp_id = a.rp_id.now;
  client_data_hash = a.client_data_hash.now;
  allow = map (λ b. b.now) a.allow.now;
  extensions = option_map (λ e. item_of (record_of assertion_inputs) (assertion_inputs_content (assertion_inputs_view e))) a.extensions;
  options = record { rk = None; up = None; uv = v.uv };
  auth = v.auth;
}

abbrev pub AssertionBytes : Info → Assertion → List ℕ → Type 0
AssertionBytes info q = IsWritten info q.options q.allow (AssertionOf q)

abbrev pub NoAssertionBytes : Info → Assertion → Refusal → Type 0
NoAssertionBytes info q f = (e : RequestError) × IsRefused info q.options q.allow (AssertionOf q) e × (f ≡ of_request e)

abbrev pub assertion_scope : Asserting → Scope
assertion_scope a = record { permissions = 2; rp_id = Some a.rp_id.now }

abbrev pub AssertionVerified : Facts → Info → Asserting → Verified → Type 0
AssertionVerified k info a = Verifies k info (assertion_way info a k.built_in) (assertion_scope a) a.client_data_hash.now

abbrev pub AssertionUnverified : Facts → Info → Asserting → Halt → Type 0
AssertionUnverified k info a = Unverified k info (assertion_way info a k.built_in) (assertion_scope a) a.client_data_hash.now

-- the id that is listed alone, which a reply may leave out
abbrev pub alone : List (List ℕ) → Option (List ℕ)
alone ids = if length ids == 1 then slice_get ids 0 else None

-- ---- several assertions (6.2.2, numberOfCredentials; 6.3): getNextAssertion asks for each but the first

abbrev pub count_of : Signed → ℕ
count_of first = unwrap_or first.number 1

-- the replies to getNextAssertion, of which there are at most so many, after n messages and the command
abbrev pub next_replies : Facts → ℕ → Signed → List (List ℕ)
next_replies k n first = take (count_of first - 1) (drop (n + 1) k.replies)

-- each tells the assertion at its place
abbrev pub EachTells : List Signed → List (List ℕ) → Type 0
EachTells [] [] = Unit {0}
EachTells (q ∷ qs) (r ∷ rs) = IsReply (TellsAssertion None) q r × EachTells qs rs
EachTells qs rs = ⊥

-- one of them tells none, and it is the first such
abbrev pub OneUntold : List (List ℕ) → Refusal → Type 0
OneUntold rs f =
    (qs : List Signed) × (front : List (List ℕ)) × (r : List ℕ) × (back : List (List ℕ)) × (rs ≡ front ++ (r ∷ back))
    × EachTells qs front × Unread (TellsAssertion None) r f

-- all have come; the user has not chosen, or chose this, or none of them
abbrev pub Choice : ℕ → List Signed → Option ℕ → Halt → Type 0
Choice sent all None h = (v : Vec KeyAssertion Global) × (map assertion_view v.items ≡ all) × (h ≡ halts.Steps sent (steps.Chooses v))
Choice sent all (Some i) h =
    ((a : KeyAssertion) × (slice_get all i ≡ Some (assertion_view a)) × (h ≡ halts.Steps sent (steps.Asserted a)))
    ⊎ ((slice_get all i ≡ None) × (h ≡ halts.Refuses refusals.NoSuchChoice))

abbrev pub Several : Facts → ℕ → Signed → List (List ℕ) → Halt → Type 0
Several k n first rs h =
    Ends (OneUntold rs) h
    ⊎ ((qs : List Signed) × EachTells qs rs
    × (((length rs < count_of first - 1) × (m : Vec ℕ Global) × (m.items ≡ 8 ∷ []) × (h ≡ halts.Steps (n + 1 + length rs) (steps.Sends m)))
    ⊎ ((length rs ≡ count_of first - 1) × Choice (n + 1 + length rs) (first ∷ qs) k.chosen h)))

-- after the first, whose command was sent after n messages
abbrev pub Chosen : Facts → ℕ → Signed → KeyAssertion → Halt → Type 0
Chosen k n first a h =
    ((count_of first ≤ 1) × (h ≡ halts.Steps (n + 1) (steps.Asserted a)))
    ⊎ ((1 < count_of first) × Several k n first (next_replies k n first) h)

-- the command that is sent after n others is next, tells nothing, or told the first
abbrev pub Signs : Facts → ℕ → (List ℕ → Type 0) → Option (List ℕ) → Halt → Type 0
Signs k n P listed =
    Then (λ a. Told k n P (TellsAssertion listed) (assertion_view a)) (Untold k n P (TellsAssertion listed)) (λ a. Chosen k n (assertion_view a) a)

abbrev pub SignsIn : Facts → Info → Asserting → Halt → Type 0
SignsIn k info a =
    Then (AssertionVerified k info a) (AssertionUnverified k info a) (λ v h.
    Ends (NoAssertionBytes info (assertion_of a v)) h
    ⊎ Signs k v.place (AssertionBytes info (assertion_of a v)) (alone (map (λ b. b.now) a.allow.now)) h)
