-- What a site over a store goes through: calls, commits, crashes and opens. Each call is said in the words of its contract
-- (`site_stored`), of where it is done; one that is refused changes nothing, and is left out.
use Rattle.std.specs.Prelude.{◌≡◌, ◌≤◌, ◌<◌, ◌+◌, ◌^◌, ℕ, Bool, true, false, List, [], ◌∷◌, ◌++◌, Some, Contains, filter, length, map, min, nat_lt, not}
use Rattle.std.specs.FinMap as finite
use Rattle.std.specs.Str.{bytes_eq}
use Rattle.sqlite_trees.specs.Tree.{Trees}
use Rattle.base64.specs.GeneralPurpose.{IsBytes}
use Rattle.sha2.specs.Sha256.{sha256}
use Rattle.cose.specs.Schemes.{Validity}
use Rattle.authdata.specs.declared.profile.Profile.{Profile}
use Rattle.authdata.specs.Responses.{AuthenticatorAssertionResponse, AuthenticatorAttestationResponse}
use Rattle.verification.specs.Records.{Credential}
use Rattle.site_rows.specs.Endings.{Endings, HoldsEndings}
use Rattle.site_rows.specs.Held.{IsAt, Placed, rows_of}
use Rattle.site_rows.specs.declared.ending.Ending.{Ending}
use Rattle.site_seal.specs.Judged.{TellsApart}
use Rattle.site_seal.specs.Seal.{AreInOrder, IsSession, Session, sealed_text}
use Rattle.site_state.specs.Sessions.{Expected, ForRegistration, ForSignIn, IsInput, Opening, OpensRegistration, OpensSignIn, expected_of}
use Rattle.site_stored.specs.State.{IsHeld, StoredState, ended_session_tree}
use Rattle.site_stored.specs.Sessions.{EndsSession, abandoned, accepted, begun_text, ceremony_of, longest, until}
use Rattle.site_stored.specs.Calls as calls
use Rattle.site_stored.specs.Calls.{IsOneSite, TellsAllRetired, TellsDeleted, TellsErased, TellsRetired}
use Rattle.site_stored.specs.declared.finish.SignedIn.{SignedIn}
use Rattle.site_stored.specs.declared.registration.Registered.{Registered}
use Rattle.agreement.specs.World.{words_of}
use Rattle.agreement.specs.World as world

-- a site; the credentials that its trees hold, by their places; the sessions that have ended by them, by their numbers; and these trees
pub record Kept (S : Type 0) : Type 0 where
  pub state : StoredState S
  pub placed : Placed
  pub ended : Endings
  pub trees : Trees

-- it is one: its trees hold it and what has ended; and each number that was given is below those that are reserved in the trees
pub record IsKept {S : Type 0} (k : Kept S) : Type 0 where
  pub held : IsHeld k.placed k.state k.trees
  pub ended : HoldsEndings ended_session_tree k.ended k.trees
  pub given : k.state.next ≤ k.state.reserved
  pub reserved : k.state.reserved < 2 ^ 63

-- each credential has a user and an id
abbrev pub AreNamed : Placed → Type 0
AreNamed placed = (place : ℕ) (c : Credential) → finite.get placed place ≡ Some c → (1 ≤ length c.user) × (1 ≤ length c.id)

-- a session that has begun: its number, what it was begun for, the second at which it ends, and the text that is handed out for it
pub record Begun : Type 0 where
  pub number : ℕ
  pub opening : Opening
  pub ends : ℕ
  pub text : List ℕ

-- ---- calls

-- each at a second of the host's clock; a response is brought with the text of a session, which has this number; and the ids are those of the
-- user's credentials, of the ones that were not retired where they are to be retired
pub data Call : Type 0 where
  Begins : (opening : Opening) (now : ℕ) → Call
  Abandons : (text : List ℕ) (now : ℕ) → Call
  Retires : (id : List ℕ) (was : Bool) (now : ℕ) → Call
  Deletes : (id : List ℕ) (was : Bool) (now : ℕ) → Call
  RetiresAll : (user : List ℕ) (ids : List (List ℕ)) (now : ℕ) → Call
  Erases : (user : List ℕ) (ids : List (List ℕ)) (now : ℕ) → Call
  SignsIn : (session : ℕ) (text : List ℕ) (r : AuthenticatorAssertionResponse) (now : ℕ) → Call
  Registers : (session : ℕ) (text : List ℕ) (r : AuthenticatorAttestationResponse) (now : ℕ) → Call

abbrev pub second_of : Call → ℕ
second_of (Begins o now) = now
second_of (Abandons text now) = now
second_of (Retires id was now) = now
second_of (Deletes id was now) = now
second_of (RetiresAll user ids now) = now
second_of (Erases user ids now) = now
second_of (SignsIn n text r now) = now
second_of (Registers n text r now) = now

-- credentials stay; no session begins; none ends
abbrev pub Stays : {S : Type 0} → Kept S → Kept S → Type 0
Stays old new = new.placed ≡ old.placed

abbrev pub NoneBegins : {S : Type 0} → Kept S → Kept S → Type 0
NoneBegins old new = new.state.next ≡ old.state.next

abbrev pub NoneEnds : {S : Type 0} → Kept S → Kept S → Type 0
NoneEnds old new = new.ended ≡ old.ended

-- what is asked is within its limits, a challenge has 24 words of its own, and algorithms are offered in their order
abbrev pub MayBegin : Profile → Opening → Type 0
MayBegin profile (OpensSignIn user allow uv words) = IsInput profile (OpensSignIn user allow uv words) × (length words ≡ 24)
MayBegin profile (OpensRegistration user algorithms uv words asks) =
    IsInput profile (OpensRegistration user algorithms uv words asks) × (length words ≡ 24) × AreInOrder algorithms

-- a user's credentials, in order of registration
abbrev pub of_user : List ℕ → Placed → List Credential
of_user user placed = filter (λ c. bytes_eq c.user user) (rows_of placed)

abbrev pub ids_of : List Credential → List (List ℕ)
ids_of rows = map (λ c. c.id) rows

-- the session of a text is that of a number, and it is accepted
abbrev pub Accepts : {S : Type 0} → Kept S → ℕ → List ℕ → ℕ → Kept S → Type 0
Accepts old n text now new = (ends : EndsSession old.state accepted now text old.ended new.ended) × (ends.0 ≡ n)

-- what a call makes of a site, where it is done
abbrev pub Does : {S : Type 0} → Validity → Kept S → Call → Kept S → Type 0
Does valid old (Begins o now) new =
    IsBytes (words_of o) × MayBegin old.state.rp.profile o × Stays old new × (new.state.next ≡ old.state.next + 1) × NoneEnds old new
Does valid old (Abandons text now) new = Stays old new × NoneBegins old new × EndsSession old.state abandoned now text old.ended new.ended
Does valid old (Retires id was now) new = TellsRetired old.placed id was new.placed × NoneBegins old new × NoneEnds old new
Does valid old (Deletes id was now) new = TellsDeleted old.placed id was new.placed × NoneBegins old new × NoneEnds old new
Does valid old (RetiresAll user ids now) new =
    (ids ≡ ids_of (filter (λ c. not c.retired) (of_user user old.placed))) × TellsAllRetired old.placed user (length ids) new.placed × NoneBegins old new × NoneEnds old new
Does valid old (Erases user ids now) new =
    (ids ≡ ids_of (of_user user old.placed)) × TellsErased old.placed user (length ids) new.placed × NoneBegins old new × NoneEnds old new
Does valid old (SignsIn n text r now) new =
    ((x : SignedIn) × calls.SignsIn valid old.placed old.ended old.state now text r x new.placed) × NoneBegins old new × Accepts old n text now new
Does valid old (Registers n text r now) new =
    ((users : Endings) × (x : Registered) × calls.Registers valid old.placed old.ended users old.state now text r x new.placed)
    × NoneBegins old new × Accepts old n text now new

-- ---- texts

-- what begins with a call
abbrev pub begun_at : {S : Type 0} → StoredState S → Opening → ℕ → Begun
begun_at s o now = record { number = s.next; opening = o; ends = until now (min s.lifetime longest); text = begun_text s o now }

abbrev pub begun_by : {S : Type 0} → StoredState S → Call → List Begun
begun_by s (Begins o now) = begun_at s o now ∷ []
begun_by s c = []

-- what the text of a session holds
abbrev pub session_in : List ℕ → Begun → Session
session_in key b = record { ends = b.ends; ceremony = ceremony_of key (expected_of b.number b.opening) }

-- a text is sealed under this key and for this rp id
pub record IsSealed (key rp_id : List ℕ) (b : Begun) : Type 0 where
  pub text : b.text ≡ sealed_text key (sha256 rp_id) (session_in key b)
  pub is : IsSession (session_in key b)

-- each is, its number was given, and no two have one number
pub record AreBegun (key rp_id : List ℕ) (next : ℕ) (bs : List Begun) : Type 0 where
  pub each : (b : Begun) → Contains bs b → IsSealed key rp_id b
  pub given : (b : Begun) → Contains bs b → b.number < next
  pub own : (b c : Begun) → Contains bs b → Contains bs c → b.number ≡ c.number → b ≡ c

-- a text is that of one of these: nobody else makes one that opens under the site's key
abbrev pub IsHanded : List Begun → List ℕ → Type 0
IsHanded begun text = (b : Begun) × Contains begun b × (b.text ≡ text)

-- the hashes in the text of a sign-in tell the user and the ids that it expects from those of a credential
abbrev pub TellsThem : List ℕ → Expected → List ℕ → List ℕ → Type 0
TellsThem key (ForSignIn e) handle id = TellsApart key e handle id
TellsThem key (ForRegistration e) handle id = Unit {0}

-- what no proof gives of HMAC: a text that opens was handed out; and where a response signs in by it, its hashes tell users and ids
-- apart, with the credential that is found for the response
abbrev pub IsOwn : {S : Type 0} → Kept S → List Begun → Call → Type 0
IsOwn k begun (Abandons text now) = IsHanded begun text
IsOwn k begun (Registers n text r now) = IsHanded begun text
IsOwn k begun (SignsIn n text r now) =
    (handed : IsHanded begun text)
    × ((place : ℕ) (c : Credential) → IsAt k.placed r.credential place c
    → TellsThem k.state.key (expected_of handed.0.number handed.0.opening) c.user r.credential)
IsOwn k begun c = Unit {0}

-- ---- commits, crashes and opens

-- a commit changes no credential and ends no session, and the numbers go on
abbrev pub IsCommitted : {S : Type 0} → Kept S → Kept S → Type 0
IsCommitted old new = Stays old new × NoneEnds old new × calls.IsCommit old.state new.state

-- an open finds a site in the trees of a kept one, for the same rp id and under the same key, whatever else its relying party and its policy
-- are; and the numbers go on above all that may have been given
pub record IsOpened {S : Type 0} (kept new : Kept S) : Type 0 where
  pub trees : new.trees ≡ kept.trees
  pub rp_id : new.state.rp.rp_id ≡ kept.state.rp.rp_id
  pub key : new.state.key ≡ kept.state.key
  pub next : new.state.next ≡ new.state.reserved

-- a call; a commit; and an open, after a crash, a failure of the store or a close, which finds what was committed last, or, where
-- it was a commit that was cut off, what this would have committed
pub data Step : Type 0 where
  Calls : (call : Call) → Step
  Commits : Step
  Opens : (finds_all : Bool) → Step

-- a site as it is, and as it was committed last; the sessions that have begun, whose texts were handed out; and the second of the last call
pub record Store (S : Type 0) : Type 0 where
  pub now : Kept S
  pub committed : Kept S
  pub begun : List Begun
  pub second : ℕ

-- where a history may start: all is committed; and of the texts that were handed out before, which are the site's own, an ending is known until
-- their time is over
pub record MayStart {S : Type 0} (s : Store S) : Type 0 where
  pub kept : IsKept s.now
  pub committed : s.committed ≡ s.now
  pub named : AreNamed s.now.placed
  pub begun : AreBegun s.now.state.key s.now.state.rp.rp_id s.now.state.next s.begun
  pub known : (b : Begun) (e : Ending) → Contains s.begun b → finite.get s.now.ended b.number ≡ Some e → b.ends ≤ e.until

-- a call, at a second that is no earlier than that of the last one
pub record IsCalled {S : Type 0} (valid : Validity) (old : Store S) (c : Call) (new : Store S) : Type 0 where
  pub one : IsOneSite old.now.state new.now.state
  pub does : Does valid old.now c new.now
  pub own : IsOwn old.now old.begun c
  pub later : old.second ≤ second_of c
  pub second : new.second ≡ second_of c
  pub begun : new.begun ≡ old.begun ++ begun_by old.now.state c
  pub committed : new.committed ≡ old.committed

-- all that is now is committed, and of the texts these are left
pub record IsWhole {S : Type 0} (left : List Begun) (old new : Store S) : Type 0 where
  pub committed : new.committed ≡ new.now
  pub begun : new.begun ≡ left
  pub second : new.second ≡ old.second

-- those whose numbers are reserved in what was committed: no other is handed out before it is
abbrev pub handed_out : {S : Type 0} → Kept S → List Begun → List Begun
handed_out k begun = filter (λ b. nat_lt b.number k.state.reserved) begun

abbrev pub Takes : {S : Type 0} → Validity → Store S → Step → Store S → Type 0
Takes valid old (Calls c) new = IsCalled valid old c new
Takes valid old Commits new = IsCommitted old.now new.now × IsWhole old.begun old new
Takes valid old (Opens false) new = IsOpened old.committed new.now × IsWhole (handed_out old.committed old.begun) old new
Takes {S} valid old (Opens true) new =
    ((mid : Kept S) × IsCommitted old.now mid × IsKept mid × IsOpened mid new.now) × IsWhole old.begun old new

-- ---- what is kept of it

-- what a call does to credentials
abbrev pub act_of : Call → List world.SiteEvent
act_of (Retires id true now) = world.Retires id ∷ []
act_of (Deletes id true now) = world.Deletes id ∷ []
act_of (RetiresAll user ids now) = map world.Retires ids
act_of (Erases user ids now) = map world.Deletes ids
act_of (SignsIn n text r now) = world.SignsIn n r ∷ []
act_of (Registers n text r now) = world.Registers n r ∷ []
act_of c = []
