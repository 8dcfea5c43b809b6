-- A relying party whose credentials are rows of a store, and whose sessions are texts that it has sealed.
use Rattle.std.specs.Prelude.{◌≡◌, ◌⊎◌, ◌<◌, ◌≤◌, ◌+◌, ◌-◌, ◌*◌, ◌^◌, if◌then◌else◌, ℕ, pos, Bool, false, List, [], ◌∷◌, length, IsTrue, Some, filter, nat_lt, refl}
use Rattle.std.specs.Coded.{Coded, code_by, coded×, coded_bool, coded_list, coded_ℕ}
use Rattle.std.specs.FinMap as finite
use Rattle.std.specs.Int.{to_be_bytes, w64, w128}
use Rattle.sqlite_value.specs.Order.{Row}
use Rattle.sqlite_value.specs.declared.value.Value.TheVariants.{Null, Int, Text, Blob}
use Rattle.sqlite_trees.specs.Tree.{Trees, has_rowid, put_row, with_tree}
use Rattle.sqlite_trees.specs.View.{View, IsClean}
use Rattle.authdata.specs.declared.profile.Profile.{Profile}
use Rattle.authdata.specs.contracts.profile.Profile as profile
use Rattle.verification.specs.Records.{Credential, RelyingParty}
use Rattle.verification.specs.declared.party.Policy.{Policy}
use Rattle.verification.specs.contracts.party.Policy as policy
use Rattle.site_state.specs.Codes.{Bytes, coded_bytes}
use Rattle.site_rows.specs.Held.{HasTrees, Holds, Placed}
use Rattle.site_rows.specs.Trees.{detail_tree, HasTable}

-- the relying party; the attestations that it accepts; the key under which it seals sessions, how many seconds one is open, and the number of
-- the next one; the number below which all may have been given, and the same by what is committed; the mark of the last commit, and that of the next one; how many credentials there are, the highest place that one ever
-- had, and how many there may be; the store; whether a failure has shut it; whether something is written that is not committed
pub record StoredState (S : Type 0) : Type 0 where
  pub rp : RelyingParty
  pub policy : Policy
  pub key : List ℕ
  pub lifetime : ℕ
  pub next : ℕ
  pub reserved : ℕ
  pub durable : ℕ
  pub mark : ℕ
  pub next_mark : ℕ
  pub count : ℕ
  pub last : ℕ
  pub most : ℕ
  pub store : S
  pub is_shut : Bool
  pub is_pending : Bool

abbrev party_code : Coded RelyingParty
party_code =
    code_by (Bytes × (List Bytes × (List Bytes × Profile)))
    (coded× coded_bytes (coded× (coded_list coded_bytes) (coded× (coded_list coded_bytes) profile.the_row.coded)))
    (λ p. (p.rp_id, (p.origins, (p.top_origins, p.profile))))
    (λ p. record { rp_id = p.0; origins = p.1.0; top_origins = p.1.1.0; profile = p.1.1.1 }) (λ _. refl)

abbrev pub kept_code : {S : Type 0} → Coded S → Coded (StoredState S)
kept_code {S} store =
    code_by ((RelyingParty × (Policy × (List ℕ × (ℕ × ℕ)))) × ((ℕ × (ℕ × (ℕ × (ℕ × (ℕ × (ℕ × ℕ)))))) × (S × (Bool × Bool))))
    (coded× (coded× party_code (coded× policy.the_row.coded (coded× coded_bytes (coded× coded_ℕ coded_ℕ))))
    (coded× (coded× coded_ℕ (coded× coded_ℕ (coded× coded_ℕ (coded× coded_ℕ (coded× coded_ℕ (coded× coded_ℕ coded_ℕ)))))) (coded× store (coded× coded_bool coded_bool))))
    (λ s. ((s.rp, (s.policy, (s.key, (s.lifetime, s.next)))), ((s.reserved, (s.durable, (s.mark, (s.next_mark, (s.count, (s.last, s.most)))))), (s.store, (s.is_shut, s.is_pending)))))
    (λ p. record {
      rp = p.0.0;
      policy = p.0.1.0;
      key = p.0.1.1.0;
      lifetime = p.0.1.1.1.0;
      next = p.0.1.1.1.1;
      reserved = p.1.0.0;
      durable = p.1.0.1.0;
      mark = p.1.0.1.1.0;
      next_mark = p.1.0.1.1.1.0;
      count = p.1.0.1.1.1.1.0;
      last = p.1.0.1.1.1.1.1.0;
      most = p.1.0.1.1.1.1.1.1;
      store = p.1.1.0;
      is_shut = p.1.1.1.0;
      is_pending = p.1.1.1.1;
    }) (λ _. refl)

-- ---- what a store holds of it

-- the table of the relying party, and that of marks
abbrev pub site_tree : ℕ
site_tree = 2

abbrev pub mark_tree : ℕ
mark_tree = 6

-- the tables of the key, of sessions that have ended, and of users whose registrations have ended
abbrev pub key_tree : ℕ
key_tree = 7

abbrev pub ended_session_tree : ℕ
ended_session_tree = 8

abbrev pub ended_user_tree : ℕ
ended_user_tree = 9

-- the columns: number, version, rp_id, next_session
abbrev pub site_row_of : ℕ → List ℕ → ℕ → Row
site_row_of version rp_id next = Int (pos 1) ∷ Null ∷ Int (pos version) ∷ Text rp_id ∷ Int (pos next) ∷ []

-- the same in a file of version 4
abbrev pub site_row : List ℕ → ℕ → Row
site_row rp_id next = site_row_of 4 rp_id next

-- an integer column holds it
abbrev pub FitsColumn : ℕ → Type 0
FitsColumn n = n < 2 ^ 63

-- the number below which all may be given once 1,000 more are reserved, as far as a column holds it
abbrev pub moved_on : ℕ → ℕ
moved_on reserved = if nat_lt (reserved + 1000) (2 ^ 63) then reserved + 1000 else reserved

-- what tells a copy that lacks the last commit from the store itself: the number before the one that this commit wrote
abbrev pub known : ℕ → ℕ
known durable = durable - 1

-- the number that a commit writes: each commit reserves more
abbrev pub to_commit : ℕ → ℕ → ℕ
to_commit durable reserved = if nat_lt durable reserved then reserved else moved_on reserved

-- trees with this row of the relying party
abbrev pub with_site : List ℕ → ℕ → Trees → Trees
with_site rp_id next db = with_tree db site_tree (put_row (site_row rp_id next) (db site_tree))

-- the columns: number, mark, follows, sum; a mark of 8 bytes, that of the commit before, and the first one times a number of 64 bits, by which a
-- page is answered that was not written to its end
abbrev pub mark_row : ℕ → ℕ → Row
mark_row mark follows =
    Int (pos 1) ∷ Null ∷ Blob (to_be_bytes w64 mark) ∷ Blob (to_be_bytes w64 follows) ∷ Blob (to_be_bytes w128 (mark * 11400714819323198485)) ∷ []

-- trees with this row of a commit that has a mark, and follows another
abbrev pub with_mark : ℕ → ℕ → Trees → Trees
with_mark mark follows db = with_tree db mark_tree (put_row (mark_row mark follows) (db mark_tree))

-- the mark of the commit after one, of 64 bits
abbrev pub mark_after : ℕ → ℕ
mark_after mark = if nat_lt mark 18446744073709551615 then mark + 1 else 0

-- trees as a site's commit leaves them: with these numbers reserved, and its mark
abbrev pub committed_as : {S : Type 0} → StoredState S → Trees → Trees
committed_as s db = with_mark s.next_mark s.mark (with_site s.rp.rp_id (to_commit s.durable s.reserved) db)

-- the row of the last commit stands in the table of marks; none where nothing was committed since the table was made
abbrev pub HasMark : ℕ → Trees → Type 0
HasMark mark db =
    ((mark ≡ 0) × (filter (has_rowid (pos 1)) (db mark_tree) ≡ [])) ⊎ ((follows : ℕ) × (filter (has_rowid (pos 1)) (db mark_tree) ≡ mark_row mark follows ∷ []))

-- the trees hold the credentials, and the row of the relying party: no session had this number or a higher one
pub record HoldsSite (placed : Placed) (rp_id : List ℕ) (next : ℕ) (db : Trees) : Type 0 where
  pub credentials : Holds placed db
  pub site : db site_tree ≡ site_row rp_id next ∷ []

-- the columns: number, key
abbrev pub key_row : List ℕ → Row
key_row key = Int (pos 1) ∷ Null ∷ Blob key ∷ []

-- the row of the key stands in its table
abbrev pub HasKey : List ℕ → Trees → Type 0
HasKey key db = filter (has_rowid (pos 1)) (db key_tree) ≡ key_row key ∷ []

-- the row of the relying party stands in its table
abbrev pub HasParty : List ℕ → ℕ → Trees → Type 0
HasParty rp_id next db = filter (has_rowid (pos 1)) (db site_tree) ≡ site_row rp_id next ∷ []

-- so it is, and the counts are those of the credentials
pub record IsHeld {S : Type 0} (placed : Placed) (s : StoredState S) (db : Trees) : Type 0 where
  pub holds : HoldsSite placed s.rp.rp_id s.reserved db
  pub count : finite.len placed ≡ s.count
  pub last : (place : ℕ) (c : Credential) → finite.get placed place ≡ Some c → place ≤ s.last

-- each number that was given is below those that are reserved, which a column can hold
abbrev pub AreReserved : {S : Type 0} → StoredState S → Type 0
AreReserved s = (s.next ≤ s.reserved) × FitsColumn s.reserved

-- the store is open and not broken, its trees have the shapes of a site's, and where nothing waits to be committed all is
pub record IsReady (v : View) (is_pending : Bool) : Type 0 where
  pub trees : HasTrees v
  pub site : HasTable site_tree v
  pub details : HasTable detail_tree v
  pub marks : HasTable mark_tree v
  pub ended_sessions : HasTable ended_session_tree v
  pub ended_users : HasTable ended_user_tree v
  pub is_open : IsTrue v.is_open
  pub sound : v.is_broken ≡ false
  pub committed : is_pending ≡ false → v.trees ≡ v.committed

-- a site that is not shut is ready, each number that was given is below those that are reserved, no more are so by what is
-- committed, and these a column can hold
pub record IsSound {S : Type 0} (view : S → View) (s : StoredState S) : Type 0 where
  pub ready : s.is_shut ≡ false → IsClean (view s.store) → IsReady (view s.store) s.is_pending
  pub given : s.is_shut ≡ false → s.next ≤ s.reserved
  pub durable : s.is_shut ≡ false → s.durable ≤ s.reserved
  pub reserved : FitsColumn s.reserved
  pub key : length s.key ≡ 32
