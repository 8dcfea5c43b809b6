-- The plain program that readers are proved against: each listed member looked up by its key. That it reads what
-- a value tells, and nothing else, are lemmas. No public clause cites it.
use Rattle.std.specs.Prelude.{ℕ, List, Bool, true, false, nat_lt, Option, Some, None, is_some, option_map}
use Rattle.ccbor.specs.Item.{Item}
use Rattle.ccbor.specs.Reading.{◌>>=◌}
use Rattle.ccbor.specs.Access.{member, items_in, pairs_in}
use Rattle.ctap_encoding.specs.Table.{Holds, list_of, record_of, not_empty, sized, Members, no_more, listed, size_of}
use Rattle.ctap_encoding.specs.Content.{Content, Contents, Member}
use Rattle.ctap_open_replies.specs.Replies.{User, user_members, Assertion, assertion_members}
use Rattle.ctap_encoding.specs.Reading.{checked, is_within, each_in, maybe, read_in}

-- what is read of a value that must be there
abbrev pub held_in : {A : Type 0} → (Item → Option A) → Option Item → Option A
held_in f (Some v) = f v
held_in f None = None

abbrev pub open_member : {A B : Type 0} → (required : Bool) → Option Item → (Item → Option A) → Option B → Option (Member required A × B)
open_member true held f others = held_in f held >>= λ a. others >>= λ rest. Some (a, rest)
open_member false held f others = maybe f held >>= λ a. others >>= λ rest. Some (a, rest)

abbrev mutual
  pub open_in : (h : Holds) → Item → Option (Content h)
  open_in (list_of h) x = items_in x >>= each_in (open_in h)
  open_in (record_of ms) x = checked (is_some (pairs_in x)) >>= λ u. open_members ms x
  open_in (not_empty fault h) x = checked (nat_lt 0 (size_of x)) >>= λ u. open_in h x
  open_in (sized low high fault h) x = checked (is_within low high x) >>= λ u. open_in h x
  open_in h x = read_in h x

  pub open_members : (ms : Members) → Item → Option (Contents ms)
  open_members no_more x = Some tt
  open_members (listed k required h ms) x = open_member required (member k x) (open_in h) (open_members ms x)

-- ---- a reply to getAssertion

-- the id that was given, or else the one that was listed
abbrev pub or_listed : Option (List ℕ) → Option (List ℕ) → Option (List ℕ)
or_listed alone (Some told) = Some told
or_listed alone None = alone

abbrev pub user_of : Contents user_members → User
user_of c = record { id = c.0; icon = c.1.0; name = c.1.1.0; display_name = c.1.1.1.0 }

-- what its members are, of the credential with this id
abbrev pub assertion_of : Contents assertion_members → List ℕ → Assertion
assertion_of c id = record {
  credential = id;
  auth_data = c.1.0;
  signature = c.1.1.0;
  user = option_map user_of c.1.1.1.0;
  number = c.1.1.1.1.0;
  user_selected = c.1.1.1.1.1.0;
  large_blob_key = c.1.1.1.1.1.1.0;
}

-- the id that its descriptor has
abbrev pub told_in : Contents assertion_members → Option (List ℕ)
told_in c = option_map (λ d. d.0) c.0

abbrev pub assertion_in : Option (List ℕ) → Item → Option Assertion
assertion_in alone x = open_in (record_of assertion_members) x >>= λ c. option_map (assertion_of c) (or_listed alone (told_in c))
