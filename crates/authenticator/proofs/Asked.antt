-- What a request that was read has: the sizes that its table asks for.
use Rattle.std.proofs.Common.{◌≡◌, ◌≤◌, ◌&&◌, ℕ, List, ◌∷◌, true, false, length, refl, subst, arith}
use Rattle.std.specs.Prelude.{nat_le, not, Option, Some, None, option_map}
use Rattle.std.proofs.lemmas.Bool.{leb-true}
use Rattle.ccbor.specs.Item as of
use Rattle.ccbor.specs.Item.{Item, Pairs}
use Rattle.ccbor.specs.Access.{member}
use Rattle.ccbor.specs.Canon.{Canon}
use Rattle.ctap_encoding.specs.declared.fault.Fault.{Fault}
use Rattle.ctap_encoding.specs.declared.fault.Fault.TheVariants as faults
use Rattle.ctap_encoding.proofs.Tests.{clean_if_none, holds, or_none}
use Rattle.ctap_encoding.specs.Table.{Members, all_keys, fails, gravest, has_fault, in_member, in_members, is_listed, listed, no_more, record_of, sized, some_bytes}
use Rattle.ctap_encoding.specs.Content.{item_of, members_item}
use Rattle.ctap_requests.specs.Entities.{UserEntity, user_content, user_members}
use Rattle.ctap_requests.specs.Requests.{AssertionRequest, CreationRequest, RequestMessage, assertion_content, assertion_item, assertion_members}
use Rattle.ctap_requests.specs.Requests.{creation_content, creation_item, creation_members, get_assertion, make_credential, get_next_assertion}
use Rattle.ctap_requests.specs.Requests.{get_info, reset, map_of}
use Rattle.ctap_requests.specs.Status.{NoStatus, IsRequest, has_map}
use Rattle.ctap_replies.proofs.Texts.{and_left, and_right}
use Rattle.authenticator.specs.Private.{HasUser, IsUser}

-- no rank applies, so there is no fault
clean : (command : ℕ) (rest : List ℕ) (v : Item) → has_map command ≡ true → Canon v rest → NoStatus (command ∷ rest) → gravest (map_of command) v ≡ None
clean command rest v h c none = go (gravest (map_of command) v) refl where
  go : (o : Option Fault) → gravest (map_of command) v ≡ o → gravest (map_of command) v ≡ None
  go None e = e
  go (Some faults.AnotherKind) e = absurd (none.1.1.1.0 (h, v, c, e))
  go (Some faults.UnlistedKey) e = absurd (none.1.1.1.1.0 (h, v, c, e))
  go (Some faults.MissingMember) e = absurd (none.1.1.1.1.1.0 (h, v, c, e))
  go (Some faults.InvalidSize) e = absurd (none.1.1.1.1.1.1.0 (h, v, c, e))
  go (Some faults.OverLimit) e = absurd (none.1.1.1.1.1.1.1.0 (h, v, c, e))

-- a record without a fault has members without it
record_clean : (f : Fault) (ms : Members) (ps : Pairs) → has_fault f (record_of ms) (of.map ps) ≡ false → in_members f ms (of.map ps) ≡ false
record_clean f ms ps e = (or_none (fails f faults.UnlistedKey (all_keys (is_listed ms) ps)) (in_members f ms (of.map ps)) e).1

-- each of them
abbrev EachClean : Fault → Members → Item → Type 0
EachClean f no_more x = Unit {0}
EachClean f (listed k required h ms) x = (in_member (has_fault f h) (fails f faults.MissingMember (not required)) (member k x) ≡ false) × EachClean f ms x

each_clean : (f : Fault) (ms : Members) (x : Item) → in_members f ms x ≡ false → EachClean f ms x
each_clean f no_more x e = tt
each_clean f (listed k required h ms) x e =
    let both = or_none (in_member (has_fault f h) (fails f faults.MissingMember (not required)) (member k x)) (in_members f ms x) e in
    (both.0, each_clean f ms x both.1)

-- bytes without a fault of size are within it
within : (low high : ℕ) (f : Fault) (bs : List ℕ) → has_fault f (sized low high f some_bytes) (of.bytes bs) ≡ false → (low ≤ length bs) × (length bs ≤ high)
within low high f bs e =
    let test = nat_le low (length bs) && nat_le (length bs) high in
    let both : test ≡ true = holds f test (or_none (has_fault f some_bytes (of.bytes bs)) (fails f f test) e).1 in (
      leb-true low (length bs) (and_left (nat_le low (length bs)) (nat_le (length bs) high) both),
      leb-true (length bs) high (and_right (nat_le low (length bs)) (nat_le (length bs) high) both),
    )

creation_each : (f : Fault) (q : CreationRequest) (x : Option Pairs) → gravest (record_of creation_members) (creation_item q x) ≡ None
    → EachClean f creation_members (creation_item q x)
creation_each f q x e =
    each_clean f creation_members (creation_item q x)
    (record_clean f creation_members (members_item creation_members (creation_content q (option_map of.map x)))
    (clean_if_none (record_of creation_members) (creation_item q x) e f))

user_each : (f : Fault) (u : UserEntity) → has_fault f (record_of user_members) (item_of (record_of user_members) (user_content u)) ≡ false
    → EachClean f user_members (item_of (record_of user_members) (user_content u))
user_each f u e =
    each_clean f user_members (item_of (record_of user_members) (user_content u)) (record_clean f user_members (members_item user_members (user_content u)) e)

creation_user : (q : CreationRequest) (x : Option Pairs) → gravest (record_of creation_members) (creation_item q x) ≡ None → IsUser q.user.id
creation_user q x e =
    let each = creation_each faults.OverLimit q x e in
    let user = user_each faults.OverLimit q.user each.1.1.0 in
    within 1 64 faults.OverLimit q.user.id user.0

creation_hash : (q : CreationRequest) (x : Option Pairs) → gravest (record_of creation_members) (creation_item q x) ≡ None → length q.client_data_hash ≡ 32
creation_hash q x e =
    let each = creation_each faults.InvalidSize q x e in
    let h = within 32 32 faults.InvalidSize q.client_data_hash each.0 in
    let a = h.0 in let b = h.1 in omega arith

assertion_hash : (q : AssertionRequest) (x : Option Pairs) → gravest (record_of assertion_members) (assertion_item q x) ≡ None → length q.client_data_hash ≡ 32
assertion_hash q x e =
    let each = each_clean faults.InvalidSize assertion_members (assertion_item q x)
    (record_clean faults.InvalidSize assertion_members (members_item assertion_members (assertion_content q (option_map of.map x)))
    (clean_if_none (record_of assertion_members) (assertion_item q x) e faults.InvalidSize)) in
    let h = within 32 32 faults.InvalidSize q.client_data_hash each.1.0 in
    let a = h.0 in let b = h.1 in omega arith

creation_clean : (q : CreationRequest) (bs : List ℕ) (is : IsRequest (make_credential q) bs)
    → gravest (record_of creation_members) (creation_item q is.spelled.0) ≡ None
creation_clean q bs is =
    let s = is.spelled.1 in
    clean 1 s.0 (creation_item q is.spelled.0) refl s.2 (subst NoStatus s.1 is.clean)

assertion_clean : (q : AssertionRequest) (bs : List ℕ) (is : IsRequest (get_assertion q) bs)
    → gravest (record_of assertion_members) (assertion_item q is.spelled.0) ≡ None
assertion_clean q bs is =
    let s = is.spelled.1 in
    clean 2 s.0 (assertion_item q is.spelled.0) refl s.2 (subst NoStatus s.1 is.clean)

pub has_user : (q : RequestMessage) (bs : List ℕ) → IsRequest q bs → HasUser q
has_user (make_credential q) bs is = creation_user q is.spelled.0 (creation_clean q bs is)
has_user (get_assertion q) bs is = tt
has_user get_next_assertion bs is = tt
has_user get_info bs is = tt
has_user reset bs is = tt

pub creation_hashed : (q : CreationRequest) (bs : List ℕ) → IsRequest (make_credential q) bs → length q.client_data_hash ≡ 32
creation_hashed q bs is = creation_hash q is.spelled.0 (creation_clean q bs is)

pub assertion_hashed : (q : AssertionRequest) (bs : List ℕ) → IsRequest (get_assertion q) bs → length q.client_data_hash ≡ 32
assertion_hashed q bs is = assertion_hash q is.spelled.0 (assertion_clean q bs is)
