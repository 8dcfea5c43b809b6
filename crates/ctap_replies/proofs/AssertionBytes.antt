-- Which assertions have a reply, and which bytes it has.
use Rattle.std.proofs.Common.{◌≡◌, ◌<◌, ◌≤◌, ◌^◌, ◌++◌, ℕ, List, [], ◌∷◌, true, Option, Some, None, length, refl, sym, ◌∙◌, arith, rules}
use Rattle.std.specs.Prelude.{codes, nat_le, IfSome}
use Rattle.std.proofs.lemmas.List.{append_assoc, append-nil}
use Rattle.ccbor.specs.Item.{Item}
use Rattle.ccbor.specs.Canon.{head, before, spelling, Fits}
use Rattle.ctap_encoding.specs.Table.{record_of, gravest}
use Rattle.ctap_encoding.specs.Content.{item_of}
use Rattle.ctap_encoding.specs.declared.fault.Fault.TheVariants as faults
use Rattle.ctap_encoding.proofs.Tests.{clean_if_none}
use Rattle.ctap_replies.specs.Pieces.{HasSizes, IsIdSize, member_count, number_bytes, required_bytes, user_bytes}
use Rattle.ctap_replies.specs.Replies.{Assertion, credential_members, credential_content, reply_user_members, reply_user_content}
use Rattle.ctap_replies.specs.Replies.{assertion_reply_members, assertion_reply_item, next_reply_members, MapReply}
use Rattle.ctap_replies.proofs.Laws.{numbered_fault}
use Rattle.ctap_replies.proofs.Texts.{plain}

-- ---- the bytes

abbrev told : List ℕ → List ℕ → List ℕ → Option (List ℕ) → Option ℕ → Assertion
told id auth signature user number = record { credential = id; auth_data = auth; signature = signature; user = user; number = number }

abbrev joined : Assertion → List ℕ
joined q = head 5 (member_count q) ++ (required_bytes q ++ (user_bytes q.user ++ number_bytes q.number))

told_joined : (id auth signature : List ℕ) (user : Option (List ℕ)) (number : Option ℕ)
    → joined (told id auth signature user number) ≡ spelling (assertion_reply_item (told id auth signature user number))
told_joined id auth signature None None = simp (append_assoc, append-nil)
told_joined id auth signature None (Some k) = simp (append_assoc, append-nil)
told_joined id auth signature (Some x) None = simp (append_assoc, append-nil)
told_joined id auth signature (Some x) (Some k) = simp (append_assoc, append-nil)

-- the reply, written in steps
pub written : (q : Assertion) (count : ℕ) (old status map required user number : List ℕ) → count ≡ member_count q
    → status ≡ old ++ 0 ∷ [] → map ≡ status ++ head 5 count → required ≡ map ++ required_bytes q
    → user ≡ required ++ user_bytes q.user → number ≡ user ++ number_bytes q.number
    → number ≡ old ++ 0 ∷ spelling (assertion_reply_item q)
written q count old status map required user number c s m r u n =
    rw (n, u, r, m, s, c) (
    rw (← told_joined q.credential q.auth_data q.signature q.user q.number) (simp (append_assoc))
    )

-- ---- the value has an encoding

abbrev credential_item : List ℕ → Item
credential_item id = item_of (record_of credential_members) (credential_content id)

abbrev reply_user_item : List ℕ → Item
reply_user_item id = item_of (record_of reply_user_members) (reply_user_content id)

credential_fits : (id : List ℕ) → IsIdSize id → Fits 3 (credential_item id)
unfolding head before
credential_fits id h =
    let g = h.1 in (
      omega arith,
      (
        refl,
        refl,
        (omega arith, plain (codes "id") refl),
        omega arith,
        (refl, refl, (omega arith, plain (codes "type") refl), (omega arith, plain (codes "public-key") refl), tt),
      ),
    )

user_fits : (u : List ℕ) → IsIdSize u → Fits 3 (reply_user_item u)
unfolding head before
user_fits u h = let g = h.1 in (omega arith, (refl, refl, (omega arith, plain (codes "id") refl), omega arith, tt))

abbrev IsShort : ℕ → Type 0
IsShort n = n < 2 ^ 64

told_fits : (id auth signature : List ℕ) (user : Option (List ℕ)) (number : Option ℕ) → IsIdSize id → IsShort (length auth) → IsShort (length signature)
    → IfSome user IsIdSize → IfSome number IsShort
    → Fits 4 (assertion_reply_item (told id auth signature user number))
unfolding head before
told_fits id auth signature None None i a s u n =
    (omega arith, (refl, refl, omega arith, credential_fits id i, (refl, refl, omega arith, a, (refl, refl, omega arith, s, tt))))
told_fits id auth signature (Some x) None i a s u n = (
  omega arith,
  (
    refl,
    refl,
    omega arith,
    credential_fits id i,
    (refl, refl, omega arith, a, (refl, refl, omega arith, s, (refl, refl, omega arith, user_fits x u, tt))),
  ),
)
told_fits id auth signature None (Some k) i a s u n =
    (omega arith, (refl, refl, omega arith, credential_fits id i, (refl, refl, omega arith, a, (refl, refl, omega arith, s, (refl, refl, omega arith, n, tt)))))
told_fits id auth signature (Some x) (Some k) i a s u n = (
  omega arith,
  (
    refl,
    refl,
    omega arith,
    credential_fits id i,
    (refl, refl, omega arith, a, (refl, refl, omega arith, s, (refl, refl, omega arith, user_fits x u, (refl, refl, omega arith, n, tt)))),
  ),
)

pub assertion_fits : (q : Assertion) → HasSizes q → IsShort (length q.auth_data) → IsShort (length q.signature) → IfSome q.number IsShort
    → Fits 4 (assertion_reply_item q)
assertion_fits q h a s n = told_fits q.credential q.auth_data q.signature q.user q.number h.0 a s h.1 n

-- ---- the value has no fault where the sizes are within their limits

le_true : (a b : ℕ) → a ≤ b → nat_le a b ≡ true
le_true a b h = search (rules, h)

told_clean : (id auth signature : List ℕ) (user : Option (List ℕ)) (number : Option ℕ) → HasSizes (told id auth signature user number)
    → gravest (record_of assertion_reply_members) (assertion_reply_item (told id auth signature user number)) ≡ None
told_clean id auth signature None None h = rw (le_true 1 (length id) h.0.0, le_true (length id) 64 h.0.1) refl
told_clean id auth signature (Some x) None h =
    rw (le_true 1 (length id) h.0.0, le_true (length id) 64 h.0.1, le_true 1 (length x) h.1.0, le_true (length x) 64 h.1.1) refl
told_clean id auth signature None (Some k) h =
    rw (le_true 1 (length id) h.0.0, le_true (length id) 64 h.0.1, le_true 2 k h.2) refl
told_clean id auth signature (Some x) (Some k) h =
    rw (le_true 1 (length id) h.0.0, le_true (length id) 64 h.0.1, le_true 1 (length x) h.1.0, le_true (length x) 64 h.1.1, le_true 2 k h.2) refl

pub assertion_clean : (q : Assertion) → HasSizes q → gravest (record_of assertion_reply_members) (assertion_reply_item q) ≡ None
assertion_clean q h = told_clean q.credential q.auth_data q.signature q.user q.number h

told_next : (id auth signature : List ℕ) (user : Option (List ℕ)) (number : Option ℕ) → number ≡ None → HasSizes (told id auth signature user number)
    → gravest (record_of next_reply_members) (assertion_reply_item (told id auth signature user number)) ≡ None
told_next id auth signature None None e h = rw (le_true 1 (length id) h.0.0, le_true (length id) 64 h.0.1) refl
told_next id auth signature (Some x) None e h =
    rw (le_true 1 (length id) h.0.0, le_true (length id) 64 h.0.1, le_true 1 (length x) h.1.0, le_true (length x) 64 h.1.1) refl
told_next id auth signature user (Some k) e h = absurd cc

pub next_clean : (q : Assertion) → q.number ≡ None → HasSizes q → gravest (record_of next_reply_members) (assertion_reply_item q) ≡ None
next_clean q e h = told_next q.credential q.auth_data q.signature q.user q.number e h

-- a number is a fault of a reply to getNextAssertion
pub next_unnumbered : (q : Assertion) (n : ℕ) (bs : List ℕ) → q.number ≡ Some n → MapReply next_reply_members (assertion_reply_item q) bs → ⊥
next_unnumbered q n bs e h =
    let fault = numbered_fault q n e in
    let clean = clean_if_none (record_of next_reply_members) (assertion_reply_item q) h.3 faults.UnlistedKey in
    let both = sym fault ∙ clean in
    absurd cc
