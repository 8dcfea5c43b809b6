-- A reply to makeCredential that was read has an attestation object.
use Rattle.std.proofs.Common.{◌≡◌, ℕ, suc, zero, ◌<◌, List, [], ◌∷◌, refl, arith, IsTrue, IsUtf8, false}
use Rattle.std.specs.Prelude.{codes}
use Rattle.std.proofs.lemmas.Str.{IsUtf8-from_ascii}
use Rattle.std.specs.Str.{IsAscii}
use Rattle.std.specs.List.{AllByRecursion}
use Rattle.ccbor.specs.Item.{Item, uint, bytes, text, map, Pairs, no_pairs, pair}
use Rattle.ccbor.specs.Canon.{Fits, PairsFit, before, head, is_key, spelling}
use Rattle.ctap_encoding.specs.Table.{has_fault, record_of}
use Rattle.ctap_encoding.specs.declared.fault.Fault.TheVariants.{AnotherKind}
use Rattle.ctap_encoding.proofs.Tests.{clean_if_none}
use Rattle.ctap_replies.specs.Replies.{Creation, ReplyOf, creation_reply, creation_reply_item, creation_reply_members}
use Rattle.authdata.specs.Objects.{IsMap, ObjectOf, object_item}
use Rattle.client.specs.Responses.{object_of}

-- a pair's value, and the pairs after it
value_fits : (d : ℕ) (last : List ℕ) (k v : Item) (ps : Pairs) → PairsFit d last (pair k v ps) → Fits d v
value_fits d last k v ps h = h.3

rest_fits : (d : ℕ) (last : List ℕ) (k v : Item) (ps : Pairs) → PairsFit d last (pair k v ps) → PairsFit d (spelling k) ps
rest_fits d last k v ps h = h.4

pairs_fit : (d : ℕ) (last : List ℕ) (k v : Item) (ps : Pairs) → IsTrue (is_key k) → IsTrue (before last (spelling k)) → Fits d k → Fits d v
    → PairsFit d (spelling k) ps → PairsFit d last (pair k v ps)
pairs_fit d last k v ps key after fit value rest = (key, after, fit, value, rest)

-- the names of the object's members, in their order
ascii : (bs : List ℕ) → AllByRecursion (λ b. b < 128) bs → IsAscii bs
ascii [] h i = omega arith
ascii (b ∷ bs) h zero = h.0
ascii (b ∷ bs) h (suc i) = ascii bs h.1 i

fmt_text : IsUtf8 (codes "fmt")
fmt_text = IsUtf8-from_ascii (codes "fmt") (ascii (codes "fmt") (omega arith, (omega arith, (omega arith, tt))))

statement_text : IsUtf8 (codes "attStmt")
statement_text = IsUtf8-from_ascii (codes "attStmt")
    (ascii (codes "attStmt") (omega arith, (omega arith, (omega arith, (omega arith, (omega arith, (omega arith, (omega arith, tt))))))))

data_text : IsUtf8 (codes "authData")
data_text = IsUtf8-from_ascii (codes "authData")
    (ascii (codes "authData") (omega arith, (omega arith, (omega arith, (omega arith, (omega arith, (omega arith, (omega arith, (omega arith, tt)))))))))

fmt_before : IsTrue (before [] (spelling (text (codes "fmt"))))
unfolding before head
fmt_before = refl

statement_before : IsTrue (before (spelling (text (codes "fmt"))) (spelling (text (codes "attStmt"))))
unfolding before head
statement_before = refl

data_before : IsTrue (before (spelling (text (codes "attStmt"))) (spelling (text (codes "authData"))))
unfolding before head
data_before = refl

members_fit : (fmt auth_data : List ℕ) (statement : Item) → Fits 3 (text fmt) → Fits 3 statement → Fits 3 (bytes auth_data)
    → PairsFit 3 [] (pair (text (codes "fmt")) (text fmt) (pair (text (codes "attStmt")) statement (pair (text (codes "authData")) (bytes auth_data) no_pairs)))
members_fit fmt auth_data statement f s a =
    pairs_fit 3 [] (text (codes "fmt")) (text fmt)
    (pair (text (codes "attStmt")) statement (pair (text (codes "authData")) (bytes auth_data) no_pairs)) refl fmt_before
    (omega arith, fmt_text) f
    (pairs_fit 3 (spelling (text (codes "fmt"))) (text (codes "attStmt")) statement
    (pair (text (codes "authData")) (bytes auth_data) no_pairs) refl statement_before
    (omega arith, statement_text) s
    (pairs_fit 3 (spelling (text (codes "attStmt"))) (text (codes "authData")) (bytes auth_data) no_pairs refl data_before
    (omega arith, data_text) a tt))

-- the statement is a map
statement_map : (fmt auth_data : List ℕ) (v : Item)
    → has_fault AnotherKind (record_of creation_reply_members) (creation_reply_item (record { fmt = fmt; auth_data = auth_data; statement = v })) ≡ false
    → IsMap v
statement_map fmt auth_data (map ps) e = (ps, refl)
statement_map fmt auth_data _ e = absurd (cc)

pub has_object : (r : Creation) (m : List ℕ) → ReplyOf (creation_reply r) m → ObjectOf (object_of r) (spelling (object_item (object_of r)))
has_object r m h =
    let pairs : PairsFit 3 [] (pair (uint 1) (text r.fmt) (pair (uint 2) (bytes r.auth_data) (pair (uint 3) r.statement no_pairs))) = h.2.0.1 in
    let behind = rest_fits 3 [] (uint 1) (text r.fmt) (pair (uint 2) (bytes r.auth_data) (pair (uint 3) r.statement no_pairs)) pairs in
    let last = rest_fits 3 (spelling (uint 1)) (uint 2) (bytes r.auth_data) (pair (uint 3) r.statement no_pairs) behind in (
      statement_map r.fmt r.auth_data r.statement (clean_if_none (record_of creation_reply_members) (creation_reply_item r) h.3 AnotherKind),
      (
        (
          omega arith,
          members_fit r.fmt r.auth_data r.statement
              (value_fits 3 [] (uint 1) (text r.fmt) (pair (uint 2) (bytes r.auth_data) (pair (uint 3) r.statement no_pairs)) pairs)
              (value_fits 3 (spelling (uint 2)) (uint 3) r.statement no_pairs last)
              (value_fits 3 (spelling (uint 1)) (uint 2) (bytes r.auth_data) (pair (uint 3) r.statement no_pairs) behind),
        ),
        refl,
      ),
    )
