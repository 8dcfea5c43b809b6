-- Replies have bytes, and few enough of them.
use Rattle.std.proofs.Common.{◌≡◌, ◌+◌, ◌^◌, ◌<◌, ◌≤◌, ◌++◌, ℕ, List, ◌∷◌, Bool, true, false, Option, Some, None, length, refl, sym, ap, ◌∙◌, subst}
use Rattle.std.proofs.Common.{arith, rules, IsUtf8, nat_lt}
use Rattle.std.specs.Prelude.{codes, IfSome, if◌then◌else◌}
use Rattle.std.proofs.lemmas.List.{length-append}
use Rattle.ctap_replies.specs.Pieces.{HasSizes}
use Rattle.ctap_replies.proofs.AssertionBytes.{assertion_clean, assertion_fits}
use Rattle.ctap_replies.proofs.Texts.{plain}
use Rattle.ccbor.specs.Item as of
use Rattle.ccbor.specs.Item.{Item, Items, Pairs, no_items, item, no_pairs, pair}
use Rattle.ccbor.specs.Canon.{head, before, spelling, spelling_of_items, spelling_of_pairs, count_of_items, count_of_pairs, Fits}
use Rattle.cose.specs.Keys.{alg_item, signed_alg}
use Rattle.cose.specs.declared.key.SigningAlg.{SigningAlg}
use Rattle.cose.specs.declared.key.SigningAlg.TheVariants as algs
use Rattle.authdata.specs.Statements.{none_statement, packed_statement}
use Rattle.ctap_encoding.specs.Table.{gravest, record_of}
use Rattle.ctap_replies.specs.Replies.{Creation, Assertion, Info, ReplyMessage, ReplyOf, creation_reply, assertion_reply, info_reply}
use Rattle.ctap_replies.specs.Replies.{creation_reply_item, creation_reply_members, assertion_reply_item, info_item}
use Rattle.authenticator.specs.Private.{IsMessage, FitsReply, IsUser}
use Rattle.authenticator.specs.Steps.{info_of}

-- ---- at most this many bytes

abbrev mutual
  pub cost : Item → ℕ
  cost (of.uint n) = 9
  cost (of.nint n) = 9
  cost (of.bytes bs) = 9 + length bs
  cost (of.text bs) = 9 + length bs
  cost (of.array xs) = 9 + cost_of_items xs
  cost (of.map ps) = 9 + cost_of_pairs ps
  cost (of.boolean b) = 1

  pub cost_of_items : Items → ℕ
  cost_of_items no_items = 0
  cost_of_items (item x xs) = cost x + cost_of_items xs

  pub cost_of_pairs : Pairs → ℕ
  cost_of_pairs no_pairs = 0
  cost_of_pairs (pair k v ps) = cost k + (cost v + cost_of_pairs ps)

either_short : (b : Bool) (x y : List ℕ) → length x ≤ 9 → length y ≤ 9 → length (if b then x else y) ≤ 9
either_short true x y h g = h
either_short false x y h g = g

head_short : (m n : ℕ) → length (head m n) ≤ 9
unfolding head
head_short m n =
    either_short (nat_lt n 24) _ _ (omega arith) (either_short (nat_lt n (2 ^ 8)) _ _ (omega arith) (either_short (nat_lt n (2 ^ 16)) _ _ (omega arith)
    (either_short (nat_lt n (2 ^ 32)) _ _ (omega arith) (omega arith))))

mutual
  pub short : (x : Item) → length (spelling x) ≤ cost x
  short (of.uint n) = head_short 0 n
  short (of.nint n) = head_short 1 n
  short (of.bytes bs) = omega (arith, head_short 2 (length bs), length-append (head 2 (length bs)) bs)
  short (of.text bs) = omega (arith, head_short 3 (length bs), length-append (head 3 (length bs)) bs)
  short (of.array xs) = omega (arith, head_short 4 (count_of_items xs), short_items xs, length-append (head 4 (count_of_items xs)) (spelling_of_items xs))
  short (of.map ps) = omega (arith, head_short 5 (count_of_pairs ps), short_pairs ps, length-append (head 5 (count_of_pairs ps)) (spelling_of_pairs ps))
  short (of.boolean b) = omega arith

  short_items : (xs : Items) → length (spelling_of_items xs) ≤ cost_of_items xs
  short_items no_items = omega arith
  short_items (item x xs) = omega (arith, short x, short_items xs, length-append (spelling x) (spelling_of_items xs))

  short_pairs : (ps : Pairs) → length (spelling_of_pairs ps) ≤ cost_of_pairs ps
  short_pairs no_pairs = omega arith
  short_pairs (pair k v ps) =
      omega (
        arith,
        short k,
        short v,
        short_pairs ps,
        length-append (spelling k) (spelling v ++ spelling_of_pairs ps),
        length-append (spelling v) (spelling_of_pairs ps),
      )

-- a reply whose map fits
message : (r : ReplyMessage) (v : Item) → ReplyOf r (0 ∷ spelling v) → cost v ≤ 7608 → IsMessage r
message r v spelled le = record { bytes = 0 ∷ spelling v; spelled = spelled; size = omega (arith, short v) }

-- ---- makeCredential

creation_fits : (r : Creation) (ps : Pairs) → r.statement ≡ of.map ps → Fits 3 (of.map ps) → IsUtf8 r.fmt → length r.fmt ≤ 10 → length r.auth_data ≤ 164
    → Fits 4 (creation_reply_item r)
unfolding head before
creation_fits r ps e s u f a =
    (omega arith, (refl, refl, omega arith, (omega arith, u), (refl, refl, omega arith, omega arith, (refl, refl, omega arith, subst (Fits 3) (sym e) s, tt))))

creation_clean : (r : Creation) (ps : Pairs) → r.statement ≡ of.map ps → gravest (record_of creation_reply_members) (creation_reply_item r) ≡ None
creation_clean r ps e = rw e refl

creation_with : (r : Creation) (ps : Pairs) → r.statement ≡ of.map ps → Fits 3 (of.map ps) → IsUtf8 r.fmt → length r.fmt ≤ 10 → length r.auth_data ≤ 164
    → cost r.statement ≤ 1000 → IsMessage (creation_reply r)
creation_with r ps e s u f a le =
    message (creation_reply r) (creation_reply_item r) (spelling (creation_reply_item r), refl, (creation_fits r ps e s u f a, refl), creation_clean r ps e)
    (omega arith)

packed_fits : (alg : SigningAlg) (signature : List ℕ) → length signature ≤ 128 → Fits 3 (packed_statement (signed_alg alg) signature)
unfolding head before
packed_fits algs.Es256 signature le = search (rules, arith, le, plain)
packed_fits algs.EdDsa signature le = search (rules, arith, le, plain)

named : (fmt : List ℕ) (name : List ℕ) → fmt ≡ name → IsUtf8 name → IsUtf8 fmt
named fmt name e u = subst IsUtf8 (sym e) u

pub plain_message : (r : Creation) → r.fmt ≡ codes "none" → r.statement ≡ none_statement → length r.auth_data ≤ 164 → IsMessage (creation_reply r)
plain_message r f s a =
    creation_with r no_pairs s (omega arith, tt) (named r.fmt (codes "none") f (plain (codes "none") refl))
    (let l : length r.fmt ≡ 4 = ap length f in omega arith) a (let l : cost r.statement ≡ 9 = ap cost s in omega arith)

pub packed_message : (r : Creation) (alg : SigningAlg) (signature : List ℕ) → r.fmt ≡ codes "packed" → r.statement ≡ packed_statement (signed_alg alg) signature
    → length signature ≤ 128 → length r.auth_data ≤ 164
    → IsMessage (creation_reply r)
packed_message r alg signature f s le a =
    let l : cost r.statement ≡ 9 + (12 + (9 + (12 + (9 + length signature)))) = ap cost s ∙ omega arith in
    creation_with r (pair (of.text (codes "alg")) (alg_item (signed_alg alg)) (pair (of.text (codes "sig")) (of.bytes signature) no_pairs)) s
    (packed_fits alg signature le)
    (named r.fmt (codes "packed") f (plain (codes "packed") refl))
    (let m : length r.fmt ≡ 6 = ap length f in omega arith) a (omega arith)

-- ---- getAssertion and getNextAssertion

abbrev told : List ℕ → List ℕ → List ℕ → Option (List ℕ) → Option ℕ → Assertion
told id auth signature user number = record { credential = id; auth_data = auth; signature = signature; user = user; number = number }

told_short : (id auth signature : List ℕ) (user : Option (List ℕ)) (number : Option ℕ) → length id ≡ 32 → length auth ≡ 37 → length signature ≤ 128
    → IfSome user IsUser
    → cost (assertion_reply_item (told id auth signature user number)) ≤ 7608
told_short id auth signature None None i a s u = omega arith
told_short id auth signature None (Some k) i a s u = omega arith
told_short id auth signature (Some x) None i a s u = let le = u.1 in omega arith
told_short id auth signature (Some x) (Some k) i a s u = let le = u.1 in omega arith

pub assertion_message : (r : Assertion) → FitsReply r → IsMessage (assertion_reply r)
assertion_message r h =
    let i = h.credential in
    let a = h.auth_data in
    let s = h.signature in
    let number : IfSome r.number (λ n. (2 ≤ n) × (n < 2 ^ 64)) = h.number in
    let sizes : HasSizes r = ((omega arith, omega arith), h.user, search (rules, number)) in
    message (assertion_reply r) (assertion_reply_item r)
    (spelling (assertion_reply_item r), refl, (assertion_fits r sizes (omega arith) (omega arith) (search (rules, number)), refl), assertion_clean r sizes)
    (told_short r.credential r.auth_data r.signature r.user r.number h.credential h.auth_data h.signature h.user)

-- ---- getInfo

info_fits : (aaguid : List ℕ) (uv : Bool) → length aaguid ≡ 16 → Fits 4 (info_item (info_of aaguid uv))
unfolding head before
info_fits aaguid uv l = search (rules, arith, l, plain)

pub info_message : (r : Info) (aaguid : List ℕ) (uv : Bool) → r ≡ info_of aaguid uv → length aaguid ≡ 16 → IsMessage (info_reply r)
info_message r aaguid uv e l =
    rw e (message (info_reply (info_of aaguid uv)) (info_item (info_of aaguid uv))
    (spelling (info_item (info_of aaguid uv)), refl, (info_fits aaguid uv l, refl), rw l refl) (omega arith))
