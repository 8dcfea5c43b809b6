-- A reply to getAssertion as it mostly comes.
use Rattle.std.proofs.Common.{◌≡◌, ◌<◌, ◌^◌, ◌++◌, ◌==◌, ℕ, List, [], ◌∷◌, true, Some, None, length, refl, sym, ◌∙◌, ap, subst, codes}
use Rattle.std.proofs.lemmas.Bool.{eqb-true}
use Rattle.std.proofs.lemmas.List.{append_assoc, append-nil, nil_from_length}
use Rattle.ccbor.specs.Item as of
use Rattle.ccbor.specs.Canon.{head, spelling}
use Rattle.ctap_encoding.specs.Content.{item_of}
use Rattle.ctap_encoding.specs.Table.{record_of}
use Rattle.ctap_replies.specs.Pieces.{HasFront, HasSizes, IsIdSize, member_count, number_bytes, required_bytes, user_bytes}
use Rattle.ctap_replies.specs.Replies.{Assertion, ReplyOf, assertion_reply, assertion_reply_item, credential_content, credential_members}
use Rattle.ctap_replies.proofs.AssertionBytes.{assertion_clean, assertion_fits, written}

pub nothing_left : (rest : List ℕ) → (length rest == 0) ≡ true → rest ≡ []
nothing_left rest e = nil_from_length rest (eqb-true (length rest) 0 e)

-- ---- pieces

abbrev credential_front : List ℕ
credential_front = 0xa2 ∷ codes "bid"

abbrev credential_end : List ℕ
credential_end = codes "dtypejpublic-key"

pub credential_spelled : (id bs a b rest : List ℕ) → bs ≡ credential_front ++ a → a ≡ spelling (of.bytes id) ++ b → b ≡ credential_end ++ rest
    → bs ≡ spelling (item_of (record_of credential_members) (credential_content id)) ++ rest
unfolding head
credential_spelled id bs a b rest x y z =
    x ∙ ap (λ l. credential_front ++ l) (y ∙ ap (λ l. spelling (of.bytes id) ++ l) z ∙ sym (append_assoc (spelling (of.bytes id)) credential_end rest))

pub required_spelled : (q : Assertion) (bs a b c d e rest : List ℕ) → bs ≡ 1 ∷ a
    → a ≡ spelling (item_of (record_of credential_members) (credential_content q.credential)) ++ b → b ≡ 2 ∷ c
    → c ≡ spelling (of.bytes q.auth_data) ++ d → d ≡ 3 ∷ e → e ≡ spelling (of.bytes q.signature) ++ rest
    → bs ≡ required_bytes q ++ rest
unfolding head
required_spelled q bs a b c d e rest is_a is_b is_c is_d is_e is_rest =
    let credential = spelling (item_of (record_of credential_members) (credential_content q.credential)) in
    let auth_data = spelling (of.bytes q.auth_data) in
    let signature = spelling (of.bytes q.signature) in
    let last : d ≡ (3 ∷ signature) ++ rest = is_e ∙ ap (λ l. 3 ∷ l) is_rest in
    let second : b ≡ (2 ∷ (auth_data ++ (3 ∷ signature))) ++ rest =
    is_c ∙ ap (λ l. 2 ∷ l) (is_d ∙ ap (λ l. auth_data ++ l) last ∙ sym (append_assoc auth_data (3 ∷ signature) rest)) in
    is_a ∙ ap (λ l. 1 ∷ l) (is_b ∙ ap (λ l. credential ++ l) second ∙ sym (append_assoc credential (2 ∷ (auth_data ++ (3 ∷ signature))) rest))

-- ---- the reply

is_reply : (q : Assertion) (bs : List ℕ) → HasSizes q → length q.auth_data < 2 ^ 64 → length q.signature < 2 ^ 64 → q.number ≡ None
    → bs ≡ 0 ∷ spelling (assertion_reply_item q) → ReplyOf (assertion_reply q) bs
is_reply q bs sizes auth_data signature none is =
    (spelling (assertion_reply_item q), is, (assertion_fits q sizes auth_data signature (rw none tt), refl), assertion_clean q sizes)

pub without_user : (q : Assertion) (bs rest : List ℕ) → HasFront q bs rest → rest ≡ [] → ReplyOf (assertion_reply q) (0 ∷ 0xa3 ∷ bs)
unfolding head
without_user q bs rest f end =
    let sizes : HasSizes q = (f.id, rw f.user tt, rw f.number tt) in
    let count : 3 ≡ member_count q = rw (f.user, f.number) refl in
    let all : bs ≡ required_bytes q = f.spelled ∙ ap (λ l. required_bytes q ++ l) end ∙ append-nil (required_bytes q) in
    let whole = 0 ∷ 0xa3 ∷ required_bytes q in
    let no_user : whole ≡ whole ++ user_bytes q.user = rw f.user (sym (append-nil whole)) in
    let no_number : whole ≡ whole ++ number_bytes q.number = rw f.number (sym (append-nil whole)) in
    is_reply q (0 ∷ 0xa3 ∷ bs) sizes f.auth_data f.signature f.number
    (ap (λ l. 0 ∷ 0xa3 ∷ l) all ∙ written q 3 [] (0 ∷ []) (0 ∷ 0xa3 ∷ []) whole whole whole count refl refl refl no_user no_number)

pub with_user : (q r : Assertion) (user bs rest a end : List ℕ) → HasFront q bs rest → r ≡ record q { user = Some user } → IsIdSize user
    → rest ≡ (4 ∷ 0xa1 ∷ codes "bid") ++ a → a ≡ spelling (of.bytes user) ++ end → end ≡ [] → ReplyOf (assertion_reply r) (0 ∷ 0xa4 ∷ bs)
unfolding head
with_user q r user bs rest a end f same size x y z =
    let p : Assertion = record q { user = Some user } in
    let sizes : HasSizes p = (f.id, size, rw f.number tt) in
    let count : 4 ≡ member_count p = rw f.number refl in
    let last : rest ≡ user_bytes (Some user) = x ∙ ap (λ l. (4 ∷ 0xa1 ∷ codes "bid") ++ l) (y ∙ ap (λ l. spelling (of.bytes user) ++ l) z) in
    let required = 0 ∷ 0xa4 ∷ required_bytes q in
    let whole = required ++ user_bytes (Some user) in
    let no_number : whole ≡ whole ++ number_bytes p.number = rw f.number (sym (append-nil whole)) in
    let all : 0 ∷ 0xa4 ∷ bs ≡ whole = ap (λ l. 0 ∷ 0xa4 ∷ l) (f.spelled ∙ ap (λ l. required_bytes q ++ l) last) in
    subst (λ (s : Assertion). ReplyOf (assertion_reply s) (0 ∷ 0xa4 ∷ bs)) (sym same)
    (is_reply p (0 ∷ 0xa4 ∷ bs) sizes f.auth_data f.signature f.number (all
    ∙ written p 4 [] (0 ∷ []) (0 ∷ 0xa4 ∷ []) required whole whole count refl refl refl refl no_number))
