-- A credential and its map.
use Rattle.std.proofs.Common.{◌≡◌, ◌≢◌, ◌<◌, ◌^◌, ℕ, List, Bool, true, false, Option, Some, None, option_map, is_some, nat_le, refl, sym, ap, ◌∙◌, arith}
use Rattle.std.proofs.lemmas.Option.{same_Some}
use Rattle.std.proofs.lemmas.Bool.Decides.{nat_tests}
use Rattle.ccbor.specs.Item.{Item, uint, bytes, map, boolean, no_pairs, pair}
use Rattle.ccbor.specs.Canon.{head, before}
use Rattle.ctap_encoding.specs.Table.{record_of}
use Rattle.ctap_encoding.specs.Content.{Contents, optional}
use Rattle.ctap_encoding.specs.Content.{item_of as value_of}
use Rattle.ctap_encoding.specs.Reading.{read_in}
use Rattle.ctap_encoding.proofs.Ordered.{IsOrdered}
use Rattle.ctap_encoding.proofs.Laws.{read_is}
use Rattle.cose.specs.declared.key.CoseKey.{CoseKey}
use Rattle.cose.specs.declared.key.CoseKey.TheVariants as keys
use Rattle.cose.specs.Keys.{IsKey, KeyOf, item_of as key_item}
use Rattle.cose.proofs.KeyLemmas.{one_key}
use Rattle.verification.specs.Records.{Credential}
use Rattle.site.specs.Saved.{FitsVersion, credential_item, needs_version_4, true_if}
use Rattle.site.specs.Private.{AreMarks, credential_members}

-- ---- the content of its map

abbrev pub mark_of : Bool → Option Bool
mark_of true = Some true
mark_of false = None

abbrev pub content_of : Credential → Contents credential_members
content_of c = (c.id, (c.user, (key_item c.key, (c.sign_count, (c.eligible, (mark_of c.retired, tt))))))

abbrev Read : List ℕ → List ℕ → CoseKey → ℕ → Option Bool → Bool → Type 0
Read id user key n eligible retired =
    read_in (record_of credential_members) (map (pair (uint 1) (bytes id) (pair (uint 2) (bytes user) (pair (uint 3) (key_item key) (pair (uint 4) (uint n)
    (optional (uint 5) (option_map boolean eligible) (optional (uint 6) (true_if retired) no_pairs)))))))
    ≡ Some (id, (user, (key_item key, (n, (eligible, (mark_of retired, tt))))))

at_least_zero : (n : ℕ) → nat_le 0 n ≡ true
at_least_zero n = grind (arith, nat_tests)

reads : (id user : List ℕ) (key : CoseKey) (n : ℕ) (eligible : Option Bool) (retired : Bool) → Read id user key n eligible retired
reads id user (keys.Es256 x y) n (Some b) true = rw (at_least_zero n) refl
reads id user (keys.Es256 x y) n (Some b) false = rw (at_least_zero n) refl
reads id user (keys.Es256 x y) n None true = rw (at_least_zero n) refl
reads id user (keys.Es256 x y) n None false = rw (at_least_zero n) refl
reads id user (keys.EdDsa x) n (Some b) true = rw (at_least_zero n) refl
reads id user (keys.EdDsa x) n (Some b) false = rw (at_least_zero n) refl
reads id user (keys.EdDsa x) n None true = rw (at_least_zero n) refl
reads id user (keys.EdDsa x) n None false = rw (at_least_zero n) refl
reads id user (keys.Rs256 k) n (Some b) true = rw (at_least_zero n) refl
reads id user (keys.Rs256 k) n (Some b) false = rw (at_least_zero n) refl
reads id user (keys.Rs256 k) n None true = rw (at_least_zero n) refl
reads id user (keys.Rs256 k) n None false = rw (at_least_zero n) refl

-- a credential's map is read
pub credential_read : (c : Credential) → read_in (record_of credential_members) (credential_item c) ≡ Some (content_of c)
credential_read c = reads c.id c.user c.key c.sign_count c.eligible c.retired

-- ---- and no other credential's

ordered : IsOrdered (record_of credential_members)
unfolding before head
ordered = (refl, tt, (refl, tt, (refl, tt, (refl, tt, (refl, tt, (refl, tt, tt))))))

-- what is read is the map of its members
pub members_are : (x : Item) (m : Contents credential_members) → read_in (record_of credential_members) x ≡ Some m
    → x ≡ value_of (record_of credential_members) m
members_are x m e = read_is (record_of credential_members) ordered x m e

same_marks : (r s : Bool) → mark_of r ≡ mark_of s → r ≡ s
same_marks true true e = refl
same_marks false false e = refl
same_marks true false e = absurd cc
same_marks false true e = absurd cc

abbrev pub credential_from : List ℕ → List ℕ → CoseKey → ℕ → Option Bool → Bool → Credential
credential_from id user key n eligible retired = record { id = id; user = user; key = key; sign_count = n; eligible = eligible; retired = retired }

-- credentials of one map are one
pub one_credential : (c d : Credential) → IsKey c.key → IsKey d.key → credential_item c ≡ credential_item d → c ≡ d
one_credential c d h g e =
    let same : content_of c ≡ content_of d =
    same_Some (content_of c) (content_of d) (sym (credential_read c) ∙ ap (read_in (record_of credential_members)) e ∙ credential_read d) in
    let ids : c.id ≡ d.id = ap (λ (m : Contents credential_members). m.0) same in
    let users : c.user ≡ d.user = ap (λ (m : Contents credential_members). m.1.0) same in
    let items : key_item c.key ≡ key_item d.key = ap (λ (m : Contents credential_members). m.1.1.0) same in
    let counts : c.sign_count ≡ d.sign_count = ap (λ (m : Contents credential_members). m.1.1.1.0) same in
    let eligibles : c.eligible ≡ d.eligible = ap (λ (m : Contents credential_members). m.1.1.1.1.0) same in
    let marks : mark_of c.retired ≡ mark_of d.retired = ap (λ (m : Contents credential_members). m.1.1.1.1.1.0) same in
    let keys_same : c.key ≡ d.key = one_key c.key d.key (key_item c.key) (h, refl) (g, items) in
    ap (λ (x : List ℕ). credential_from x c.user c.key c.sign_count c.eligible c.retired) ids
    ∙ ap (λ (x : List ℕ). credential_from d.id x c.key c.sign_count c.eligible c.retired) users
    ∙ ap (λ (x : CoseKey). credential_from d.id d.user x c.sign_count c.eligible c.retired) keys_same
    ∙ ap (λ (x : ℕ). credential_from d.id d.user d.key x c.eligible c.retired) counts
    ∙ ap (λ (x : Option Bool). credential_from d.id d.user d.key d.sign_count x c.retired) eligibles
    ∙ ap (λ (x : Bool). credential_from d.id d.user d.key d.sign_count d.eligible x) (same_marks c.retired d.retired marks)

-- ---- from what is read

made : (id user : List ℕ) (k : Item) (n : ℕ) (eligible : Option Bool) (r : Bool)
    → value_of (record_of credential_members) (id, (user, (k, (n, (eligible, (mark_of r, tt))))))
    ≡ map (pair (uint 1) (bytes id)
    (pair (uint 2) (bytes user) (pair (uint 3) k
    (pair (uint 4) (uint n) (optional (uint 5) (option_map boolean eligible) (optional (uint 6) (true_if r) no_pairs))))))
made id user k n (Some b) true = refl
made id user k n (Some b) false = refl
made id user k n None true = refl
made id user k n None false = refl

mark_is : (mark : Option Bool) (r : Bool) → mark ≢ Some false → r ≡ is_some mark → mark ≡ mark_of r
mark_is (Some true) r some e = ap mark_of (sym e)
mark_is (Some false) r some e = absurd (some refl)
mark_is None r some e = ap mark_of (sym e)

not_retired : (mark : Option Bool) (r : Bool) → r ≡ is_some mark → mark ≡ None → r ≡ false
not_retired mark r e none = e ∙ ap is_some none

module _ (version : ℕ) (x k : Item) (id user : List ℕ) (n : ℕ) (eligible retired : Option Bool)
    (read : read_in (record_of credential_members) x ≡ Some (id, (user, (k, (n, (eligible, (retired, tt))))))) where
  -- what was read is the credential's that has it
  pub credential_found : (i u : List ℕ) (key : CoseKey) (count : ℕ) (r : Bool) → i ≡ id → u ≡ user → KeyOf key k → count ≡ n → count < 2 ^ 32
      → AreMarks version eligible retired
      → (version < 4 → needs_version_4 id key ≡ false)
      → r ≡ is_some retired → FitsVersion version (credential_from i u key count eligible r) × (x ≡ credential_item (credential_from i u key count eligible r))
  credential_found i u key count r ids users is counts small marks early e =
      let mark = mark_is retired r marks.0 e in
      let item : key_item key ≡ k = sym is.1 in (
        record {
          key = is.0;
          sign_count = small;
          eligible = marks.1;
          retired = λ lt. not_retired retired r e (marks.2 lt);
          early = λ lt. ap (λ (b : List ℕ). needs_version_4 b key) ids ∙ early lt;
        },
        members_are x (id, (user, (k, (n, (eligible, (retired, tt)))))) read ∙ rw (mark, ids, users, item, counts) (made id user k n eligible r),
      )

  -- a credential that has the map has what was read of it
  pub same_content : (c : Credential) → x ≡ credential_item c
      → ◌≡◌ {A = Contents credential_members} (id, (user, (k, (n, (eligible, (retired, tt)))))) (content_of c)
  same_content c is = same_Some (id, (user, (k, (n, (eligible, (retired, tt)))))) (content_of c) (sym read ∙ ap (read_in (record_of credential_members)) is
      ∙ credential_read c)

  pub no_key : ((l : CoseKey) → KeyOf l k → ⊥) → (c : Credential) → FitsVersion version c → x ≡ credential_item c → ⊥
  no_key none c fits is = none c.key (fits.key, ap (λ (m : Contents credential_members). m.1.1.0) (same_content c is))

  pub not_early : (key : CoseKey) → KeyOf key k → ((version < 4 → needs_version_4 id key ≡ false) → ⊥) → (c : Credential) → FitsVersion version c
      → x ≡ credential_item c → ⊥
  not_early key of none c fits is =
      let ids : id ≡ c.id = ap (λ (m : Contents credential_members). m.0) (same_content c is) in
      let items : k ≡ key_item c.key = ap (λ (m : Contents credential_members). m.1.1.0) (same_content c is) in
      let same : key ≡ c.key = one_key key c.key k of (fits.key, items) in
      none (λ lt. ap (λ (b : List ℕ). needs_version_4 b key) ids ∙ ap (λ (l : CoseKey). needs_version_4 c.id l) same ∙ fits.early lt)

  pub no_counter : (n < 2 ^ 32 → ⊥) → (c : Credential) → FitsVersion version c → x ≡ credential_item c → ⊥
  no_counter none c fits is =
      let same : n ≡ c.sign_count = ap (λ (m : Contents credential_members). m.1.1.1.0) (same_content c is) in
      let small = fits.sign_count in
      none (omega arith)

  marks_fit : (r : Bool) → (version < 3 → r ≡ false) → version < 3 → mark_of r ≡ None
  marks_fit true h lt = let e = h lt in absurd cc
  marks_fit false h lt = refl

  never_false : (r : Bool) → mark_of r ≡ Some false → ⊥
  never_false true e = absurd cc
  never_false false e = absurd cc

  pub no_marks : (AreMarks version eligible retired → ⊥) → (c : Credential) → FitsVersion version c → x ≡ credential_item c → ⊥
  no_marks none c fits is =
      let known : eligible ≡ c.eligible = ap (λ (m : Contents credential_members). m.1.1.1.1.0) (same_content c is) in
      let mark : retired ≡ mark_of c.retired = ap (λ (m : Contents credential_members). m.1.1.1.1.1.0) (same_content c is) in
      none (λ e. never_false c.retired (sym mark ∙ e), λ lt. known ∙ fits.eligible lt, λ lt. mark ∙ marks_fit c.retired fits.retired lt)
