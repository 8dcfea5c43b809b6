-- A table has an encoding.
use Rattle.std.proofs.Common.{◌≡◌, ◌<◌, ◌≤◌, ◌^◌, ℕ, suc, List, [], ◌∷◌, length, Bool, true, false, Option, Some, None, option_map, IsUtf8, refl, ap, arith}
use Rattle.std.proofs.Common.{map as each}
use Rattle.refusal_order.specs.Lines.{Each}
use Rattle.ccbor.specs.Item.{Item, Pairs, uint, bytes, map, boolean, no_pairs, pair}
use Rattle.ccbor.specs.Canon.{head, before, count_of_items, count_of_pairs, spelling, Fits, ItemsFit, PairsFit}
use Rattle.ccbor.specs.View.{items_of}
use Rattle.ctap_encoding.specs.Content.{optional}
use Rattle.cose.specs.Keys.{item_of as key_item}
use Rattle.cose.proofs.KeyLemmas.{key_fits}
use Rattle.authdata.specs.declared.profile.Profile.TheVariants.{Open}
use Rattle.verification.specs.Records.{Credential}
use Rattle.site_state.specs.Table.{IsRow, AreRows, IsTable}
use Rattle.site.specs.Saved.{Saved, FitsVersion, credential_item, table_item, true_if}

-- the members that not every row has, after the counter
abbrev marks : Option Bool → Bool → Pairs
marks eligible retired = optional (uint 5) (option_map boolean eligible) (optional (uint 6) (true_if retired) no_pairs)

marks_fit : (eligible : Option Bool) (retired : Bool) → PairsFit 1 (spelling (uint 4)) (marks eligible retired)
unfolding head before
marks_fit (Some e) true = (refl, refl, omega arith, tt, (refl, refl, omega arith, tt, tt))
marks_fit (Some e) false = (refl, refl, omega arith, tt, tt)
marks_fit None true = (refl, refl, omega arith, tt, tt)
marks_fit None false = tt

few_marks : (eligible : Option Bool) (retired : Bool) → count_of_pairs (marks eligible retired) ≤ 2
few_marks (Some e) true = omega arith
few_marks (Some e) false = omega arith
few_marks None true = omega arith
few_marks None false = omega arith

members_fit : (id user : List ℕ) (k : Item) (n : ℕ) (ps : Pairs) → length id ≤ 1023 → length user ≤ 64 → Fits 1 k → n < 2 ^ 32
    → PairsFit 1 (spelling (uint 4)) ps → count_of_pairs ps ≤ 2
    → Fits 2 (map (pair (uint 1) (bytes id) (pair (uint 2) (bytes user) (pair (uint 3) k (pair (uint 4) (uint n) ps)))))
unfolding head before
members_fit id user k n ps a b c d h few = (
  omega (arith, few),
  (refl, refl, omega arith, omega arith, (refl, refl, omega arith, omega arith, (refl, refl, omega arith, c, (refl, refl, omega arith, omega arith, h)))),
)

credential_fits : (version : ℕ) (c : Credential) → IsRow Open c → FitsVersion version c → Fits 2 (credential_item c)
credential_fits version c is fits =
    members_fit c.id c.user (key_item c.key) c.sign_count (marks c.eligible c.retired) is.0.1 is.1.1 (key_fits c.key fits.key) fits.sign_count
    (marks_fit c.eligible c.retired)
    (few_marks c.eligible c.retired)

credentials_fit : (version : ℕ) (rows : List Credential) → AreRows Open rows → Each (FitsVersion version) rows
    → ItemsFit 2 (items_of (each credential_item rows))
credentials_fit version [] are fit = tt
credentials_fit version (c ∷ rows) are fit = (credential_fits version c are.0 fit.0, credentials_fit version rows are.2 fit.1)

count : (rows : List Credential) → count_of_items (items_of (each credential_item rows)) ≡ length rows
count [] = refl
count (c ∷ rows) = ap suc (count rows)

pub table_fits : (version : ℕ) (saved : Saved) → version < 2 ^ 64 → saved.next < 2 ^ 64 → length saved.rp_id < 2 ^ 64 → IsUtf8 saved.rp_id
    → IsTable Open saved.rows
    → Each (FitsVersion version) saved.rows → Fits 4 (table_item version saved)
unfolding head before
table_fits version saved small numbered short utf8 table fit =
    let most = table.0 in
    let len = count saved.rows in (
      omega arith,
      (
        refl,
        refl,
        omega arith,
        small,
        (
          refl,
          refl,
          omega arith,
          (short, utf8),
          (refl, refl, omega arith, numbered, (refl, refl, omega arith, (omega arith, credentials_fit version saved.rows table.1 fit), tt)),
        ),
      ),
    )
