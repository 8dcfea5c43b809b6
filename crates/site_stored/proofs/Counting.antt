-- What an open counts.
use Rattle.std.proofs.Common.{◌≡◌, ◌≤◌, ℕ, suc, pos, filter, List, [], ◌∷◌, Bool, true, false, cond, length, map, refl, sym, ap, ◌∙◌, subst, arith}
use Rattle.std.proofs.lemmas.Grind.{common_steps}
use Rattle.std.specs.Prelude.{Some, None, max}
use Rattle.std.specs.FinMap as finite
use Rattle.std.specs.FinMap.{find, get-entries, len-entries}
use Rattle.std.specs.List.{AllByRecursion}
use Rattle.std.specs.Ordering.{nat_cmp, eq_by_cmp}
use Rattle.sqlite_value.specs.Order.{Row, column}
use Rattle.sqlite_trees.specs.Tree.{Trees, has_rowid}
use Rattle.verification.specs.Records.{Credential}
use Rattle.site_rows.specs.Held.{Placed, placed_rows}
use Rattle.site_rows.specs.Rows.{credential_row}
use Rattle.site_rows.proofs.One.{number_once}
use Rattle.site_rows.proofs.Tables.{by_number}
use Rattle.site_stored.specs.Private.{IsUpTo}
use Rattle.site_stored.specs.State.{HasParty, site_row}

abbrev rows_in : List (ℕ × Credential) → List Row
rows_in es = map (λ e. credential_row e.0 e.1) es

length_rows : (es : List (ℕ × Credential)) → length (rows_in es) ≡ length es
length_rows [] = refl
length_rows (e ∷ es) = ap (λ n. suc n) (length_rows es)

pub counted : (placed : Placed) (rows : List Row) (n : ℕ) → rows ≡ placed_rows placed → length rows ≡ n → finite.len placed ≡ n
counted placed rows n are count = len-entries placed ∙ sym (length_rows (finite.entries placed)) ∙ sym (ap length are) ∙ count

tied : (p q : ℕ) → eq_by_cmp nat_cmp p q ≡ true → p ≡ q
tied p q e = grind (arith, common_steps, e)

up_to : (es : List (ℕ × Credential)) (last p : ℕ) (c : Credential) → AllByRecursion (IsUpTo last) (rows_in es) → find nat_cmp p es ≡ Some c → p ≤ last
up_to [] last p c all found = absurd (none_left found)
  where
    none_left : None ≡ Some c → ⊥
    none_left is = absurd cc
up_to (e ∷ es) last p c all found = go (eq_by_cmp nat_cmp p e.0) refl (up_to es last p c all.1)
  where
    go : (b : Bool) → eq_by_cmp nat_cmp p e.0 ≡ b → (find nat_cmp p es ≡ Some c → p ≤ last) → p ≤ last
    go true t more = subst (λ k. k ≤ last) (sym (tied p e.0 t)) (all.0 e.0 e.1 refl)
    go false t more = more (sym (ap (λ b. cond b (Some e.1) (find nat_cmp p es)) t) ∙ found)

pub highest : (placed : Placed) (rows : List Row) (last p : ℕ) (c : Credential) → rows ≡ placed_rows placed → AllByRecursion (IsUpTo last) rows
    → finite.get placed p ≡ Some c → p ≤ last
highest placed rows last p c are all there =
    up_to (finite.entries placed) last p c (subst (AllByRecursion (IsUpTo last)) are all) (sym (get-entries placed p) ∙ there)

pub left_of_max : (a b most : ℕ) → max a b ≤ most → a ≤ most
left_of_max a b most le = grind (arith, common_steps, le)

pub right_of_max : (a b most : ℕ) → max a b ≤ most → b ≤ most
right_of_max a b most le = grind (arith, common_steps, le)

abbrev head_of : Row → List Row → Row
head_of none [] = none
head_of none (r ∷ rs) = r

pub found_one : (rp_id : List ℕ) (n : ℕ) → filter (has_rowid (pos 1)) (site_row rp_id n ∷ []) ≡ site_row rp_id n ∷ []
found_one rp_id n = rw (by_number 1 1) refl

pub one_number : (rp_id : List ℕ) (m n : ℕ) (db : Trees) → HasParty rp_id m db → db 2 ≡ site_row rp_id n ∷ [] → m ≡ n
one_number rp_id m n db has are =
    let rows = sym has ∙ ap (filter (has_rowid (pos 1))) are ∙ found_one rp_id n in
    number_once m n (ap (λ r. column r 4) (ap (head_of []) rows))
