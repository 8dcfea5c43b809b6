-- Why a row is not read.
use Rattle.std.proofs.Common.{◌≡◌, ℕ, List, ap, inl, inr}
use Rattle.std.specs.Prelude.{◌≤◌, ◌⊎◌, Some}
use Rattle.sqlite_disk.specs.Disk.{MoreFaults}
use Rattle.sqlite_value.specs.Order.{Row}
use Rattle.sqlite_trees.specs.View.{HasCause, View}
use Rattle.sqlite_trees.specs.declared.error.StoreError.{StoreError}
use Rattle.sqlite_trees.specs.declared.error.StoreError.TheVariants.{Corrupt}
use Rattle.site_rows.proofs.Causes.{cause_since}
use Rattle.site_rows.specs.Causes.{HasReadCause}
use Rattle.site_rows.specs.Held.{Placed}
use Rattle.site_stored.specs.Private.{AreCredentials}
use Rattle.site_stored.proofs.ReadTo.{are_credentials}

-- a row that is no credential's is of no table of credentials
pub row_cause : (old mid : View) (a b c : ℕ) (P : Placed → Type 0) (e : StoreError) (left : List Row) → mid ≡ record old { cursors = mid.cursors } → a ≤ b
    → mid.cursors 0 ≡ Some left → (AreCredentials (old.trees 0) → AreCredentials left)
    → HasCause mid (MoreFaults b c) ⊥ e ⊎ ((e ≡ Corrupt) × ((rows : List Row) → mid.cursors 0 ≡ Some rows → AreCredentials rows → ⊥))
    → HasReadCause old (MoreFaults a c) P e
row_cause old mid a b c P e left same up at are (inl h) = inl (cause_since old mid a b c ⊥ ⊥ e (ap (λ v. v.is_broken) same) up (λ no. no) h)
row_cause old mid a b c P e left same up at are (inr bad) =
    inr (bad.0, λ placed h. absurd (bad.1 left at (are (are_credentials placed old.trees h))))
