-- Why a call over a store fails.
use Rattle.std.specs.Prelude.{◌≡◌, ◌⊎◌, ℕ}
use Rattle.sqlite_trees.specs.View.{HasCause, IsStorable, IsStorableRow, View}
use Rattle.sqlite_trees.specs.declared.error.StoreError.{StoreError}
use Rattle.sqlite_trees.specs.declared.error.StoreError.TheVariants.{Corrupt}
use Rattle.verification.specs.Records.{Credential}
use Rattle.site_rows.specs.Rows.{credential_row}
use Rattle.site_rows.specs.Held.{Holds, Placed, entry}
use Rattle.site_rows.specs.Trees.{credential_tree, id_tree, user_tree}

-- the row of a credential, or an entry of it, is one that no store takes, as one of over a billion bytes
abbrev pub IsRefused : (ℕ → ℕ) → ℕ → Credential → Type 0
IsRefused reals place c =
    (¬ IsStorableRow (reals credential_tree) (credential_row place c)) ⊎ (¬ IsStorable (reals id_tree) (entry c.id place)) ⊎ (¬ IsStorable (reals user_tree) (entry c.user place))

-- a look-up fails as the store tells it, or as Corrupt: where the trees hold credentials at all, they are such
abbrev pub HasReadCause : View → Type 0 → (Placed → Type 0) → StoreError → Type 0
HasReadCause old fault AreSuch e = HasCause old fault ⊥ e ⊎ ((e ≡ Corrupt) × ((placed : Placed) → Holds placed old.trees → AreSuch placed))
