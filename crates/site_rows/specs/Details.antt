-- What is known of credentials beside what verdicts ask for, in one tree of a store: the table of details, by the places of their
-- credentials.
use Rattle.std.specs.Prelude.{◌≡◌, ◌≢◌, ℕ, ℤ, pos, Option, Some, None, List, [], ◌∷◌, map}
use Rattle.std.specs.FinMap as finite
use Rattle.std.specs.Ordering.{nat_cmp}
use Rattle.sqlite_value.specs.Order.{Row}
use Rattle.sqlite_value.specs.declared.value.Value.{Value}
use Rattle.sqlite_value.specs.declared.value.Value.TheVariants.{Null, Int, Text, Blob}
use Rattle.sqlite_trees.specs.Tree.{Trees}
use Rattle.sqlite_trees.specs.View.{View}
use Rattle.site_state.specs.Details.{Detail, told}
use Rattle.site_rows.specs.Trees.{detail_tree}

-- NULL where it is not known
abbrev pub int_or_null : Option ℤ → Value
int_or_null None = Null
int_or_null (Some n) = Int n

abbrev pub blob_or_null : Option (List ℕ) → Value
blob_or_null None = Null
blob_or_null (Some b) = Blob b

-- the columns: place, created_at, used_at, transports, aaguid
abbrev pub detail_row : ℕ → Detail → Row
detail_row place d =
    Int (pos place) ∷ Null ∷ int_or_null d.created_at ∷ int_or_null d.used_at ∷ Text d.transports ∷ blob_or_null d.aaguid ∷ []

-- details by the places of their credentials; a credential may have none
abbrev pub Details : Type 0
Details = finite.FinMap nat_cmp Detail

abbrev pub HoldsDetails : Details → Trees → Type 0
HoldsDetails details db = db detail_tree ≡ map (λ e. detail_row e.0 e.1) (finite.entries details)

-- a detail, used at this second; where none was known nothing else is
abbrev pub used : ℤ → Option Detail → Detail
used now None = told None (Some now) [] None
used now (Some d) = told d.created_at (Some now) d.transports d.aaguid

-- the transaction has written the table of details, and no other tree
pub record IsDetailed (old new : View) (To : Details → Details) : Type 0 where
  pub holds : (details : Details) → HoldsDetails details old.trees → HoldsDetails (To details) new.trees
  pub others : (n : ℕ) → n ≢ detail_tree → new.trees n ≡ old.trees n
  pub is : new ≡ record old { trees = new.trees; cursors = new.cursors }
