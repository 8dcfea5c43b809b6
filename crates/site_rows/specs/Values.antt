-- Values of columns.
use Rattle.std.specs.Prelude.{ℕ, ℤ, pos, Bool, true, false, Option, Some, None, List}
use Rattle.sqlite_value.specs.declared.value.Value.{Value}
use Rattle.sqlite_value.specs.declared.value.Value.TheVariants.{Null, Int, Real, Text, Blob}

-- 0 for false, 1 for true; NULL where it is not known
abbrev pub truth_value : Bool → Value
truth_value false = Int (pos 0)
truth_value true = Int (pos 1)

abbrev pub truth_or_null : Option Bool → Value
truth_or_null None = Null
truth_or_null (Some truth) = truth_value truth

-- the bytes of a blob; the bytes of a text; the number of an integer
abbrev pub blob_in : Value → Option (List ℕ)
blob_in Null = None
blob_in (Int n) = None
blob_in (Real x) = None
blob_in (Text t) = None
blob_in (Blob b) = Some b

abbrev pub text_in : Value → Option (List ℕ)
text_in Null = None
text_in (Int n) = None
text_in (Real x) = None
text_in (Text t) = Some t
text_in (Blob b) = None

abbrev pub int_in : Value → Option ℤ
int_in Null = None
int_in (Int n) = Some n
int_in (Real x) = None
int_in (Text t) = None
int_in (Blob b) = None
