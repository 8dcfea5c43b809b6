-- Steps of reading, with the errors of this crate.
use Rattle.std.specs.Prelude.{◌≡◌, ℕ, List, Option, Result, Ok, Err}
use Rattle.der.specs.declared.error.Error.{Error as Fault}
use Rattle.der.specs.declared.tag.Tag.{Tag}
use Rattle.der.specs.Reading.{tagged_at, optional_at, whole_at, integer_in}
use Rattle.certificates.specs.declared.error.Error.{Error}
use Rattle.certificates.specs.declared.error.Error.TheVariants as errors
use Rattle.certificates.specs.Tags.{INTEGER}

abbrev pub Read : Type 0 → Type 0
Read A = Result (A × List ℕ) Error

infixl 10 ◌>>=◌
abbrev pub ◌>>=◌ : {A B : Type 0} → Result A Error → (A → Result B Error) → Result B Error
(Ok x) >>= f = f x
(Err e) >>= f = Err e

-- what a function answers, seen by view, is what reading gives
abbrev pub Gives : {X Y : Type 0} → (X → Y) → Result X Error → Result Y Error → Type 0
Gives view (Ok x) read = read ≡ Ok (view x)
Gives view (Err e) read = read ≡ Err e

-- what reading DER gives
abbrev pub lifted : {A : Type 0} → Result A Fault → Result A Error
lifted (Ok x) = Ok x
lifted (Err e) = Err (errors.Encoding e)

abbrev pub field_at : Tag → List ℕ → Read (List ℕ)
field_at t bs = lifted (tagged_at t bs)

abbrev pub optional_field_at : Tag → List ℕ → Read (Option (List ℕ))
optional_field_at t bs = lifted (optional_at t bs)

abbrev pub whole_field_at : Tag → List ℕ → Result (List ℕ) Error
whole_field_at t bs = lifted (whole_at t bs)

-- the content of an integer
unfoldable pub integer_field_at : List ℕ → Read (List ℕ)
integer_field_at bs = do
  content ← field_at INTEGER bs
  _ ← lifted (integer_in content.0)
  Ok content
