-- What is read from the front, and what is left to read.
use Rattle.std.proofs.Common.{List, ◌++◌, Option, Some, None}

abbrev pub with_front : {A : Type 0} → List A → Option (List A) → Option (List A)
with_front front (Some rest) = Some (front ++ rest)
with_front front None = None
