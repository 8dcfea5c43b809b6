-- Where a part is not read, the whole is not.
use Rattle.std.proofs.Common.{◌≡◌, Option, None, Result, Ok, Err}
use Rattle.std.specs.Prelude.{IsErr, IsErrAnd}
use Rattle.ctap_encoding.specs.Reading.{Fails, Gives, Yields}
use Rattle.ctap_encoding.specs.declared.map_error.MapError.{MapError}
use Rattle.ctap_encoding.specs.declared.map_error.MapError.TheVariants as errors

pub yields_none : {X Y E : Type 0} (view : X → Y) (r : Result X E) (read : Option Y) → IsErr r → read ≡ None → Yields view r read
yields_none view (Ok x) read e none = absurd cc
yields_none view (Err e) read is none = none

pub gives_none : {X Y : Type 0} (view : X → Y) (r : Result X MapError) (read : Option Y) → IsErr r → read ≡ None → Gives view r read
gives_none view (Ok x) read e none = absurd cc
gives_none view (Err errors.Memory) read is none = tt
gives_none view (Err errors.Shape) read is none = none

-- where the part failed by this error
pub gives_fails : {X Y Z : Type 0} (view : X → Y) (r : Result X MapError) (read : Option Y) (e : MapError) (part : Option Z) → IsErrAnd r (λ f. f ≡ e) → Fails e part
    → (part ≡ None → read ≡ None) → Gives view r read
gives_fails view (Ok x) read e part h f so = absurd h
gives_fails view (Err errors.Memory) read e part h f so = tt
gives_fails view (Err errors.Shape) read errors.Shape part h f so = so f
gives_fails view (Err errors.Shape) read errors.Memory part h f so = absurd cc
