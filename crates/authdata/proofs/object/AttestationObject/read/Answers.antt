-- What is owed of `AttestationObject::read`.
use Rattle.std.proofs.Common.{refl}
use Rattle.authdata.proofs.Objects.{canonical_first, no_object, not_whole, other_value, shape_first}
use Rattle.authdata.proofs.object.AttestationObject.read.Goals as goal

pub returns-in-None-clause-refused : goal.returns-in-None-clause-refused
returns-in-None-clause-refused c = shape_first _ _ c.in-Ok.ensures.found c.in-Ok.ensures.only c.in-None.ensures

pub returns-in-None-clause-none : goal.returns-in-None-clause-none
returns-in-None-clause-none c = λ _. other_value _ _ c.in-Ok.ensures.found c.in-Ok.ensures.only c.in-None.ensures

pub returns-in-Err-NotCanonical-clause-refused : goal.returns-in-Err-NotCanonical-clause-refused
returns-in-Err-NotCanonical-clause-refused c =
    let none = rw c.in-Err-NotCanonical.field-0-is at c.in-Err-NotCanonical.ensures.none in
    canonical_first _ (not_whole _ (none refl))

pub returns-in-Err-NotCanonical-clause-none : goal.returns-in-Err-NotCanonical-clause-none
returns-in-Err-NotCanonical-clause-none c =
    let none = rw c.in-Err-NotCanonical.field-0-is at c.in-Err-NotCanonical.ensures.none in
    λ _. no_object _ (not_whole _ (none refl))

pub returns-in-Err-Trailing-clause-refused : goal.returns-in-Err-Trailing-clause-refused
returns-in-Err-Trailing-clause-refused c =
    let none = rw c.in-Err-Trailing.field-0-is at c.in-Err-Trailing.ensures.front in
    canonical_first _ (none refl)

pub returns-in-Err-Trailing-clause-none : goal.returns-in-Err-Trailing-clause-none
returns-in-Err-Trailing-clause-none c =
    let none = rw c.in-Err-Trailing.field-0-is at c.in-Err-Trailing.ensures.front in
    λ _. no_object _ (none refl)
