-- What is owed of `has_unit`.
use Rattle.std.specs.Prelude.{IsSomeAnd}
use Rattle.attestation.specs.Rules.{IsUnit, unit_name}
use Rattle.attestation.proofs.Extending.{names}
use Rattle.attestation.proofs.rules.has_unit.Goals as goal

pub returns-in-Ok : goal.returns-in-Ok
returns-in-Ok c =
    let f = c.in-Ok.ensures.found in
    names c.args.name.now unit_name (λ o. IsSomeAnd o IsUnit) f.0 _ c.is_unit.result f.1 f.2 c.is_unit.ensures
