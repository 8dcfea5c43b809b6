-- What is owed of `has_attribute`.
use Rattle.std.specs.Prelude.{IsSome}
use Rattle.attestation.proofs.Extending.{names, some_view}
use Rattle.attestation.proofs.rules.has_attribute.Goals as goal

pub returns-in-Ok : goal.returns-in-Ok
returns-in-Ok c =
    let f = c.in-Ok.ensures.found in
    names c.args.name.now c.args.identifier.now IsSome f.0 _ c.is_some.result f.1 f.2 (some_view c.in-Ok.found c.is_some.result c.is_some.ensures)
