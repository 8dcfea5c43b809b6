-- What is owed of `says_aaguid`.
use Rattle.std.proofs.lemmas.Bool.Decides.{Decides-eqb}
use Rattle.std.proofs.lemmas.Slice.Eq.{slice_eq-Decides}
use Rattle.attestation.proofs.Extending.{same_aaguid}
use Rattle.attestation.proofs.rules.says_aaguid.Goals as goal

pub returns-in-Ok : goal.returns-in-Ok
returns-in-Ok c =
    let d = slice_eq-Decides Decides-eqb c.in-Ok.own.now c.args.aaguid.now c.eq.result c.eq.ensures in
    same_aaguid c.in-Ok.own.now c.args.aaguid.now _ c.eq.result c.in-Ok.ensures.found d.0 d.1
