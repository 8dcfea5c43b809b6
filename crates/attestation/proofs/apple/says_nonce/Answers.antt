-- What is owed of `says_nonce`.
use Rattle.std.proofs.lemmas.Bool.Decides.{Decides-eqb}
use Rattle.std.proofs.lemmas.Slice.Eq.{slice_eq-Decides}
use Rattle.attestation.proofs.Extending.{same_nonce}
use Rattle.attestation.proofs.apple.says_nonce.Goals as goal

pub returns-in-Ok : goal.returns-in-Ok
returns-in-Ok c =
    let d = slice_eq-Decides Decides-eqb c.in-Ok.own.now c.args.nonce.now c.eq.result c.eq.ensures in
    same_nonce c.in-Ok.own.now c.args.nonce.now _ c.eq.result c.in-Ok.ensures.found d.0 d.1
