-- What is owed of `creation_fault`.
use Rattle.ctap_encoding.proofs.Tables.{tables}
use Rattle.ctap_open_requests.proofs.tables.creation_fault.Goals as goal

pub returns : goal.returns
returns c =
    let h = simp (tables) at c.gravest.ensures in
    h
