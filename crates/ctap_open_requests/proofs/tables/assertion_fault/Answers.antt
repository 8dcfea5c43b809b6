-- What is owed of `assertion_fault`.
use Rattle.ctap_encoding.proofs.Tables.{tables}
use Rattle.ctap_open_requests.proofs.tables.assertion_fault.Goals as goal

pub returns : goal.returns
returns c =
    let h = simp (tables) at c.gravest.ensures in
    h
