-- What is owed of `map_fault`.
use Rattle.ctap_encoding.proofs.Tables.{tables}
use Rattle.pin_client_messages.proofs.writing.map_fault.Goals as goal

pub returns : goal.returns
returns c =
    let h = simp (tables) at c.gravest.ensures in
    h
