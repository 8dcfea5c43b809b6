-- What is owed of `info_fault`.
use Rattle.ctap_encoding.proofs.Tables.{tables}
use Rattle.ctap_replies.proofs.tables.info_fault.Goals as goal

pub returns : goal.returns
returns c =
    let h = simp (tables) at c.gravest.ensures in
    h
