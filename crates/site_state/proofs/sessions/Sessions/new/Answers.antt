-- What is owed of `Sessions::new`.
use Rattle.site_state.proofs.Maps.{well_empty}
use Rattle.site_state.proofs.Numbered.{numbers_empty}
use Rattle.site_state.proofs.sessions.Sessions.new.Goals as goal

pub invariant_of-result : goal.invariant_of-result
invariant_of-result c =
    let well = well_empty c.new.result c.new.ensures.empty in
    (well.0, well.1, numbers_empty c.new.result c.args.next c.new.ensures.empty)
