-- What is owed of `Table::find`.
use Rattle.std.proofs.Common.{sym}
use Rattle.site_state.proofs.Entries.{at_place, found, absent}
use Rattle.site_state.proofs.table.Table.find.Goals as goal

pub returns-in_err-place-clause-row : goal.returns-in_err-place-clause-row
returns-in_err-place-clause-row c =
    rw (← c.self.view_is, c.from_residual.ensures) (sym (absent c.args.id.now c.self.inside.rows.entries (sym c.in_err-place.ensures.value)))

pub returns-clause-place : goal.returns-clause-place
returns-clause-place c =
    let is = at_place c.self.inside.rows.entries c.in_ok-place.place (c.in_ok-place.id.now, c.in_ok-place.kept.now) c.in_ok-place.ensures.entry in
    rw (← c.self.view_is, c.shown.ensures) is

pub returns-clause-row : goal.returns-clause-row
returns-clause-row c =
    let is = found c.args.id.now c.self.inside.rows.entries c.in_ok-place.id.now c.in_ok-place.kept.now (sym c.in_ok-place.ensures.key)
    (sym c.in_ok-place.ensures.value) in
    rw (← c.self.view_is, c.shown.ensures) (sym is)
