-- What is owed of `Table::retire`.
use Rattle.std.proofs.Common.{sym, ap, ◌∙◌}
use Rattle.verification.specs.Records.{Credential}
use Rattle.verification.specs.Views.{credential_view}
use Rattle.site_state.specs.Table.{retired, with_row}
use Rattle.site_state.proofs.RowLemmas.{found_id}
use Rattle.site_state.proofs.table.Table.retire.Goals as goal

pub returns-clause-after : goal.returns-clause-after
returns-clause-after c = λ _.
    let row : Credential = credential_view c.in-Some.row in
    let same = found_id c.args.id.now c.args.self.now row (sym c.in-Some.ensures.row) in
    c.retire_at.ensures.retired row c.in-Some.ensures.place ∙ ap (λ id. with_row id retired c.args.self.now) same
