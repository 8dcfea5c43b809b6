-- What is owed of `Table::push`.
use Rattle.std.proofs.Common.{◌≡◌, ◌≤◌, ◌+◌, ◌++◌, [], ◌∷◌, length, map, None, sym, ◌∙◌, subst, arith}
use Rattle.std.proofs.lemmas.List.{length-append}
use Rattle.indexmap.proofs.CallerLemmas.{insert_entry-new}
use Rattle.authdata.specs.declared.profile.Profile.TheVariants.{Open}
use Rattle.site_state.proofs.Entries.{entry_view, none_kept, one_entry_more}
use Rattle.site_state.proofs.RowLemmas.{one_more}
use Rattle.site_state.specs.Table.{row_of, IsTable}
use Rattle.site_state.specs.RowViews.{row_view}
use Rattle.site_state.proofs.table.Table.push.Goals as goal

pub returns-clause-pushed : goal.returns-clause-pushed
returns-clause-pushed c =
    let rows = c.self.inside.rows in
    let absent : row_of c.args.row.id.items (map entry_view rows.entries) ≡ None = rw c.self.view_is c.requires.absent in
    let none = none_kept c.args.row.id.items rows.entries absent in
    rw (← c.self.view_is) (one_entry_more rows.entries c.insert.new.self.entries _ (c.in_ok-insert.ensures.entries
    ∙ insert_entry-new _ rows c.args.row.id _ none))

pub invariant_of-self-2 : goal.invariant_of-self-2
invariant_of-self-2 c =
    let rows = c.self.inside.rows in
    let pushed : map entry_view c.insert.new.self.entries ≡ map entry_view rows.entries ++ row_view c.args.row ∷ [] =
    rw c.self.view_is (returns-clause-pushed c) in
    let absent : row_of c.args.row.id.items (map entry_view rows.entries) ≡ None = rw c.self.view_is c.requires.absent in
    let room : length (map entry_view rows.entries) + 1 ≤ 65536 = let r = c.requires.room in rw c.self.view_is (omega (arith, r)) in
    let len : length (map entry_view rows.entries ++ row_view c.args.row ∷ []) ≤ 65536 =
    omega (arith, room, length-append (map entry_view rows.entries) (row_view c.args.row ∷ [])) in
    subst (IsTable Open) (sym pushed) (len, one_more Open (map entry_view rows.entries) (row_view c.args.row) c.self.invariant.1 c.requires.limits absent)

pub returns-clause-limits : goal.returns-clause-limits
returns-clause-limits c = λ p table limits.
    let room = c.requires.room in
    let longer = length-append c.args.self.now (row_view c.args.row ∷ []) in
    subst (IsTable p) (sym (returns-clause-pushed c)) (
      omega (arith, room, longer),
      one_more p c.args.self.now (row_view c.args.row) table.1 limits c.requires.absent,
    )
