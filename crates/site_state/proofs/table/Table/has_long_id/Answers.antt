-- What is owed of `Table::has_long_id`.
use Rattle.std.proofs.Common.{◌≡◌, ◌≤◌, ◌<◌, ◌∙◌, ◌++◌, ◌∷◌, [], false, length, map, refl, sym, ap, arith, append-nil}
use Rattle.std.proofs.lemmas.List.{map-append}
use Rattle.verification.specs.Views.{credential_view}
use Rattle.site_state.specs.Table.{has_long}
use Rattle.site_state.proofs.Entries.{entry_view, gone_over}
use Rattle.site_state.proofs.RowLemmas.{all_short, long_there, none_long, short_behind}
use Rattle.site_state.proofs.table.Table.has_long_id.Goals as goal

pub returns-then-max_id-row-clause-told : goal.returns-then-max_id-row-clause-told
returns-then-max_id-row-clause-told c =
    let front = map credential_view c.loop-row.yielded in
    let longer : 64 < length (credential_view c.in-Some.row).id = omega (arith, c.if-max_id-row.true, c.max_id.ensures) in
    sym (ap has_long (c.loop-row.invariant.3 ∙ ap (λ l. front ++ l) c.in-Some.ensures.steps)
    ∙ long_there front (map entry_view c.next.new.self.0) (credential_view c.in-Some.row) longer)

pub returns-then-max_id-row-clause-strict : goal.returns-then-max_id-row-clause-strict
returns-then-max_id-row-clause-strict c = (λ no. absurd cc, λ table. returns-then-max_id-row-clause-told c ∙ none_long c.args.self.now table.1)

pub loop-row-preserved : goal.loop-row-preserved
loop-row-preserved c =
    let front = map credential_view c.loop-row.yielded in
    let row = credential_view c.in-Some.row in
    let short : length row.id ≤ 64 = omega (arith, c.if-max_id-row.false, c.max_id.ensures) in (
      tt,
      tt,
      ap has_long (map-append credential_view c.loop-row.yielded (c.in-Some.row ∷ [])) ∙ short_behind front row c.loop-row.invariant.2 short,
      gone_over credential_view _ c.loop-row.yielded c.in-Some.row _ _ c.loop-row.invariant.3 c.in-Some.ensures.steps,
    )

pub returns-clause-strict : goal.returns-clause-strict
returns-clause-strict c = (
  λ _.
      let front = map credential_view c.loop-row.yielded in
      let is : c.args.self.now ≡ front = c.loop-row.invariant.3 ∙ ap (λ l. front ++ l) c.in-None.ensures.steps.0 ∙ append-nil front in
      let none : has_long c.args.self.now ≡ false = ap has_long is ∙ c.loop-row.invariant.2 in
      (c.rows-row-items.ensures.limits.0, all_short c.args.self.now c.rows-row-items.ensures.limits.1 none),
  λ _. refl,
)
