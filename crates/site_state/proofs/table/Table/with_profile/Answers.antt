-- What is owed of `Table::with_profile`.
use Rattle.std.proofs.Common.{◌≡◌, ◌∷◌, [], ◌++◌, refl, sym, ap, ◌∙◌, append_assoc, rules}
use Rattle.site_state.specs.RowViews.{row_view}
use Rattle.std.proofs.lemmas.List.{map-append}
use Rattle.site_state.proofs.Made.{admitted}
use Rattle.site_state.proofs.table.Table.with_profile.Goals as goal

pub loop-row-preserved : goal.loop-row-preserved
loop-row-preserved c =
    let rest : c.loop-row.row-iterator.rest.items ≡ c.in-Some.row ∷ c.next.new.self.rest.items = search rules in (
      tt,
      tt,
      c.in_ok-push.ensures.pushed ∙ ap (λ l. l ++ row_view c.in-Some.row ∷ []) c.loop-row.invariant.2
          ∙ sym (map-append row_view c.loop-row.yielded (c.in-Some.row ∷ [])),
      c.in_ok-push.ensures.limits c.args.profile c.loop-row.invariant.3 (c.if-not-admits.ensures.0 refl).0,
      c.loop-row.invariant.4 ∙ ap (λ l. c.loop-row.yielded ++ l) rest ∙ sym (append_assoc c.loop-row.yielded (c.in-Some.row ∷ []) c.next.new.self.rest.items),
    )

pub returns-then-not-admits-clause-bad : goal.returns-then-not-admits-clause-bad
returns-then-not-admits-clause-bad c = λ _ table.
    let rest : c.loop-row.row-iterator.rest.items ≡ c.in-Some.row ∷ c.next.new.self.rest.items = search rules in
    let may = admitted c.args.profile c.args.rows.items c.loop-row.yielded c.next.new.self.rest.items c.in-Some.row (c.loop-row.invariant.4
    ∙ ap (λ l. c.loop-row.yielded ++ l) rest) table in
    let yes = c.admits.ensures.1 (rw c.loop-row.invariant.2 may) in
    let no = c.if-not-admits.true in absurd cc
