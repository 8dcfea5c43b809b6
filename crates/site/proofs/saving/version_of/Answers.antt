-- What is owed of `version_of`.
use Rattle.std.proofs.Common.{◌≡◌, ◌∙◌, ◌++◌, ◌∷◌, [], false, true, map, refl, sym, ap, append-nil}
use Rattle.std.proofs.lemmas.List.{map-append}
use Rattle.verification.specs.Views.{credential_view}
use Rattle.site_state.proofs.Entries.{entry_view, gone_over}
use Rattle.site.specs.Saved.{has_version_4, needs_version_4}
use Rattle.site.proofs.Versions.{needed_there, none_behind}
use Rattle.site.proofs.saving.version_of.Goals as goal

pub returns-then-needs_version_4 : goal.returns-then-needs_version_4
returns-then-needs_version_4 c =
    let front = map credential_view c.loop-row.yielded in
    let row = credential_view c.in-Some.row in
    let needs : needs_version_4 row.id row.key ≡ true = sym c.needs_version_4.ensures ∙ c.if-needs_version_4.true in
    let some : has_version_4 c.args.table.now ≡ true =
    ap has_version_4 (c.loop-row.invariant.3 ∙ ap (λ l. front ++ l) c.in-Some.ensures.steps)
    ∙ needed_there front (map entry_view c.next.new.self.0) row needs in
    rw some refl

pub loop-row-preserved : goal.loop-row-preserved
loop-row-preserved c =
    let front = map credential_view c.loop-row.yielded in
    let row = credential_view c.in-Some.row in
    let early : needs_version_4 row.id row.key ≡ false = sym c.needs_version_4.ensures ∙ c.if-needs_version_4.false in (
      tt,
      tt,
      ap has_version_4 (map-append credential_view c.loop-row.yielded (c.in-Some.row ∷ [])) ∙ none_behind front row c.loop-row.invariant.2 early,
      gone_over credential_view _ c.loop-row.yielded c.in-Some.row _ _ c.loop-row.invariant.3 c.in-Some.ensures.steps,
    )

pub returns : goal.returns
returns c =
    let front = map credential_view c.loop-row.yielded in
    let is : c.args.table.now ≡ front = c.loop-row.invariant.3 ∙ ap (λ l. front ++ l) c.in-None.ensures.steps.0 ∙ append-nil front in
    let none : has_version_4 c.args.table.now ≡ false = ap has_version_4 is ∙ c.loop-row.invariant.2 in
    rw none refl
