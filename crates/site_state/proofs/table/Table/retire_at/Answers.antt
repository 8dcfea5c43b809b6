-- What is owed of `Table::retire_at`.
use Rattle.std.proofs.Common.{◌≡◌, map, Some, slice_get, refl, sym, ap, ◌∙◌, subst}
use Rattle.authdata.specs.declared.profile.Profile.TheVariants.{Open}
use Rattle.site_state.specs.Table.{IsTable, retired}
use Rattle.site_state.proofs.Entries.{entry_view, stored, limits_stored, beyond}
use Rattle.site_state.proofs.table.Table.retire_at.Goals.{in-Some, in_default}
use Rattle.site_state.proofs.table.Table.retire_at.Goals as goal

pub returns-clause-retired : goal.returns-clause-retired
returns-clause-retired c = elim c.match-get_index_mut.branch [
  | in-Some w ↦ λ row is.
      let here : slice_get (map entry_view c.self.inside.rows.entries) c.args.place ≡ Some row = rw c.self.view_is is in
      rw (← c.self.view_is) (ap (λ x. map entry_view x.rows.entries) w.self-inside-is
      ∙ stored Open retired c.self.inside.rows.entries c.args.place w.in-Some.kept.now _ c.self.invariant (sym w.in-Some.ensures.value) (λ id. refl) row here)
  | in_default w ↦ λ row is. absurd (beyond c.self.inside.rows.entries c.args.place row (sym w.in_default.ensures.value) (rw c.self.view_is is))
]

pub returns-clause-limits : goal.returns-clause-limits
returns-clause-limits c = λ p table.
    let here : IsTable p (map entry_view c.self.inside.rows.entries) = rw c.self.view_is table in
    elim c.match-get_index_mut.branch [
      | in-Some w ↦ subst (λ x. IsTable p (map entry_view x.rows.entries)) (sym w.self-inside-is)
          (limits_stored p retired c.self.inside.rows.entries c.args.place w.in-Some.kept.now _ here (sym w.in-Some.ensures.value) (λ id. refl)
          (record { id = λ r. refl; user = λ r. refl }))
      | in_default w ↦ subst (λ x. IsTable p (map entry_view x.rows.entries)) (sym w.self-inside-is) here
    ]

pub invariant_of-self : goal.invariant_of-self
invariant_of-self c = returns-clause-limits c Open (rw (← c.self.view_is) c.self.invariant)
