-- What is owed of `Table::is_of`.
use Rattle.std.proofs.Common.{inl, inr, refl, sym, subst}
use Rattle.authdata.specs.declared.profile.Profile.{Profile}
use Rattle.authdata.specs.declared.profile.Profile.TheVariants.{Open}
use Rattle.site_state.specs.Table.{IsTable}
use Rattle.site_state.proofs.RowLemmas.{level3_rows}
use Rattle.site_state.proofs.table.Table.is_of.Goals as goal

pub returns-in-Open : goal.returns-in-Open
returns-in-Open c =
    let wide : IsTable Open c.args.self.now = subst (IsTable Open) c.self.view_is c.self.invariant in (
      λ _. elim c.in-Open.is [
        | inl open_one ↦ subst (λ (p : Profile). IsTable p c.args.self.now) (sym open_one) wide
        | inr level3 ↦ subst (λ (p : Profile). IsTable p c.args.self.now) (sym level3) (wide.0, level3_rows c.args.self.now wide.1)
      ],
      λ _. refl,
    )
