-- What is owed of `carry_out`.
use Rattle.std.proofs.Common.{ℕ, List, Option, rules, subst, sym}
use Rattle.site_stored.specs.Causes as stored
use Rattle.site_lines.specs.Causes.{AreTooMany, FailsBy, FailsIn, RefusesRetireAll}
use Rattle.site_lines.proofs.acting.carry_out.Goals as goal

pub returns-in-BeginRegistration-clause-cause : goal.returns-in-BeginRegistration-clause-cause
returns-in-BeginRegistration-clause-cause g c =
    subst (λ act. FailsIn g.S.Store.view g.S.Store.faults c.args.now act c.args.site.now c.begin_registration.new.site c.begin_registration.result)
    (sym c.in-BeginRegistration.is) c.begin_registration.ensures.cause

pub returns-in-Rows-clause-cause : goal.returns-in-Rows-clause-cause
returns-in-Rows-clause-cause g c =
    subst (λ act. FailsIn g.S.Store.view g.S.Store.faults c.args.now act c.args.site.now c.rows.new.site c.rows.result) (sym c.in-Rows.is)
    (subst (λ (user : Option (List ℕ)). FailsBy g.S.Store.view g.S.Store.faults c.args.site.now c.rows.new.site ⊥
    (AreTooMany user (g.S.Store.view c.args.site.now.store)) c.rows.result) (search rules) c.rows.ensures.cause)

pub returns-in-RetireAll-clause-cause : goal.returns-in-RetireAll-clause-cause
returns-in-RetireAll-clause-cause g c =
    subst (λ act. FailsIn g.S.Store.view g.S.Store.faults c.args.now act c.args.site.now c.retire_all.new.site c.retire_all.result) (sym c.in-RetireAll.is)
    (subst (λ (user : List ℕ). FailsBy g.S.Store.view g.S.Store.faults c.args.site.now c.retire_all.new.site
    (RefusesRetireAll (g.S.Store.view c.args.site.now.store) user) (stored.AreTooMany user (g.S.Store.view c.args.site.now.store).trees) c.retire_all.result)
    c.as_slice-in-RetireAll.ensures.value c.retire_all.ensures.cause)
