-- What is owed of `answer_one`.
use Rattle.std.proofs.Common.{inr, subst, sym}
use Rattle.site_acts.specs.Faults.{IsRefused}
use Rattle.site_lines.proofs.line.answer_one.Goals as goal

pub returns-in-Err-clause-told : goal.returns-in-Err-clause-told
returns-in-Err-clause-told g c =
    let fault = c.in-Err.fault in
    let refused = subst (λ l. IsRefused l fault.id fault.error) c.as_slice.ensures.value c.in-Err.ensures.refused in
    inr (fault.error, c.refused.ensures.answer, subst (λ id. IsRefused c.args.arrived.now.line.items id fault.error) (sym c.refused.ensures.number) refused)
