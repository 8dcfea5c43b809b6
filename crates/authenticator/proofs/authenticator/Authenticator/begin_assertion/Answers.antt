-- What is owed of `Authenticator::begin_assertion`.
use Rattle.std.proofs.Common.{reverse, sym, ap, ◌∙◌}
use Rattle.refusal_order.specs.Lines.{first_true}
use Rattle.ctap_requests.specs.RequestView.{lent_get_assertion_view}
use Rattle.authenticator.specs.Orders.{assertion_order, candidates}
use Rattle.authenticator.specs.Signing.{no_signature}
use Rattle.authenticator.specs.Steps.{FirstAnswers, asked_by}
use Rattle.authenticator.specs.Views.{asked_view, candidates_view}
use Rattle.authenticator.proofs.Refusing.{consent_due, first_begins, none_due, refused}
use Rattle.authenticator.proofs.authenticator.Authenticator.begin_assertion.Goals as goal

pub returns-in-Err-clause-done : goal.returns-in-Err-clause-done
returns-in-Err-clause-done c = λ public.
    let q = lent_get_assertion_view c.args.request.now in
    refused c.args.self.now c.refuse.new.self c.in-Err.status _ (first_true (assertion_order c.args.self.now q c.args.consent))
    (λ out. FirstAnswers no_signature public c.args.self.now
    (candidates c.args.self.now.credentials q.rp_id q.allow_list) (asked_by c.args.channel q c.args.consent) out)
    (consent_due c.args.self.now q c.args.consent c.in-Err.status c.in-Err.ensures) c.in_ok-refuse-in-Err.ensures.reply c.in_ok-refuse-in-Err.ensures.ok

pub returns-in_default-clause-done : goal.returns-in_default-clause-done
returns-in_default-clause-done c = λ public.
    let q = lent_get_assertion_view c.args.request.now in
    refused c.args.self.now c.refuse-in_default.new.self 0x2E _ (first_true (assertion_order c.args.self.now q c.args.consent))
    (λ out. FirstAnswers no_signature public c.args.self.now
    (candidates c.args.self.now.credentials q.rp_id q.allow_list) (asked_by c.args.channel q c.args.consent) out)
    (none_due c.args.self.now q c.args.consent c.in-Ok.ensures.0 (ap candidates_view (sym c.in_default.is) ∙ c.in_ok-found.ensures))
    c.in_ok-refuse.ensures.reply c.in_ok-refuse.ensures.ok

pub returns-clause-done : goal.returns-clause-done
returns-clause-done c = λ public.
    first_begins public c.args.self.now c.begin_first.new.self c.args.channel c.args.consent
    (lent_get_assertion_view c.args.request.now)
    c.in-Some.candidates.first (reverse c.in-Some.candidates.later.items) (asked_view c.in_ok-asked.asked) c.begin_first.result
    c.in-Ok.ensures.0 (ap candidates_view (sym c.in-Some.is) ∙ c.in_ok-found.ensures) c.in_ok-asked.ensures (c.begin_first.ensures.done public)
