-- What is owed of `finish_with`.
use Rattle.std.proofs.Common.{◌∙◌, ap, subst}
use Rattle.site_stored.specs.State.{StoredState}
use Rattle.site_lines.specs.Private.{IsRefusedRegistration}
use Rattle.site_state.specs.Details.{detail_view}
use Rattle.site_lines.proofs.Caused.{refused_registration_fails, refuses_registered_as, store_fails}
use Rattle.site_lines.proofs.Detailed.{registration_leaves}
use Rattle.site_lines.proofs.Finished.{registration_accepted, registration_left, registration_refused, registration_step}
use Rattle.site_lines.proofs.finishing.finish_with.Goals as goal

pub returns-in-Ok-clause-told : goal.returns-in-Ok-clause-told
returns-in-Ok-clause-told g c =
    registration_accepted g.S.Store.view c.args.finish c.args.now _ c.args.site.now c.finish_registration_parts.new.self _ c.in-Ok.registered _
    c.verifier-verifier.ensures c.registration_parts-parts.ensures c.as_slice.ensures.value (c.in-Ok.ensures.one.0, c.in-Ok.ensures.one.2) c.in-Ok.ensures.ended
    c.in-Ok.ensures.accepted

pub returns-in-Err-Site-Refused-clause-told : goal.returns-in-Err-Site-Refused-clause-told
returns-in-Err-Site-Refused-clause-told g c =
    let refused = rw c.in-Err-Site-Refused.field-0-is at c.in-Err-Site-Refused.ensures.refused in
    let profile = c.profile.ensures ∙ ap (λ p. p.profile) c.party.ensures ∙ ap (λ (s : StoredState _). s.rp.profile) refused.0.is in
    registration_refused g.S.Store.view c.args.finish c.args.now c.args.site.now c.finish_registration_parts.new.self c.in-Err-Site-Refused.step
    c.refused_registration.result
    (registration_step g.S.Store.view c.args.finish c.args.now _ c.args.site.now c.finish_registration_parts.new.self _ c.in-Err-Site-Refused.field-0-0
    c.in-Err-Site-Refused.step _ c.verifier-verifier.ensures c.registration_parts-parts.ensures c.as_slice.ensures.value c.in-Err-Site-Refused.field-0-0-is refused.1)
    (subst (λ p. IsRefusedRegistration p c.in-Err-Site-Refused.step c.args.finish c.refused_registration.result) profile c.refused_registration.ensures)

pub returns-in-Err-Site-Refused-clause-kept : goal.returns-in-Err-Site-Refused-clause-kept
returns-in-Err-Site-Refused-clause-kept g c =
    let refused = rw c.in-Err-Site-Refused.field-0-is at c.in-Err-Site-Refused.ensures.refused in
    registration_left g.S.Store.view c.args.finish c.profile.result c.args.site.now c.finish_registration_parts.new.self c.in-Err-Site-Refused.step
    c.refused_registration.result refused.0 c.refused_registration.ensures

pub returns-in-Err-Site-Refused-clause-details : goal.returns-in-Err-Site-Refused-clause-details
returns-in-Err-Site-Refused-clause-details g c =
    registration_leaves g.S.Store.view c.args.finish c.profile.result (detail_view c.args.detail) c.args.site.now c.finish_registration_parts.new.self
    c.in-Err-Site-Refused.step c.refused_registration.result c.refused_registration.ensures

pub returns-in-Err-Site-Refused-clause-cause : goal.returns-in-Err-Site-Refused-clause-cause
returns-in-Err-Site-Refused-clause-cause g c = λ clean.
    refused_registration_fails _ c.profile.result c.in-Err-Site-Refused.step c.args.finish c.refused_registration.result c.refused_registration.ensures

pub returns-in-Err-Store-clause-cause : goal.returns-in-Err-Store-clause-cause
returns-in-Err-Store-clause-cause g c =
    store_fails g.S.Store.view g.S.Store.faults c.args.site.now c.finish_registration_parts.new.self _ _ _ c.in-Err-Store.field-0 c.in-Err-Store.why
    c.in-Err-Store.field-0-is c.in-Err-Store.ensures.cause
    (refuses_registered_as (g.S.Store.view c.args.site.now.store) c.args.site.now _ _ (detail_view c.args.detail) _ c.registration_parts-parts.ensures)
