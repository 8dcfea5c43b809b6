-- What is owed of `finish_sign_in`.
use Rattle.std.proofs.Common.{inl}
use Rattle.std.specs.Prelude.{pos}
use Rattle.site_lines.proofs.Caused.{damaged_on, fails_after, refuses_signed_in_as, store_fails}
use Rattle.site_lines.proofs.Detailed.{sign_in_leaves}
use Rattle.site_lines.proofs.Finished.{sign_in_accepted, sign_in_left, sign_in_refused, sign_in_step}
use Rattle.site_lines.proofs.finishing.finish_sign_in.Goals as goal

pub returns-in-Ok-clause-told : goal.returns-in-Ok-clause-told
returns-in-Ok-clause-told g c =
    sign_in_accepted g.S.Store.view c.args.finish c.args.now _ c.args.site.now c.finish_parts.new.self _ c.in-Ok.signed_in _ c.verifier-verifier.ensures
    c.assertion_parts-parts.ensures c.as_slice.ensures.value (c.in-Ok.ensures.one.0, c.in-Ok.ensures.one.2) c.in-Ok.ensures.ended c.in-Ok.ensures.accepted

pub returns-in-Err-Site-Refused-clause-told : goal.returns-in-Err-Site-Refused-clause-told
returns-in-Err-Site-Refused-clause-told g c =
    let refused = rw c.in-Err-Site-Refused.field-0-is at c.in-Err-Site-Refused.ensures.refused in
    sign_in_refused g.S.Store.view c.args.finish c.args.now c.args.site.now c.finish_parts.new.self c.refused_sign_in.new.site c.in-Err-Site-Refused.step
    c.refused_sign_in.result refused.0
    (sign_in_step g.S.Store.view c.args.finish c.args.now _ c.args.site.now c.finish_parts.new.self _ c.in-Err-Site-Refused.field-0-0 c.in-Err-Site-Refused.step _
    c.verifier-verifier.ensures c.assertion_parts-parts.ensures c.as_slice.ensures.value c.in-Err-Site-Refused.field-0-0-is refused.1)
    c.refused_sign_in.ensures.told c.refused_sign_in.ensures.kept

pub returns-in-Err-Site-Refused-clause-kept : goal.returns-in-Err-Site-Refused-clause-kept
returns-in-Err-Site-Refused-clause-kept g c =
    let refused = rw c.in-Err-Site-Refused.field-0-is at c.in-Err-Site-Refused.ensures.refused in
    sign_in_left g.S.Store.view c.args.finish c.args.site.now c.finish_parts.new.self c.refused_sign_in.new.site c.in-Err-Site-Refused.step
    c.refused_sign_in.result c.requires.live refused.0 c.refused_sign_in.ensures.told c.refused_sign_in.ensures.kept

pub returns-in-Err-Site-Refused-clause-details : goal.returns-in-Err-Site-Refused-clause-details
returns-in-Err-Site-Refused-clause-details g c =
    sign_in_leaves g.S.Store.view c.args.finish c.args.now c.args.site.now c.finish_parts.new.self c.refused_sign_in.new.site c.in-Err-Site-Refused.step
    c.refused_sign_in.result c.refused_sign_in.ensures.told

pub returns-in-Err-Site-Refused-clause-cause : goal.returns-in-Err-Site-Refused-clause-cause
returns-in-Err-Site-Refused-clause-cause g c =
    let refused = rw c.in-Err-Site-Refused.field-0-is at c.in-Err-Site-Refused.ensures.refused in
    fails_after g.S.Store.view g.S.Store.faults c.args.site.now c.finish_parts.new.self c.refused_sign_in.new.site _ _ _ _ c.refused_sign_in.result
    c.refused_sign_in.ensures.quiet.clean c.in-Err-Site-Refused.ensures.quiet.counts (λ clean none. absurd none)
    (λ clean damage. inl (damaged_on g.S.Store.view c.args.site.now c.finish_parts.new.self refused.0 clean damage)) c.refused_sign_in.ensures.cause

pub returns-in-Err-Store-clause-cause : goal.returns-in-Err-Store-clause-cause
returns-in-Err-Store-clause-cause g c =
    store_fails g.S.Store.view g.S.Store.faults c.args.site.now c.finish_parts.new.self _ _ _ c.in-Err-Store.field-0 c.in-Err-Store.why c.in-Err-Store.field-0-is
    c.in-Err-Store.ensures.cause
    (refuses_signed_in_as (g.S.Store.view c.args.site.now.store) c.args.site.now.rp.profile _ _ (pos c.args.now) _ c.assertion_parts-parts.ensures)
