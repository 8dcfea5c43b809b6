-- What is owed of `open_registration`.
use Rattle.std.proofs.Common.{◌≡◌, ap, None, subst, sym}
use Rattle.site_rows.specs.Endings.{HoldsEndings}
use Rattle.verification.specs.Views.{registration_view}
use Rattle.site_stored.specs.Private.{IsOpenIn}
use Rattle.site_stored.specs.Sessions.{IsCutOff}
use Rattle.site_stored.proofs.OpenRegistrations.{cut_off, none_open}
use Rattle.site_stored.proofs.registration.open_registration.Goals as goal

pub returns-in_default-clause-session : goal.returns-in_default-clause-session
returns-in_default-clause-session g c = λ clean ended users h k.
    let nothing : c.in_ok-given.given ≡ None = cc in
    none_open c.args.key.now c.args.party.now.rp_id c.args.next ended users c.args.now c.args.text.now c.in_ok-given.given nothing
    (c.in_ok-given.ensures.session clean ended h)

pub returns-then-branch-clause-session : goal.returns-then-branch-clause-session
returns-then-branch-clause-session g c = λ clean ended users h k.
    let mid = c.in_ok-is_cut_off.ensures.reads.quiet.clean clean in
    let told = c.in_ok-is_cut_off.ensures.told clean users
    (subst (HoldsEndings 9 users) (sym (ap (λ v. v.trees) (c.in_ok-given.ensures.reads.same.0.view mid))) k) in
    cut_off c.args.key.now c.args.party.now.rp_id c.args.next ended users c.args.now c.args.text.now c.in_ok-given.given c.in-Some.given
    (registration_view c.in-Some-registration_of.expected.now) c.requires.next c.in-Some.is (c.in_ok-given.ensures.session mid ended h)
    c.in-Some-registration_of.ensures.some
    (subst (IsCutOff c.args.key.now users c.in-Some.given.number) c.deref.ensures.value (told.0 c.if-branch.true))

pub returns-clause-opened : goal.returns-clause-opened
returns-clause-opened g c = λ clean ended h.
    let mid = c.in_ok-is_cut_off.ensures.reads.quiet.clean clean in
    subst (IsOpenIn c.args.key.now c.args.party.now.rp_id c.args.next ended c.args.now c.args.text.now) c.in-Some.is
    (c.in_ok-given.ensures.session mid ended h)
