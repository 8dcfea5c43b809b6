-- What is owed of `Authenticator::load`.
use Rattle.std.proofs.Common.{◌∙◌, length, Err, sym, ap, inl, inr}
use Rattle.std.proofs.lemmas.Result.{err_from_is_err_and}
use Rattle.std.proofs.Math.Seq.{take-length}
use Rattle.ccbor.specs.Viewing.{shown}
use Rattle.authenticator.specs.Private.{members_shown}
use Rattle.authenticator.specs.Saved.{authenticator_item}
use Rattle.authenticator.specs.Views.{credential_sources_view}
use Rattle.authenticator.specs.declared.error.LoadError.TheVariants as errors
use Rattle.authenticator.proofs.SavedMaps.{loaded, no_members, no_sources, same_error}
use Rattle.authenticator.proofs.authenticator.Authenticator.load.Goals as goal

pub returns-in_default-clause-bad : goal.returns-in_default-clause-bad
returns-in_default-clause-bad c = λ _ a sound saved.
    let h = c.in_default.ensures in
    elim h.errors [
      | inl p ↦ h.none (ap Err p) (authenticator_item a) (length c.args.bytes.now) (saved.spelled.0, take-length c.args.bytes.now ∙ saved.spelled.1)
      | inr p ↦ h.front (ap Err p) (authenticator_item a) saved.spelled
    ]

pub returns-in_default-members-clause-bad : goal.returns-in_default-members-clause-bad
returns-in_default-members-clause-bad c = λ _ a sound saved.
    let none = c.in_default-members.is in
    no_members c.args.bytes.now (shown c.in-Ok.value) c.in-Ok.ensures.found.1 (sym (rw none at c.members.ensures)) a saved

pub returns-in_err-credentials-clause-bad : goal.returns-in_err-credentials-clause-bad
returns-in_err-credentials-clause-bad c = λ e a sound saved.
    let p = err_from_is_err_and c.from_residual.result c.from_residual.ensures.1 in
    let bad = same_error c.from_residual.result p.0 c.in_err-credentials.field-0.0 errors.BadAuthenticator p.1 p.2 e in
    no_sources c.args.bytes.now (shown c.in-Ok.value) c.in-Ok.ensures.found.1 (members_shown c.in-Some.found) (sym c.in-Some.ensures)
    (c.in_err-credentials.ensures.none (ap Err bad)) a sound saved

pub returns-clause-loaded : goal.returns-clause-loaded
returns-clause-loaded c =
    loaded c.args.bytes.now (shown c.in-Ok.value) c.in-Ok.ensures.found.1 (members_shown c.in-Some.found) (sym c.in-Some.ensures)
    c.attestation.result c.attestation.ensures (credential_sources_view c.in_ok-credentials.credentials.items)
    c.in_ok-credentials.ensures.read.0 c.in_ok-credentials.ensures.read.1
