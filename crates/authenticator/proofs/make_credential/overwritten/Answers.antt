-- What is owed of `overwritten`.
use Rattle.std.proofs.Common.{sym, ◌∙◌}
use Rattle.ctap_requests.specs.RequestView.{creation_view}
use Rattle.authenticator.proofs.Store.{kept_is}
use Rattle.authenticator.proofs.make_credential.overwritten.Goals as goal

pub returns : goal.returns
returns c =
    kept_is c.args.credentials.now (creation_view c.args.request.now) c.resident_place.result
    (sym c.requires ∙ c.if-not-resident.false)
    (rw (c.as_str.ensures.value, c.deref.ensures.value) at c.resident_place.ensures)
