-- What is owed of `creation_request`.
use Rattle.std.proofs.Common.{◌∷◌, refl}
use Rattle.ccbor.specs.Viewing.{shown}
use Rattle.ctap_requests.specs.RequestView.{creation_view}
use Rattle.ctap_requests.specs.Status.{not_canonical}
use Rattle.ctap_requests.proofs.Laws.{creation_is, creation_faulty}
use Rattle.ctap_requests.proofs.Ranks.{applies_first, refused_by}
use Rattle.ctap_requests.proofs.reading.creation_request.Goals as goal

pub returns-in-Err-clause-refused : goal.returns-in-Err-clause-refused
returns-in-Err-clause-refused c =
    rw c.in-Err.ensures.errors (not_canonical, applies_first (1 ∷ c.args.rest.now) not_canonical (refl, c.in-Err.ensures.none), refl)

pub refusal-requires : goal.refusal-requires
refusal-requires c = creation_faulty (shown c.in-Ok.value) c.args.rest.now c.in-Ok.ensures.found (rw c.in-Err-Shape.field-0-is at c.in-Err-Shape.ensures)

pub returns-in-Ok-creation-clause-found : goal.returns-in-Ok-creation-clause-found
returns-in-Ok-creation-clause-found c =
    creation_is (shown c.in-Ok.value) c.args.rest.now c.in-Ok.ensures.found (creation_view c.in-Ok-creation.request) c.in-Ok-creation.ensures

pub returns-in-Err-Shape-clause-refused : goal.returns-in-Err-Shape-clause-refused
returns-in-Err-Shape-clause-refused c = refused_by 1 c.args.rest.now (shown c.in-Ok.value) refl c.in-Ok.ensures.found c.refusal.result c.refusal.ensures
