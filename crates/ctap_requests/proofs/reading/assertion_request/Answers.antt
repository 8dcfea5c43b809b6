-- What is owed of `assertion_request`.
use Rattle.std.proofs.Common.{◌∷◌, refl}
use Rattle.ccbor.specs.Viewing.{shown}
use Rattle.ctap_requests.specs.RequestView.{lent_get_assertion_view}
use Rattle.ctap_requests.specs.Status.{not_canonical}
use Rattle.ctap_requests.proofs.Laws.{assertion_is, assertion_faulty}
use Rattle.ctap_requests.proofs.Ranks.{applies_first, refused_by}
use Rattle.ctap_requests.proofs.reading.assertion_request.Goals as goal

pub returns-in-Err-clause-refused : goal.returns-in-Err-clause-refused
returns-in-Err-clause-refused c =
    rw c.in-Err.ensures.errors (not_canonical, applies_first (2 ∷ c.args.rest.now) not_canonical (refl, c.in-Err.ensures.none), refl)

pub refusal-requires : goal.refusal-requires
refusal-requires c = assertion_faulty (shown c.in-Ok.value) c.args.rest.now c.in-Ok.ensures.found (rw c.in-Err-Shape.field-0-is at c.in-Err-Shape.ensures)

pub returns-in-Ok-assertion-clause-found : goal.returns-in-Ok-assertion-clause-found
returns-in-Ok-assertion-clause-found c =
    assertion_is (shown c.in-Ok.value) c.args.rest.now c.in-Ok.ensures.found (lent_get_assertion_view c.in-Ok-assertion.request) c.in-Ok-assertion.ensures

pub returns-in-Err-Shape-clause-refused : goal.returns-in-Err-Shape-clause-refused
returns-in-Err-Shape-clause-refused c = refused_by 2 c.args.rest.now (shown c.in-Ok.value) refl c.in-Ok.ensures.found c.refusal.result c.refusal.ensures
