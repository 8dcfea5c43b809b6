-- What is owed of `self_asks`.
use Rattle.std.proofs.Common.{refl}
use Rattle.authdata.specs.Objects.{lent_object_view}
use Rattle.authdata.specs.Responses.{registration_response_view}
use Rattle.cose.specs.Keys.{lent_key_view}
use Rattle.site_acts.proofs.Asked.{lent_asks}
use Rattle.site_acts.proofs.asking.self_asks.Goals as goal

pub returns : goal.returns
returns c =
    lent_asks c.args.profile (registration_response_view c.args.response.now) (lent_object_view c.args.object.now) (lent_key_view c.in-Some.key)
    c.in_ok-of_response.field-0 _ _ _ c.in-Some-self_signature.signature.now
    c.requires refl refl c.as_slice.ensures.value c.in-Some.ensures c.in-Some-self_signature.ensures
    c.in_ok-of_response.ensures.key c.in_ok-of_response.ensures.message c.in_ok-of_response.ensures.signature
