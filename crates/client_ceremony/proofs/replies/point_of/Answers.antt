-- What is owed of `point_of`.
use Rattle.pin_client_messages.specs.ReplyView.{key_view}
use Rattle.std.proofs.Common.{ap, inl, inr, refl}
use Rattle.std.specs.Prelude.{option_map}
use Rattle.client_ceremony.proofs.replies.point_of.Goals as goal

pub returns-in-None-clause-none : goal.returns-in-None-clause-none
returns-in-None-clause-none c =
    inl (ap (option_map key_view) c.in-None.is, refl)

pub returns-in-Some-point-clause-point : goal.returns-in-Some-point-clause-point
returns-in-Some-point-clause-point c =
    (key_view c.in-Some.key, ap (option_map key_view) c.in-Some.is, c.in-Some-point.ensures.found.1, c.in-Some-point.ensures.found.0)

pub returns-in-None-point-clause-none : goal.returns-in-None-point-clause-none
returns-in-None-point-clause-none c =
    inr (key_view c.in-Some.key, ap (option_map key_view) c.in-Some.is, c.in-None-point.ensures.none, refl)
