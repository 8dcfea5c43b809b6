-- What is owed of `choice`.
use Rattle.ctap_open_replies.specs.ReplyView.{assertion_view}
use Rattle.ctap_open_replies.specs.declared.reply.KeyAssertion.{KeyAssertion}
use Rattle.std.proofs.Common.{List, None, Some, inl, inr, map, refl, slice_get, subst, ◌≡◌}
use Rattle.client_ceremony.proofs.assertions.choice.Goals as goal

pub returns-in-None : goal.returns-in-None
returns-in-None c =
    rw c.in-None.is (c.args.all, refl, refl)

pub returns-in-Some-assertion_at : goal.returns-in-Some-assertion_at
returns-in-Some-assertion_at c =
    rw c.in-Some.is (inl (c.in-Some-assertion_at.assertion, subst (λ (xs : List KeyAssertion). slice_get (map assertion_view xs) c.in-Some.chosen ≡ Some (assertion_view c.in-Some-assertion_at.assertion)) c.deref.ensures.value c.in-Some-assertion_at.ensures.found, refl))

pub returns : goal.returns
returns c =
    rw c.in-Some.is (inr (subst (λ (xs : List KeyAssertion). slice_get (map assertion_view xs) c.in-Some.chosen ≡ None) c.deref.ensures.value c.in-None-assertion_at.ensures.none, refl))
