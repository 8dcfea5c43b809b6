-- What is owed of `Authenticator::carry_out`.
use Rattle.std.proofs.Common.{[]}
use Rattle.authenticator.proofs.authenticator.Authenticator.carry_out.Goals as goal

pub returns-in-MakeCredential-clause-done : goal.returns-in-MakeCredential-clause-done
returns-in-MakeCredential-clause-done g c = λ public agrees. rw c.in-MakeCredential.is (c.begin_creation.ensures.done public agrees)

pub returns-in-GetAssertion-clause-done : goal.returns-in-GetAssertion-clause-done
returns-in-GetAssertion-clause-done g c = λ public agrees. rw c.in-GetAssertion.is (c.begin_assertion.ensures.done public)

pub returns-in-GetNextAssertion-clause-done : goal.returns-in-GetNextAssertion-clause-done
returns-in-GetNextAssertion-clause-done g c = λ public agrees. rw c.in-GetNextAssertion.is (c.begin_next.ensures.done public)

pub returns-in_ok-get_info-in-GetInfo-clause-done : goal.returns-in_ok-get_info-in-GetInfo-clause-done
returns-in_ok-get_info-in-GetInfo-clause-done g c = λ public agrees. rw c.in-GetInfo.is ([], [], c.in_ok-get_info-in-GetInfo.ensures.done)

pub returns-in_ok-reset-in-Reset-clause-done : goal.returns-in_ok-reset-in-Reset-clause-done
returns-in_ok-reset-in-Reset-clause-done g c = λ public agrees. rw c.in-Reset.is ([], [], c.in_ok-reset-in-Reset.ensures.done)
