-- What is owed of `act_on`.
use Rattle.std.proofs.Common.{refl}
use Rattle.authenticator.specs.Signing.{no_signature}
use Rattle.security_key.proofs.Acting.{decided, expired, if_ok, took, waited}
use Rattle.security_key.proofs.serving.act_on.Goals as goal

pub returns-in-Packet-clause-acted : goal.returns-in-Packet-clause-acted
returns-in-Packet-clause-acted g c = λ public agrees.
    rw c.in-Packet.is (
      c.take.ensures.told,
      took no_signature public c.args.device.now c.take.new.device c.args.authenticator.now c.in-Packet.packet c.take.ensures.takes,
    )

pub returns-in-Decide-clause-acted : goal.returns-in-Decide-clause-acted
returns-in-Decide-clause-acted g c = λ public agrees.
    rw c.in-Decide.is (if_ok c.decide.result
    (λ x d. decided public c.args.device.now c.decide.new.device c.args.authenticator.now c.decide.new.authenticator c.in-Decide.consent c.in-Decide.words x d)
    (c.decide.ensures.decided public (rw c.in-Decide.is at agrees)))

pub returns-in_ok-wait-in-Wait-clause-acted : goal.returns-in_ok-wait-in-Wait-clause-acted
returns-in_ok-wait-in-Wait-clause-acted g c = λ public agrees.
    let d = c.in_ok-wait-in-Wait.ensures.waits in
    rw c.in-Wait.is (refl, waited no_signature public c.args.device.now c.wait.new.device c.args.authenticator.now d.0 d.1)

pub returns-in-Expire-clause-acted : goal.returns-in-Expire-clause-acted
returns-in-Expire-clause-acted g c = λ public agrees.
    rw c.in-Expire.is (refl, expired no_signature public c.args.device.now c.expire.new.device c.args.authenticator.now c.expire.ensures.moves)

pub returns-in-Packet-clause-keeps : goal.returns-in-Packet-clause-keeps
returns-in-Packet-clause-keeps g c = c.take.ensures.keeps c.args.authenticator.now

pub returns-in-Expire-clause-keeps : goal.returns-in-Expire-clause-keeps
returns-in-Expire-clause-keeps g c = c.expire.ensures.keeps c.args.authenticator.now
