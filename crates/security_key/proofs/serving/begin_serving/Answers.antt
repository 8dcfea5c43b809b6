-- What is owed of `begin_serving`.
use Rattle.security_key.proofs.Acting.{sent, sent_keeps}
use Rattle.security_key.proofs.serving.begin_serving.Goals as goal

pub returns-clause-begun : goal.returns-clause-begun
returns-clause-begun g c = λ public agrees.
    sent public c.args.device.now c.act_on.new.device c.drain.new.device c.args.authenticator.now
    c.act_on.new.authenticator c.args.act c.args.out.now.items c.reserve.new.self.items c.drain.new.out.items c.in_ok-served.served
    (c.in_ok-served.ensures.acted public agrees) c.requires c.drain.ensures.device c.in_ok-reserve.ensures.items c.drain.ensures.out

pub returns-clause-goes_on : goal.returns-clause-goes_on
returns-clause-goes_on g c =
    sent_keeps c.args.device.now c.act_on.new.device c.drain.new.device c.args.authenticator.now c.act_on.new.authenticator
    c.drain.ensures.device c.in_ok-served.ensures.keeps
