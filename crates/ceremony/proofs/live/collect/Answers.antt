-- What is owed of `collect`.
use Rattle.ceremony.proofs.Feeding.{ended, ready}
use Rattle.ceremony.proofs.live.collect.Goals as goal

pub returns-in_default : goal.returns-in_default
returns-in_default c = record {
  channel = c.feed.follows.holds-at-none.0;
  got = c.feed.follows.holds-at-none.1;
  answer = λ ps g. ready c.args.collector.now.cid ps c.args.packet.now c.in-Ok.outcome c.in_default.not-More (c.in-Ok.ensures.answer ps g);
}

pub returns-in-Err-clause-answer : goal.returns-in-Err-clause-answer
returns-in-Err-clause-answer c = λ ps g. ended c.args.collector.now.cid ps c.args.packet.now c.in-Err.ended (c.in-Err.ensures.answer ps g)
