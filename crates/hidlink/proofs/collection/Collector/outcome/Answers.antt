-- What is owed of `Collector::outcome`.
use Rattle.hidlink.proofs.Exactly.{outcome_gives}
use Rattle.hidlink.proofs.collection.Collector.outcome.Goals as goal

pub returns : goal.returns
returns c = λ ps g. outcome_gives c.args.self.now.cid ps c.args.self.now.shown c.shown.result c.shown.ensures g
