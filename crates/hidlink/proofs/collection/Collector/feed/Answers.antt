-- What is owed of `Collector::feed`.
use Rattle.std.proofs.Common.{refl, sym, ◌∙◌, ap}
use Rattle.std.proofs.lemmas.Bool.{true≢false}
use Rattle.hidlink.proofs.Exactly.{got_taken, answers-err, answers-ok}
use Rattle.hidlink.proofs.collection.Collector.feed.Goals as goal

pub returns-then-ended : goal.returns-then-ended
returns-then-ended c = (
  (refl, λ _. tt, got_taken c.args.self.now c.take.new.self c.args.packet.now c.take.ensures.whole c.take.ensures.shown),
  record {
    after = tt;
    answer = λ ps g. answers-err c.args.self.now.cid ps c.args.packet.now c.args.self.now.shown _
        (c.is_ended-ended.ensures.0 c.if-ended.true) g;
  },
)

pub returns : goal.returns
returns c = (
  (refl, λ _. tt, got_taken c.args.self.now c.take.new.self c.args.packet.now c.take.ensures.whole c.take.ensures.shown),
  record {
    after = tt;
    answer = λ ps g. answers-ok c.args.self.now.cid ps c.args.packet.now c.args.self.now.shown c.take.new.self.shown c.shown.result c.take.ensures.whole
        (λ e. true≢false (sym (c.is_ended-ended.ensures.1 e) ∙ c.if-ended.false)) (ap (λ k. k.shown) c.take.ensures.shown) c.shown.ensures g;
  },
)
