-- What is owed of `several`.
use Rattle.client_ceremony.proofs.Gathering.{chosen_several, next_several, there}
use Rattle.client_ceremony.proofs.Stages.{ends, or_more}
use Rattle.client_ceremony.specs.Facts.{facts}
use Rattle.client_ceremony.specs.Pieces.{so}
use Rattle.ctap_open_replies.specs.ReplyView.{assertion_view}
use Rattle.std.proofs.Common.{Global, Vec, arith, inl, length, map, ℕ, ◌-◌, ◌<◌}
use Rattle.std.proofs.lemmas.List.{length-map}
use Rattle.client_ceremony.specs.declared.halt.Halt.TheVariants as halts
use Rattle.client_ceremony.proofs.assertions.several.Goals as goal

pub returns-in-Ok-bare : goal.returns-in-Ok-bare
returns-in-Ok-bare c =
    let fewer : length c.next_replies-replies.result.now < c.args.count - 1 = omega (arith, c.next_replies-replies.ensures.few) in
    so (next_several (facts c.args.known.now) c.args.place c.args.count (length c.next_replies-replies.result.now) (assertion_view c.args.first) (map (λ (v : Vec ℕ Global). v.items) c.next_replies-replies.result.now) c.next_replies-replies.ensures.these c.requires.count (length-map c.next_replies-replies.result.now (λ (v : Vec ℕ Global). v.items)) c.in-Ok.ensures.all.0 c.in-Ok.ensures.all.1 fewer c.in-Ok-bare.message c.in-Ok-bare.ensures)

pub returns-in-Err : goal.returns-in-Err
returns-in-Err c =
    or_more (λ e. there (facts c.args.known.now) c.args.place c.args.count (length c.next_replies-replies.result.now) (assertion_view c.args.first) (map (λ (v : Vec ℕ Global). v.items) c.next_replies-replies.result.now) c.next_replies-replies.ensures.these c.requires.count (length-map c.next_replies-replies.result.now (λ (v : Vec ℕ Global). v.items)) (halts.Refuses c.in-Err.refusal) (inl e)) (ends c.in-Err.ensures.untold)

pub returns-then-replies-count : goal.returns-then-replies-count
returns-then-replies-count c =
    so (chosen_several (facts c.args.known.now) c.args.place c.args.count (length c.next_replies-replies.result.now) (assertion_view c.args.first) (map (λ (v : Vec ℕ Global). v.items) c.next_replies-replies.result.now) c.next_replies-replies.ensures.these c.requires.count (length-map c.next_replies-replies.result.now (λ (v : Vec ℕ Global). v.items)) c.in-Ok.ensures.all.0 (map assertion_view c.in-Ok.all.items) c.in-Ok.ensures.all.1 c.in-Ok.ensures.all.2 c.if-replies-count.true c.choice.result c.choice.ensures)
