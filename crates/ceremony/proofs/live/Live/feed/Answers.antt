-- What is owed of `Live::feed`.
use Rattle.std.proofs.Common.{◌+◌, ◌++◌, [], ◌∷◌, List, sym, subst}
use Rattle.hidframe.specs.declared.Packet.{Packet}
use Rattle.ceremony.specs.Packets.{LiveState, HasGot}
use Rattle.ceremony.proofs.Taken.{got_on, got_still}
use Rattle.ceremony.proofs.live.Live.feed.Goals as goal

still : (c : goal.In-Err) (ps : List Packet)
    → HasGot (record { cid = c.self.inside.collector.cid; shown = c.self.inside.collector.shown; taken = c.self.inside.taken }) ps
    → HasGot (record { cid = c.collect.new.collector.cid; shown = c.collect.new.collector.shown; taken = c.self.inside.taken }) (ps ++ c.args.packet.now ∷ [])
still c ps g = got_still c.self.inside.collector.cid c.collect.new.collector.cid c.self.inside.taken c.self.inside.collector.shown c.collect.new.collector.shown
    ps c.args.packet.now g
    c.collect.ensures.channel (c.collect.ensures.got ps g.got) ((c.in-Err.ensures.answer ps g.got).ended.0 tt)

further : (c : goal.After-self-1) (ps : List Packet)
    → HasGot (record { cid = c.self.inside.collector.cid; shown = c.self.inside.collector.shown; taken = c.self.inside.taken }) ps
    → HasGot (record { cid = c.collect.new.collector.cid; shown = c.collect.new.collector.shown; taken = c.self.inside.taken + 1 })
    (ps ++ c.args.packet.now ∷ [])
further c ps g = got_on c.self.inside.collector.cid c.collect.new.collector.cid c.self.inside.taken c.self.inside.collector.shown c.collect.new.collector.shown
    ps c.args.packet.now g
    c.collect.ensures.channel (c.collect.ensures.got ps g.got) (λ e. (c.in-Ok.ensures.answer ps g.got).ended.1 e)

pub invariant_of-self : goal.invariant_of-self
invariant_of-self c = (c.self.invariant.0 ++ c.args.packet.now ∷ [], still c c.self.invariant.0 c.self.invariant.1)

pub returns-in-Err-clause-got : goal.returns-in-Err-clause-got
returns-in-Err-clause-got c = λ ps g. still c ps (subst (λ (k : LiveState). HasGot k ps) (sym c.self.view_is) g)

pub invariant_of-self-2 : goal.invariant_of-self-2
invariant_of-self-2 c = (c.self.invariant.0 ++ c.args.packet.now ∷ [], further c c.self.invariant.0 c.self.invariant.1)

pub returns-clause-got : goal.returns-clause-got
returns-clause-got c = λ ps g. further c ps (subst (λ (k : LiveState). HasGot k ps) (sym c.self.view_is) g)
