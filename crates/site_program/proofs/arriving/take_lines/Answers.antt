-- What is owed of `take_lines`.
use Rattle.site_program.proofs.Words.{words_then}
use Rattle.site_program.proofs.arriving.take_lines.Goals as goal

pub returns-then-not-branch-2 : goal.returns-then-not-branch-2
returns-then-not-branch-2 g c =
    let more = c.in_ok-take_ready.ensures in
    record {
      words = words_then (g.W.Read.remaining c.args.random.now) (g.W.Read.remaining c.loop.random) (g.W.Read.remaining c.take_ready.new.random)
          c.loop.arrived.items more.0 c.take_ready.new.arrived.items more.1 c.loop.invariant more.2;
    }

pub loop-preserved : goal.loop-preserved
loop-preserved g c =
    let more = c.in_ok-take_ready.ensures in
    words_then (g.W.Read.remaining c.args.random.now) (g.W.Read.remaining c.loop.random) (g.W.Read.remaining c.take_ready.new.random)
    c.loop.arrived.items more.0 c.take_ready.new.arrived.items more.1 c.loop.invariant more.2
