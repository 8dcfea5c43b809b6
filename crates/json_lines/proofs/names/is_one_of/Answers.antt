-- What is owed of `is_one_of`.
use Rattle.std.proofs.Common.{rules}
use Rattle.json_lines.proofs.OneOf.{none_more, one_at}
use Rattle.json_lines.proofs.names.is_one_of.Goals as goal

pub returns-then-is_same : goal.returns-then-is_same
returns-then-is_same c = (λ yes. one_at c.args.names.now c.loop-one.one-index _ c.args.name.now (search rules) (c.is_same.ensures.0 c.if-is_same.true), λ there. search rules)

pub loop-one-preserved : goal.loop-one-preserved
loop-one-preserved c = none_more c.args.names.now c.loop-one.one-index _ c.args.name.now (search rules) c.loop-one.invariant (λ same. search (rules, c.is_same.ensures.1 same))
