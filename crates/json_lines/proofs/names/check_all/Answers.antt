-- What is owed of `check_all`.
use Rattle.std.proofs.Common.{refl, rules}
use Rattle.std.specs.Prelude.{string_bytes}
use Rattle.std.specs.Map.Iter.{deref_pair}
use Rattle.std.proofs.lemmas.Map.Iter.{iter_end, iter_turn}
use Rattle.json_lines.proofs.Named.{all_named, name_there}
use Rattle.json_lines.proofs.names.check_all.Goals as goal

pub returns-then-not-takes-clause-unknown : goal.returns-then-not-takes-clause-unknown
returns-then-not-takes-clause-unknown c =
    let turn = iter_turn deref_pair c.args.members.now.entries c.loop-name.yielded c.into_iter-name-iterator.result c.loop-name.name-iterator c.next.new.self c.next.result (search rules) c.loop-name.yielded_by (c.in-Some.name, c.in-Some.field-0-1) c.in-Some.is c.next.ensures.steps in
    (refl, (string_bytes c.in-Some.name.now, name_there c.args.members.now.entries _ (c.in-Some.name.now, c.in-Some.field-0-1.now) turn.1, search rules))

pub returns-clause-taken : goal.returns-clause-taken
returns-clause-taken c =
    let end = iter_end deref_pair c.args.members.now.entries c.loop-name.yielded c.into_iter-name-iterator.result c.loop-name.name-iterator c.next.new.self c.next.result (search rules) c.loop-name.yielded_by (search rules) c.next.ensures.steps in
    all_named _ c.loop-name.yielded c.args.members.now.entries end.0 c.loop-name.invariant
