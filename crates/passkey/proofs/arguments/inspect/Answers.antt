-- What is owed of `inspect`.
use Rattle.std.proofs.Common.{codes}
use Rattle.clap.specs.Words.{new_app}
use Rattle.passkey.specs.Private.{chosen}
use Rattle.passkey.proofs.Adding.{added_of}
use Rattle.passkey.proofs.arguments.inspect.Goals as goal

pub returns : goal.returns
returns c =
    added_of (new_app (codes "inspect")) (chosen (codes "kind")) c.plain-parser.result c.choice-kind.result c.arg.result
    c.plain-parser.ensures c.choice-kind.ensures.rule c.choice-kind.ensures.local c.arg.ensures
