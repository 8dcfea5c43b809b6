-- What is owed of `decode_all`.
use Rattle.std.proofs.Common.{sym, ap, ◌∙◌}
use Rattle.ccbor.specs.Viewing.{shown}
use Rattle.ccbor.proofs.Shows.{shown_is}
use Rattle.ccbor.proofs.reading.decode_all.Goals as goal

pub returns-clause-only : goal.returns-clause-only
returns-clause-only c = λ v canon. sym (c.in_ok-to_value.ensures ∙ ap shown c.in_ok-view.ensures.found.0 ∙ shown_is v c.args.bytes.now canon)
