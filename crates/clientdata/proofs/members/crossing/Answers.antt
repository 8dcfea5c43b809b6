-- What is owed of `crossing`.
use Rattle.std.proofs.Common.{◌≡◌, None, ◌∙◌, sym, ap, rules}
use Rattle.json.specs.Reads.{token_of}
use Rattle.clientdata.specs.Passing.{value_at}
use Rattle.clientdata.specs.Found.{crossing_by}
use Rattle.clientdata.specs.Reading.{truth_crossing}
use Rattle.clientdata.proofs.Firsts.{there, not_there, nothing_there}
use Rattle.clientdata.proofs.members.crossing.Goals as goal

pub returns-in_default-clause-value : goal.returns-in_default-clause-value
returns-in_default-clause-value c = nothing_there _ _ c.in_default.ensures.value.0

pub returns-in_err-pass_over-clause-value : goal.returns-in_err-pass_over-clause-value
returns-in_err-pass_over-clause-value c =
    let none : value_at c.args.depth c.args.reader.now ≡ None = not_there _ _ _ c.in-Some.ensures.value c.in_err-pass_over.ensures.left in
    search rules

pub returns-clause-value : goal.returns-clause-value
returns-clause-value c = there crossing_by _ c.args.depth (token_of c.in-Some.token) _ _ _ c.in-Some.ensures.value c.in_ok-pass_over.ensures.left (λ d by. c.crossing_of.ensures ∙ ap truth_crossing (c.truth_of-truth.ensures ∙ sym by.truth))
