-- What is owed of `pass_over`.
use Rattle.std.proofs.Common.{◌≡◌, ◌∷◌, None, ◌∙◌, sym, ap, arith, rules}
use Rattle.std.proofs.lemmas.List.{nil_from_length}
use Rattle.json.specs.Reads.{token_of}
use Rattle.clientdata.specs.Passing.{all_closed, passed}
use Rattle.clientdata.proofs.Around.{all_closed-nothing, resumed-alone}
use Rattle.clientdata.proofs.passing.pass_over.Goals as goal

pub returns-in_err-begin-clause-left : goal.returns-in_err-begin-clause-left
returns-in_err-begin-clause-left c =
    let none : passed c.args.depth (token_of c.args.token ∷ c.args.reader.now) ≡ None =
    sym (resumed-alone c.args.depth _ _ c.none-around.ensures) ∙ c.in_err-begin.ensures.left c.args.reader.now in
    search rules

pub loop-around-init : goal.loop-around-init
loop-around-init c = record {
  within = c.in_ok-begin.ensures.within;
  left = sym (resumed-alone c.args.depth _ _ c.none-around.ensures) ∙ c.in_ok-begin.ensures.left c.args.reader.now;
  shorter = omega arith;
}

pub returns-clause-left : goal.returns-clause-left
returns-clause-left c =
    let closed = nil_from_length c.loop-around.around (omega arith) in
    c.loop-around.invariant.left ∙ ap (λ kinds. all_closed c.args.depth kinds c.loop-around.reader) closed ∙ all_closed-nothing c.args.depth c.loop-around.reader
