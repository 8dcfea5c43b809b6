-- What is owed of `push_quoted`.
use Rattle.std.proofs.Common.{string_bytes, sym, ◌∙◌, arith, map-id}
use Rattle.std.proofs.lemmas.Grind.{common_steps}
use Rattle.std.proofs.lemmas.Iterator.{YieldsList-from_chars}
use Rattle.std.proofs.lemmas.Iterator.Consumers.{YieldsList-end}
use Rattle.clientdata.proofs.Quotes.{quoted_ends}
use Rattle.clientdata.proofs.quoting.push_quoted.Goals as goal

pub returns : goal.returns
returns c =
    let end = YieldsList-end (YieldsList-from_chars c.args.inner.now c.utf8.inner cc) c.loop-c.yielded _ c.loop-c.yielded_by _ _ c.in-None.is
    c.next.ensures.steps in
    let whole = quoted_ends (string_bytes c.args.text.now) (string_bytes c.loop-c.text) c.args.inner.now c.loop-c.yielded c.loop-c.invariant
    (sym (map-id c.loop-c.yielded) ∙ end.0) in
    grind (arith, common_steps, whole)
