-- What is owed of `subidentifiers`.
use Rattle.std.proofs.Common.{true, sym, ◌∙◌}
use Rattle.der.specs.Reading.{subidentifiers_in}
use Rattle.der.proofs.ObjectIdentifiers.{stops, continues, ended, ended_within}
use Rattle.der.proofs.identifiers.subidentifiers.Goals as goal

pub returns-then-padding : goal.returns-then-padding
returns-then-padding c =
    let l = c.loop-octet in
    stops l.begins c.args.content.now l.octet-index (subidentifiers_in true c.args.content.now) c.loop-octet-test.true
    (sym c.is_padding-padding.ensures ∙ c.if-padding.true) l.invariant

pub loop-octet-preserved : goal.loop-octet-preserved
loop-octet-preserved c =
    let l = c.loop-octet in
    continues l.begins c.args.content.now l.octet-index (subidentifiers_in true c.args.content.now) c.loop-octet-test.true
    (sym c.is_padding-padding.ensures ∙ c.if-padding.false) l.invariant

pub returns-then-begins : goal.returns-then-begins
returns-then-begins c =
    let l = c.loop-octet in
    ended l.begins c.args.content.now l.octet-index (subidentifiers_in true c.args.content.now) c.loop-octet-test.false c.if-begins.true l.invariant

pub returns-else-begins : goal.returns-else-begins
returns-else-begins c =
    let l = c.loop-octet in
    ended_within l.begins c.args.content.now l.octet-index (subidentifiers_in true c.args.content.now) c.loop-octet-test.false c.if-begins.false l.invariant
