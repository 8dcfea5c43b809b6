-- What is owed of `text_at`.
use Rattle.std.proofs.Common.{◌∙◌, string_bytes}
use Rattle.ccbor.proofs.Leaves.{text_is, text_is_none}
use Rattle.ccbor.proofs.Views.{view-Text}
use Rattle.ccbor.proofs.leaf.text_at.Goals as goal

pub returns-in_ok-from_str-in-Ok : goal.returns-in_ok-from_str-in-Ok
returns-in_ok-from_str-in-Ok c =
    let seen = view-Text c.in_ok-from_str-in-Ok.field-0 in
    rw seen (text_is c.args.count c.args.rest.now c.in_ok-content.content.now c.in_ok-content.rest.now (string_bytes c.in_ok-from_str-in-Ok.field-0)
    c.in_ok-content.ensures c.in-Ok.ensures.cases.1 (c.in_ok-from_str-in-Ok.ensures.ok ∙ c.in-Ok.ensures.cases.0))

pub returns-in-Err : goal.returns-in-Err
returns-in-Err c = text_is_none c.args.count c.args.rest.now c.in_ok-content.content.now c.in_ok-content.rest.now c.in_ok-content.ensures
    c.in-Err.ensures.cases.0
