-- What is owed of `packed_signature_view`.
use Rattle.std.proofs.Common.{sym, ◌∙◌, ap}
use Rattle.ccbor.specs.Access.{is_same_key}
use Rattle.ccbor.specs.Item.{nint}
use Rattle.ccbor.specs.Viewing.{shown}
use Rattle.authdata.proofs.Statements.{packed_is}
use Rattle.authdata.proofs.statement.packed_signature_view.Goals as goal

pub returns-then-is_end : goal.returns-then-is_end
returns-then-is_end c = packed_is _ _ _ _ _ _ _ _
    (sym c.in_ok-members.ensures) (sym c.in_ok-number.ensures) (sym c.in_ok-sig.ensures)
    (ap (λ n. is_same_key (shown c.in_ok-number.number) (nint n)) (sym c.argument.ensures) ∙ sym c.is_key.ensures ∙ c.if-is_key.true)
    (sym c.is_end.ensures ∙ c.if-is_end.true) c.as_bytes.ensures
