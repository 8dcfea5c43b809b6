-- What is owed of `after_key`.
use Rattle.std.proofs.Common.{◌≡◌, false, refl, sym, ◌∙◌}
use Rattle.ccbor.specs.Reading.{head_at, begins_key, key_at}
use Rattle.ccbor.proofs.Walks.{no_head, key_passed}
use Rattle.ccbor.proofs.passing.after_key.Goals as goal

pub returns-in_default : goal.returns-in_default
unfolding key_at
returns-in_default c = rw (no_head c.in_default.field-0 (head_at c.args.bytes.now) c.in_default.ensures) refl

pub returns-then-not-begins_key : goal.returns-then-not-begins_key
unfolding key_at
returns-then-not-begins_key c =
    let other : begins_key c.in-Ok.head.major ≡ false = sym c.begins_key.ensures ∙ c.if-not-begins_key.true in
    rw (c.in-Ok.ensures, other) refl

pub returns-in_err-rest : goal.returns-in_err-rest
returns-in_err-rest c =
    let h = c.in-Ok in
    rw (
      c.from_residual.ensures,
      key_passed c.args.known c.args.bytes.now h.head.major h.head.argument h.rest.now h.ensures (sym c.begins_key.ensures
          ∙ c.if-not-begins_key.false),
      ← c.in_err-rest.ensures,
    ) refl

pub returns : goal.returns
returns c =
    let h = c.in-Ok in
    rw (
      key_passed c.args.known c.args.bytes.now h.head.major h.head.argument h.rest.now h.ensures (sym c.begins_key.ensures ∙ c.if-not-begins_key.false),
      ← c.in_ok-rest.ensures,
      c.span_before.ensures,
    ) refl
