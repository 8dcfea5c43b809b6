-- What the loop of `texts` keeps.
use Rattle.std.proofs.Common.{◌≡◌, map, take}
use Rattle.std.specs.Str.{IsUtf8}
use Rattle.refusal_order.specs.Lines.{Each}
use Rattle.passkey_c.specs.Parts.{lent}
use Rattle.passkey_c.proofs.input.texts.Given as goal

abbrev pub invariant-loop-part : goal.invariant-loop-part
invariant-loop-part l = record {
  same : map (λ text. text.now) l.texts.items ≡ lent (take l.part-index l.parts);
  kept : Each (λ part. IsUtf8 part.bytes.now) (take l.part-index l.parts);
}
