-- What is owed of `tell_hex`.
use Rattle.std.proofs.Common.{◌≡◌, ◌++◌, ◌+◌, ◌∷◌, [], take, get_or, sym, ap, ◌∙◌}
use Rattle.std.proofs.lemmas.List.{append-nil, append_assoc, take_more}
use Rattle.hex.specs.Hex.{encode_lower}
use Rattle.key_program.proofs.Pieces.{lower_joined, lower_none}
use Rattle.key_program.proofs.telling.tell_hex.Goals as goal

pub loop-byte-init : goal.loop-byte-init
loop-byte-init c = sym (ap (λ l. c.args.told.now.items ++ l) lower_none ∙ append-nil c.args.told.now.items)

pub loop-byte-preserved : goal.loop-byte-preserved
loop-byte-preserved c =
    let i = c.loop-byte.byte-index in
    let bytes = c.args.bytes.now in
    let byte = get_or bytes i 0 in
    let joined : encode_lower (take (i + 1) bytes) ≡ encode_lower (take i bytes) ++ encode_lower (byte ∷ []) =
    ap encode_lower (take_more bytes i 0 c.loop-byte-test.true) ∙ lower_joined (take i bytes) (byte ∷ []) in
    cc (
      c.in_ok-extend_from_slice.ensures.items,
      c.loop-byte.invariant,
      c.digits.ensures,
      joined,
      append_assoc c.args.told.now.items (encode_lower (take i bytes)) (encode_lower (byte ∷ [])),
    )
