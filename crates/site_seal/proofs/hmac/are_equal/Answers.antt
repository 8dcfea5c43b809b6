-- What is owed of `are_equal`.
use Rattle.std.proofs.Common.{get_or, refl, sym, ◌∙◌, arith}
use Rattle.std.specs.Int.Bits.{xor_self}
use Rattle.std.specs.Prelude.{bit_xor}
use Rattle.std.proofs.lemmas.List.{take_more, take_more_same, same_from_push}
use Rattle.site_seal.proofs.Bytes.{same_from_xor, none_from_or}
use Rattle.site_seal.proofs.hmac.are_equal.Goals as goal

pub loop-i-preserved : goal.loop-i-preserved
loop-i-preserved c =
    let i = c.loop-i.i in
    let a = c.args.a.now in
    let b = c.args.b.now in (
      λ none.
          let zero = none_from_or c.loop-i.difference (bit_xor (get_or a i 0) (get_or b i 0)) none in
          take_more_same a b i 0 (omega arith) (omega arith) (c.loop-i.invariant.0 zero.0) (same_from_xor _ _ zero.1),
      λ same.
          let parts = same_from_push _ _ _ _ (sym (take_more a i 0 (omega arith)) ∙ same ∙ take_more b i 0 (omega arith)) in
          rw (c.loop-i.invariant.1 parts.0, parts.1, xor_self) refl,
    )
