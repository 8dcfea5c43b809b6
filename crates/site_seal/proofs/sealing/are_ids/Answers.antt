-- What is owed of `are_ids`.
use Rattle.std.proofs.Common.{ℕ, Global, Vec, subst, sym}
use Rattle.site_seal.specs.Seal.{IsWithin}
use Rattle.site_seal.proofs.Bytes.{all_at}
use Rattle.site_seal.proofs.sealing.are_ids.Goals as goal

pub returns-then-not-is_within : goal.returns-then-not-is_within
returns-then-not-is_within c = (
  λ t. absurd cc,
  λ all.
      let item = c.id-item.result in
      let there = all_at (IsWithin 1023) (λ (v : Vec ℕ Global). v.items) c.args.ids.now c.loop-id.id-index item c.loop-id-test.true all in
      let here = subst (λ (v : Vec ℕ Global). IsWithin 1023 v.items) (sym c.id-item.is) there in
      let yes = c.is_within.ensures.1 (subst (IsWithin 1023) (sym c.deref.ensures.value) here) in
      let no = c.if-not-is_within.true in absurd cc,
)
