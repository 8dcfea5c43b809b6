-- What is owed of `are_ids`.
use Rattle.std.proofs.Common.{map, subst, sym}
use Rattle.std.specs.List.{AllByRecursion}
use Rattle.site_state.specs.Table.{IsWithin}
use Rattle.site_state.proofs.Limits.{within_at}
use Rattle.site_state.proofs.sessions.are_ids.Goals as goal

pub returns-then-not-is_within : goal.returns-then-not-is_within
returns-then-not-is_within c = (
  λ t. absurd cc,
  λ all.
      let same = subst (λ n. AllByRecursion (IsWithin n) (map (λ id. id.now) c.args.ids.now)) (sym c.loop-id.invariant.1) all in
      let within = within_at c.args.ids.now c.loop-id.id-index _ c.loop-id-test.true same in
      let yes = c.is_within.ensures.1 within in
      let no = c.if-not-is_within.true in absurd cc,
)
