-- What is owed of `is_listed`.
use Rattle.std.proofs.Common.{rules, sym, ◌∙◌}
use Rattle.std.proofs.lemmas.Bool.Decides.{Decides-eqb}
use Rattle.std.proofs.lemmas.Slice.Eq.{slice_eq-Decides}
use Rattle.clientdata.proofs.Lists.{listed, none_listed}
use Rattle.verification.proofs.party.is_listed.Goals as goal

pub returns-then-eq : goal.returns-then-eq
returns-then-eq c =
    let same = (slice_eq-Decides Decides-eqb c.as_str.result.now c.args.wanted.now c.eq.result c.eq.ensures).0 (search rules) in
    let there = listed c.args.texts.now c.loop-text.text-index c.text-item.result c.args.wanted.now
    c.loop-text-test.true c.text-item.is (sym c.as_str.ensures ∙ same) in
    (λ _. there, λ _. search rules)

pub returns : goal.returns
returns c = (
  λ h. search rules,
  λ h. absurd (none_listed c.args.texts.now c.loop-text.text-index c.args.wanted.now c.loop-text-test.false c.loop-text.invariant h),
)
