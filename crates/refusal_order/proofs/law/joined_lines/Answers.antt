-- What is owed of `joined_lines`.
use Rattle.std.proofs.Common.{inl, inr}
use Rattle.refusal_order.proofs.Laws.{first_before, first_behind, first_joined}
use Rattle.refusal_order.proofs.law.joined_lines.Goals as goal

pub returns-clause-holding : goal.returns-clause-holding
returns-clause-holding g c = λ xs ys x. (first_joined xs ys x, λ h. elim h [ inl f ↦ first_before ys f | inr p ↦ first_behind xs p.0 p.1 ])

pub returns-clause-failing : goal.returns-clause-failing
returns-clause-failing g c = λ xs ys x. (first_joined xs ys x, λ h. elim h [ inl f ↦ first_before ys f | inr p ↦ first_behind xs p.0 p.1 ])
