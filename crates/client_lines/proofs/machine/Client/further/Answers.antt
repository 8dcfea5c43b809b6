-- What is owed of `further`.
use Rattle.std.proofs.Common.{inl, inr, ◌∙◌}
use Rattle.client_lines.proofs.machine.Client.further.Goals as goal

pub returns-clause-told : goal.returns-clause-told
returns-clause-told c =
    let taken = c.in_ok-told.ensures.told in
    (taken.0, taken.1, taken.2, taken.3, elim c.end.ensures [ inl same ↦ inl (same ∙ taken.4) | inr none ↦ inr none ])
