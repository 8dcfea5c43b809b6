-- What is owed of `answer_lines`.
use Rattle.std.proofs.Common.{◌∙◌, ap, inl, inr, map}
use Rattle.site_lines.specs.Batches.{failed_as}
use Rattle.site_state.proofs.Kept.{if_ok}
use Rattle.site_lines.proofs.line.answer_lines.Goals as goal

pub returns-in-Ok-clause-told : goal.returns-in-Ok-clause-told
returns-in-Ok-clause-told g c = inl (c.carry_all.new.site, c.in_ok-answers.ensures.ran, c.in-Ok.ensures.committed)

pub returns-in-Err-clause-told : goal.returns-in-Err-clause-told
returns-in-Err-clause-told g c =
    if_ok c.failed.result _ _ (λ told is. inr (c.in-Err.why, c.in_ok-answers.answers.items, c.carry_all.new.site, c.in_ok-answers.ensures.ran, is ∙ ap (map (failed_as c.in-Err.why)) c.as_slice-in-Err.ensures.value, c.in-Err.ensures.failed, c.in-Err.ensures.cause)) c.failed.ensures

pub returns-in-Ok-clause-crash : goal.returns-in-Ok-clause-crash
returns-in-Ok-clause-crash g c db r =
    elim (c.commit.ensures.crash db r) [
      | inl is ↦ inr (c.in_ok-answers.answers.items, c.carry_all.new.site, c.in_ok-answers.ensures.ran, is)
      | inr before ↦ inl (c.carry_all.ensures.quiet.crash db before)
    ]

pub returns-in-Err-clause-crash : goal.returns-in-Err-clause-crash
returns-in-Err-clause-crash g c db r =
    elim (c.commit.ensures.crash db r) [
      | inl is ↦ inr (c.in_ok-answers.answers.items, c.carry_all.new.site, c.in_ok-answers.ensures.ran, is)
      | inr before ↦ inl (c.carry_all.ensures.quiet.crash db before)
    ]
