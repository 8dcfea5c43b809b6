-- What is owed of `read_mark`.
use Rattle.std.proofs.Common.{[], ◌∷◌, cond, inr, ap, ◌∙◌}
use Rattle.site_state.proofs.Kept.{if_ok}
use Rattle.site_stored.proofs.marks.read_mark.Goals as goal

pub returns-clause-mark : goal.returns-clause-mark
returns-clause-mark g c =
    if_ok c.mark_in.result _ _ (λ mark row clean. inr (
      row.0,
      c.in_ok-get.ensures.ok clean ∙ ap (λ b. cond b (c.get.new.row ∷ []) []) c.if-not-branch.false ∙ ap (λ r. r ∷ []) row.1,
    )) c.mark_in.ensures.row
