-- What is owed of `seen_by_sql`.
use Rattle.site_state.proofs.Kept.{if_ok}
use Rattle.site_files.proofs.looking.seen_by_sql.Goals as goal

pub returns-in-Ok : goal.returns-in-Ok
returns-in-Ok c = record { numbered = if_ok c.by_sql.result _ _ (λ store rests. rests.0) c.by_sql.ensures.rests }
