-- What is owed of `mark_in`.
use Rattle.site_stored.proofs.marks.mark_in.Goals as goal

pub returns-clause-row : goal.returns-clause-row
returns-clause-row c = (c.in-Some-Some.follows, c.in_ok-check_row.ensures.row)
