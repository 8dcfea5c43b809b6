-- What the loop of `refusals` keeps.
use Rattle.std.proofs.Common.{◌≡◌, take}
use Rattle.serde_json.specs.Data.{no_members}
use Rattle.serde_json.specs.View.{members_view}
use Rattle.site_lines.specs.Written.{counts_from}
use Rattle.site_lines.proofs.writing.refusals.Given as goal

abbrev pub invariant-loop-number : goal.invariant-loop-number
invariant-loop-number l = members_view l.by_name.entries ≡ counts_from l.letter 0 (take l.number l.counts) no_members
