-- What is owed of `detail_of`.
use Rattle.std.proofs.Common.{Some, None, ◌∙◌, ap, map, rules}
use Rattle.std.specs.Prelude.{string_bytes}
use Rattle.site_state.specs.Details.{told}
use Rattle.site_acts.specs.Joined.{joined}
use Rattle.site_lines.specs.Details.{second}
use Rattle.site_lines.proofs.knowing.detail_of.Goals as goal

pub returns : goal.returns
returns c =
    ap (λ n. told (Some n) None c.in_ok-joined.field-0.items None) (search rules ∙ c.second.ensures)
    ∙ ap (λ t. told (Some (second c.args.now)) None t None) c.in_ok-joined.ensures
    ∙ ap (λ ts. told (Some (second c.args.now)) None (joined (map string_bytes ts)) None) c.as_slice.ensures.value
