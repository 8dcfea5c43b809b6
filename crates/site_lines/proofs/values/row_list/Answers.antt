-- What is owed of `row_list`.
use Rattle.std.proofs.Common.{◌≡◌, ◌++◌, ◌∙◌, Bor, ap, option_map, rules, sym, take}
use Rattle.std.specs.List.{slice_get}
use Rattle.site_lines.specs.Private.{row_at}
use Rattle.site_lines.specs.Written.{whole_rows}
use Rattle.site_acts.specs.declared.known.Known.{Known}
use Rattle.site_lines.proofs.Counted.{got, rows_more}
use Rattle.site_lines.proofs.values.row_list.Goals as goal

pub loop-at-preserved : goal.loop-at-preserved
loop-at-preserved c =
    let row = c.index-rows-at.result in
    let found = option_map (λ (k : Bor Known). k.now) c.get.result in
    let next : found ≡ slice_get c.args.known.now c.loop-at.at = got c.args.known.now c.loop-at.at c.get.result c.get.ensures.lookup in
    c.in_ok-push_row.ensures ∙ ap (λ l. l ++ row_at row found) c.loop-at.invariant
    ∙ ap (λ o. whole_rows (take c.loop-at.at c.args.rows.now) c.args.known.now ++ row_at row o) next
    ∙ sym (rows_more c.args.rows.now c.args.known.now c.loop-at.at row c.loop-at-test.true (search rules))
