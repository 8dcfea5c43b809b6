-- What is owed of `refusals`.
use Rattle.std.proofs.Common.{◌≡◌, ◌+◌, ◌∙◌, ap, arith, rules, sym, take}
use Rattle.std.specs.Prelude.{slice_index}
use Rattle.std.proofs.lemmas.List.{take_all}
use Rattle.serde_json.specs.Data.{no_members, object}
use Rattle.serde_json.specs.View.{members_view}
use Rattle.serde_json.proofs.Views.{view-Object}
use Rattle.site_lines.specs.Written.{counts_from, with_count}
use Rattle.site_lines.proofs.Counted.{counts_more}
use Rattle.site_lines.proofs.writing.refusals.Goals as goal

pub loop-number-preserved : goal.loop-number-preserved
loop-number-preserved c =
    let letter = c.args.letter.now in
    let counts = c.args.counts.now in
    let i = c.loop-number.number in
    let count = slice_index counts i in
    let put : members_view c.put_count.new.out.entries ≡ with_count letter i count (members_view c.loop-number.by_name.entries) = search rules in
    let zero : i ≡ 0 + i = omega arith in
    put ∙ ap (with_count letter i count) c.loop-number.invariant
    ∙ ap (λ m. with_count letter m count (counts_from letter 0 (take i counts) no_members)) zero
    ∙ sym (counts_more letter 0 counts no_members i count c.loop-number-test.true (search rules))

pub returns : goal.returns
returns c =
    let all : take c.loop-number.number c.args.counts.now ≡ c.args.counts.now = take_all c.loop-number.number c.args.counts.now (search rules) in
    view-Object c.loop-number.by_name ∙ ap object (c.loop-number.invariant ∙ ap (λ l. counts_from c.args.letter.now 0 l no_members) all)
