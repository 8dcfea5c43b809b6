-- What is owed of `all_known`.
use Rattle.std.proofs.Common.{[], subst, sym}
use Rattle.site_rows.proofs.Causes.{passed_up}
use Rattle.std.specs.List.{AllByRecursion}
use Rattle.std.proofs.lemmas.List.{take_more}
use Rattle.site_lines.specs.Details.{IsKnown, OfDetails}
use Rattle.site_lines.proofs.Caused.{unknown_since}
use Rattle.site_lines.proofs.Detailed.{ids_on, known_on}
use Rattle.site_lines.proofs.Kept.{quiet_then, same_then}
use Rattle.site_lines.proofs.knowing.all_known.Goals as goal

pub loop-id-preserved : goal.loop-id-preserved
loop-id-preserved g c =
    let i = c.loop-id.invariant in
    let one = c.in_ok-one.ensures in
    let push = take_more c.args.ids.now c.loop-id.id-index (record { ref_ptr = (0, 0); now = [] }) c.loop-id-test.true in
    record {
      ids = rw (push, c.in_ok-add.ensures) (ids_on (λ k. k.id.items) (λ id. id.now) _ _ _ _ i.ids one.id);
      known = subst (λ l. OfDetails g.S.Store.view c.args.site.now c.known.new.site (λ placed details. AllByRecursion (IsKnown placed details) l)) (sym c.in_ok-add.ensures)
          (known_on g.S.Store.view c.args.site.now c.loop-id.site c.known.new.site c.loop-id.list.items c.in_ok-one.one i.same one.same i.known one.known);
      same = same_then g.S.Store.view c.args.site.now c.loop-id.site c.known.new.site i.same one.same;
      quiet = quiet_then g.S.Store c.args.site.now.store c.loop-id.site.store c.known.new.site.store i.quiet one.quiet;
    }

pub returns-in_err-one-clause-cause : goal.returns-in_err-one-clause-cause
returns-in_err-one-clause-cause g c =
    let i = c.loop-id.invariant in
    let one = c.in_err-one.ensures in
    λ clean. passed_up c.from_residual-in_err-one.result c.in_err-one.field-0.0 _ c.from_residual-in_err-one.ensures.1
    (unknown_since g.S.Store.view g.S.Store.faults c.args.site.now c.loop-id.site c.known.new.site c.in_err-one.field-0.0 i.same one.quiet.clean i.quiet.counts one.cause clean)
