-- What the loop of `all_known` keeps.
use Rattle.std.proofs.Common.{◌≡◌, map, take}
use Rattle.std.specs.List.{AllByRecursion}
use Rattle.site_rows.specs.Calls.{IsQuiet}
use Rattle.site_stored.specs.Calls.{IsSame}
use Rattle.site_lines.specs.Details.{IsKnown, OfDetails}
use Rattle.site_lines.proofs.knowing.all_known.Given as goal

abbrev pub invariant-loop-id : goal.invariant-loop-id
invariant-loop-id g l = record {
  ids : map (λ k. k.id.items) l.list.items ≡ map (λ id. id.now) (take l.id-index l.ids);
  known : OfDetails g.S.Store.view l.initial.site l.site (λ placed details. AllByRecursion (IsKnown placed details) l.list.items);
  same : IsSame g.S.Store.view l.initial.site l.site;
  quiet : IsQuiet g.S.Store l.initial.site.store l.site.store;
}
