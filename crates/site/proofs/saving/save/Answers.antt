-- What is owed of `save`.
use Rattle.std.proofs.Common.{◌<◌, ◌^◌, length, Err, inl, inr, refl, ap, subst, arith}
use Rattle.ccbor.specs.Item.{Item}
use Rattle.ccbor.specs.Canon.{AppendsCanon, spelling}
use Rattle.site.specs.Saved.{Saved, table_item, version_of}
use Rattle.site.proofs.Fitting.{table_fits}
use Rattle.site.proofs.Versions.{fits_written, is_needed, known_version, small_version}
use Rattle.site.proofs.saving.save.Goals as goal

pub returns-in-Ok-clause-saved : goal.returns-in-Ok-clause-saved
returns-in-Ok-clause-saved c =
    let v = c.in_ok-value.ensures in
    let a = subst (λ (x : Item). AppendsCanon x c.args.out.now.items c.encode.new.out.items) v.value c.in-Ok.ensures.ok in
    let rows = c.args.table.now in (
      a.0,
      record {
        known = known_version rows;
        next = c.requires;
        rows = v.fit.0;
        each = fits_written rows v.fit.1;
        needed = is_needed rows;
        spelled = a.1;
      },
      a.2,
    )

pub unreachable-requires : goal.unreachable-requires
unreachable-requires c =
    let v = c.in_ok-value.ensures in
    let saved : Saved = record { rp_id = c.args.rp_id.now; next = c.args.next; rows = c.args.table.now } in
    let short : length c.args.rp_id.now < 2 ^ 64 = omega arith in
    let fits = table_fits (version_of saved.rows) saved (small_version saved.rows) (omega arith) short c.utf8.rp_id v.fit.0 (fits_written saved.rows v.fit.1) in
    elim c.in-Err.ensures.errors [
      | inl unfit ↦ c.in-Err.ensures.unfit (ap Err unfit) (spelling (table_item (version_of saved.rows) saved)) (rw v.value (fits, refl))
      | inr memory ↦ c.in_default.not-Memory memory
    ]
