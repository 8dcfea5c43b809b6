-- What is owed of `load`.
use Rattle.std.proofs.Common.{◌∙◌, length, Err, refl, sym, ap, inl, inr}
use Rattle.std.proofs.lemmas.Result.{err_from_is_err_and}
use Rattle.std.proofs.Math.Seq.{take-length}
use Rattle.ccbor.specs.Viewing.{shown}
use Rattle.site.specs.Saved.{table_item}
use Rattle.site.specs.Views.{table_members_view}
use Rattle.site.specs.declared.table_error.TableError.TheVariants as errors
use Rattle.site.proofs.Tables.{no_members, not_of, no_rows, loaded, same_error}
use Rattle.site.proofs.loading.load.Goals as goal

pub returns-in_default-clause-bad : goal.returns-in_default-clause-bad
returns-in_default-clause-bad c = λ _ version saved is ids table.
    let h = c.in_default.ensures in
    elim h.errors [
      | inl p ↦ h.none (ap Err p) (table_item version saved) (length c.args.bytes.now) (table.spelled.0, take-length c.args.bytes.now ∙ table.spelled.1)
      | inr p ↦ h.front (ap Err p) (table_item version saved) table.spelled
    ]

pub returns-in_default-table_members-clause-bad : goal.returns-in_default-table_members-clause-bad
returns-in_default-table_members-clause-bad c = λ _ version saved is ids table.
    let none = c.in_default-table_members.is in
    no_members c.args.bytes.now (shown c.in-Ok.value) c.in-Ok.ensures.found.1 (sym (rw none at c.table_members.ensures)) version saved table

pub returns-then-not-is_of-clause-bad : goal.returns-then-not-is_of-clause-bad
returns-then-not-is_of-clause-bad c = λ _ version saved is ids table.
    not_of c.args.bytes.now (shown c.in-Ok.value) c.in-Ok.ensures.found.1 c.args.rp_id.now (table_members_view c.in-Some.found) (sym c.in-Some.ensures)
    (λ of. let yes = c.is_of.ensures.1 of in let no = c.if-not-is_of.true in absurd cc) version saved is table

pub returns-in_err-table-clause-bad : goal.returns-in_err-table-clause-bad
returns-in_err-table-clause-bad c = λ e version saved is ids table.
    let p = err_from_is_err_and c.from_residual.result c.from_residual.ensures.1 in
    let bad = same_error c.from_residual.result p.0 c.in_err-table.field-0.0 errors.BadTable p.1 p.2 e in
    no_rows c.args.bytes.now (shown c.in-Ok.value) c.in-Ok.ensures.found.1 c.args.rp_id.now (table_members_view c.in-Some.found) (sym c.in-Some.ensures)
    c.args.profile (c.in_err-table.ensures.none (ap Err bad)) version saved ids table

pub returns-clause-loaded : goal.returns-clause-loaded
returns-clause-loaded c = (
  c.in-Some.found.version,
  loaded c.args.bytes.now (shown c.in-Ok.value) c.in-Ok.ensures.found.1 c.args.rp_id.now (table_members_view c.in-Some.found) (sym c.in-Some.ensures)
      c.args.profile (c.if-not-is_of.ensures.0 refl) c.in_ok-table.table c.in_ok-table.ensures.limits c.in_ok-table.ensures.needed
      c.in_ok-table.ensures.read.0 c.in_ok-table.ensures.read.1,
)
