-- What is owed of `credentials_in`.
use Rattle.std.proofs.Common.{◌≡◌, ◌<◌, ◌++◌, [], ◌∷◌, length, true, None, Err, refl, sym, ap, ◌∙◌, arith}
use Rattle.std.proofs.lemmas.Result.{err_from_is_err_and}
use Rattle.std.proofs.lemmas.List.{length-append}
use Rattle.refusal_order.proofs.Laws.{each_joined}
use Rattle.ccbor.specs.Item.{item}
use Rattle.ccbor.specs.Viewing.{shown, shown_items}
use Rattle.ccbor.proofs.AccessLemmas.{first_is, none_is}
use Rattle.site_state.specs.Table.{IsRow, row_of}
use Rattle.site_state.specs.RowViews.{row_view}
use Rattle.site_state.proofs.RowLemmas.{one_more}
use Rattle.site.specs.Saved.{FitsVersion, credential_item, has_version_4, version_of}
use Rattle.site.specs.declared.table_error.TableError.TheVariants as errors
use Rattle.site.proofs.Credentials.{one_credential}
use Rattle.site.proofs.Versions.{not_needed}
use Rattle.site.proofs.Tables.{in_front, in_front-none, in_front-one_more, one_list, same_error, goes_on, goes_behind}
use Rattle.site.proofs.loading.credentials_in.Goals as goal

pub returns-in_err-row-clause-none : goal.returns-in_err-row-clause-none
returns-in_err-row-clause-none c = λ e rows table needed each is.
    let p = err_from_is_err_and c.from_residual.result c.from_residual.ensures.1 in
    let bad = same_error c.from_residual.result p.0 c.in_err-row.field-0.0 errors.BadTable p.1 p.2 e in
    let front = first_is (shown_items c.loop-item.rest) (shown c.in-Some.item) (shown_items c.in-Some.after) (sym c.in-Some.ensures.parts) in
    let met : in_front c.loop-item.table (item (shown c.in-Some.item) (shown_items c.in-Some.after)) ≡ shown_items c.args.items =
    ap (in_front c.loop-item.table) (sym front) ∙ c.loop-item.invariant.2 in
    let g = goes_on c.args.version rows c.loop-item.table (shown c.in-Some.item) (shown_items c.in-Some.after) c.loop-item.invariant.1 each (met ∙ is) in
    c.in_err-row.ensures.none (ap Err bad) g.row g.fits g.map_is

pub returns-then-not-admits-clause-none : goal.returns-then-not-admits-clause-none
returns-then-not-admits-clause-none c = λ e rows table needed each is.
    let front = first_is (shown_items c.loop-item.rest) (shown c.in-Some.item) (shown_items c.in-Some.after) (sym c.in-Some.ensures.parts) in
    let met : in_front c.loop-item.table (item (shown c.in-Some.item) (shown_items c.in-Some.after)) ≡ shown_items c.args.items =
    ap (in_front c.loop-item.table) (sym front) ∙ c.loop-item.invariant.2 in
    let g = goes_on c.args.version rows c.loop-item.table (shown c.in-Some.item) (shown_items c.in-Some.after) c.loop-item.invariant.1 each (met ∙ is) in
    let may = goes_behind c.args.version c.args.profile rows c.loop-item.table (shown c.in-Some.item) (shown_items c.in-Some.after) table g in
    let row = row_view c.in_ok-row.row in
    let same : g.row ≡ row = one_credential g.row row g.fits.key c.in_ok-row.ensures.read.0.key (sym g.map_is ∙ c.in_ok-row.ensures.read.1) in
    let fits : IsRow c.args.profile row × (row_of row.id c.loop-item.table ≡ None) × (length c.loop-item.table < 65536) = rw same at may in
    let yes = c.admits.ensures.1 fits in
    let no = c.if-not-admits.true in
    absurd cc

pub loop-item-preserved : goal.loop-item-preserved
loop-item-preserved c =
    let row = row_view c.in_ok-row.row in
    let pushed : c.push.new.self ≡ c.loop-item.table ++ row ∷ [] = c.in_ok-push.ensures.pushed in
    let front = first_is (shown_items c.loop-item.rest) (shown c.in-Some.item) (shown_items c.in-Some.after) (sym c.in-Some.ensures.parts) in
    let here : shown c.in-Some.item ≡ credential_item row = c.in_ok-row.ensures.read.1 in
    let may = c.if-not-admits.ensures.0 refl in
    let before = c.loop-item.invariant.0 in
    let longer = length-append c.loop-item.table (row ∷ []) in
    let room = may.2 in
    rw pushed (
      (omega (arith, longer, room), one_more c.args.profile c.loop-item.table row before.1 may.0 may.1),
      each_joined (FitsVersion c.args.version) c.loop-item.table (row ∷ []) c.loop-item.invariant.1 (c.in_ok-row.ensures.read.0, tt),
      in_front-one_more c.loop-item.table row (shown_items c.in-Some.after)
          ∙ ap (λ i. in_front c.loop-item.table (item i (shown_items c.in-Some.after))) (sym here)
          ∙ ap (in_front c.loop-item.table) (sym front)
          ∙ c.loop-item.invariant.2,
    )

pub returns-clause-read : goal.returns-clause-read
returns-clause-read c =
    let ended = c.in_default.is in
    let none = none_is (shown_items c.loop-item.rest) (sym (rw ended at c.split_first.ensures.parts)) in
    (c.loop-item.invariant.1, sym c.loop-item.invariant.2 ∙ ap (in_front c.loop-item.table) none ∙ in_front-none c.loop-item.table)

pub returns-then-version_of-lt4-clause-none : goal.returns-then-version_of-lt4-clause-none
returns-then-version_of-lt4-clause-none c = λ e rows table needed each is.
    let ended = c.in_default.is in
    let none = none_is (shown_items c.loop-item.rest) (sym (rw ended at c.split_first.ensures.parts)) in
    let read = sym c.loop-item.invariant.2 ∙ ap (in_front c.loop-item.table) none ∙ in_front-none c.loop-item.table in
    let same = one_list c.args.version rows c.loop-item.table each c.loop-item.invariant.1 (sym is ∙ read) in
    let some : has_version_4 c.loop-item.table ≡ true = sym (ap has_version_4 same) ∙ needed c.if-version-ge4.true in
    let less : version_of c.loop-item.table < 4 = omega (arith, c.version_of.ensures, c.if-version_of-lt4.true) in
    not_needed c.loop-item.table less some
