-- What is owed of `purge_ending`.
use Rattle.std.proofs.Common.{◌≡◌, true, [], ◌∷◌, pos, arith, rules}
use Rattle.sqlite_value.specs.Keys.{plain}
use Rattle.sqlite_value.specs.declared.value.Value.TheVariants.{Int}
use Rattle.sqlite_trees.specs.View.{IsClean}
use Rattle.site_rows.proofs.Seeks.{some_of}
use Rattle.site_rows.proofs.Transactions.{on_ok}
use Rattle.site_rows.proofs.EndingTables.{purged, unpurged}
use Rattle.site_rows.proofs.ending.purge_ending.Goals as goal

pub returns-then-not-branch-clause-purged : goal.returns-then-not-branch-clause-purged
returns-then-not-branch-clause-purged g c = λ clean.
    unpurged c.args.tree c.args.now (g.S.Store.view c.args.store.now) (g.S.Store.view c.first_from.new.store) (c.in_ok-first_from.ensures.reads.same.view clean)

pub returns-clause-purged : goal.returns-clause-purged
returns-clause-purged g c = λ clean.
    unpurged c.args.tree c.args.now (g.S.Store.view c.args.store.now) (g.S.Store.view c.first_from.new.store) (c.in_ok-first_from.ensures.reads.same.view clean)

pub returns-in-Some-clause-purged : goal.returns-in-Some-clause-purged
returns-in-Some-clause-purged g c =
    on_ok c.delete.result _ _ (λ ok clean.
    let before : IsClean (g.S.Store.view c.first_from.new.store) = omega (arith, c.delete.ensures.quiet.clean, clean) in
    let found : c.in_ok-first_from.field-0 ≡ true = cc in
    let x = c.in_ok-first_from.ensures.found found before in
    purged c.args.tree c.args.now (g.S.Store.view c.args.store.now) (g.S.Store.view c.first_from.new.store) (g.S.Store.view c.delete.new.self) plain
    (Int (pos c.args.from) ∷ []) _ x.0 _ c.in-Some.number (search rules) (c.in_ok-first_from.ensures.reads.same.view before) x.1
    (λ n e is. some_of c.past_number.result c.in-Some.number _ c.in-Some.is (c.past_number.ensures n e is)) (ok clean)) c.delete.ensures.ok
