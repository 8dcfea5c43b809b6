-- What is owed of the functions of `reading` that call each other.
use Rattle.std.proofs.Common.{◌≡◌, ◌-◌, [], true, false, refl, sym, ◌∙◌, arith}
use Rattle.std.proofs.lemmas.Result.{err_from_is_err_and}
use Rattle.ccbor.specs.Canon.{before}
use Rattle.ccbor.specs.Reading.{head_at, key_at, item_at, items_at, pairs_at}
use Rattle.ccbor.proofs.Views.{view-Array, view-Map}
use Rattle.ccbor.proofs.Loop.{add_item, add_pair, after-push, items_view-is, pairs_view-is, one_more, fails, fails-from, item_at-no_head}
use Rattle.ccbor.proofs.Loop.{item_at-no_level, item_at-leaf, items_is, pairs_is}
use Rattle.ccbor.proofs.reading.+reading.Goals as goal

pub item_at-returns-in_err-head : goal.item_at-returns-in_err-head
item_at-returns-in_err-head t c =
    let p = err_from_is_err_and c.from_residual.result c.from_residual.ensures.1 in
    let e = c.in_err-head.field-0.0 in
    let head = head_at c.args.bytes.now in
    rw (p.1, p.2) (fails-from e head _ (item_at-no_head false c.args.depth c.args.bytes.now) (fails e head c.in_err-head.ensures))

pub item_at-returns-then-depth-eq0 : goal.item_at-returns-then-depth-eq0
item_at-returns-then-depth-eq0 t c =
    let h = c.in_ok-head in
    rw (item_at-no_level false c.args.depth c.args.bytes.now h.head.major h.head.argument h.rest.now c.if-depth-eq0.true h.ensures) c.leaf_at.ensures

pub item_at-returns-in_err-items-in-4 : goal.item_at-returns-in_err-items-in-4
item_at-returns-in_err-items-in-4 t c =
    let h = c.in_ok-head in
    let p = err_from_is_err_and c.from_residual-in_err-items-in-4.result c.from_residual-in_err-items-in-4.ensures.1 in
    let is = items_is false c.args.depth c.args.bytes.now h.head.major h.head.argument h.rest.now (omega arith) h.ensures c.in-4.is in
    rw (p.1, p.2, is) (fails-from c.in_err-items-in-4.field-0.0 (items_at (item_at false (c.args.depth - 1)) h.head.argument h.rest.now) _
    (λ none. rw none refl) c.in_err-items-in-4.ensures)

pub item_at-returns-in_err-pairs-in-5 : goal.item_at-returns-in_err-pairs-in-5
item_at-returns-in_err-pairs-in-5 t c =
    let h = c.in_ok-head in
    let p = err_from_is_err_and c.from_residual-in_err-pairs-in-5.result c.from_residual-in_err-pairs-in-5.ensures.1 in
    let is = pairs_is false c.args.depth c.args.bytes.now h.head.major h.head.argument h.rest.now (omega arith) h.ensures c.in-5.is in
    rw (p.1, p.2, is) (fails-from c.in_err-pairs-in-5.field-0.0 (pairs_at false (item_at false (c.args.depth - 1)) [] h.head.argument h.rest.now) _
    (λ none. rw none refl) c.in_err-pairs-in-5.ensures)

pub item_at-returns-in_ok-items-in-4 : goal.item_at-returns-in_ok-items-in-4
item_at-returns-in_ok-items-in-4 t c =
    let h = c.in_ok-head in
    let found = c.in_ok-items-in-4 in
    rw (
      view-Array found.items,
      items_is false c.args.depth c.args.bytes.now h.head.major h.head.argument h.rest.now (omega arith) h.ensures c.in-4.is,
      found.ensures,
    ) refl

pub item_at-returns-in_ok-pairs-in-5 : goal.item_at-returns-in_ok-pairs-in-5
item_at-returns-in_ok-pairs-in-5 t c =
    let h = c.in_ok-head in
    let found = c.in_ok-pairs-in-5 in
    rw (
      view-Map found.pairs,
      pairs_is false c.args.depth c.args.bytes.now h.head.major h.head.argument h.rest.now (omega arith) h.ensures c.in-5.is,
      found.ensures,
    ) refl

pub item_at-returns-in_default : goal.item_at-returns-in_default
item_at-returns-in_default t c =
    let h = c.in_ok-head in
    rw (item_at-leaf false c.args.depth c.args.bytes.now h.head.major h.head.argument h.rest.now (omega arith) h.ensures (λ e. omega (arith, e))
    (λ e. omega (arith, e))) c.leaf_at-in_default.ensures

pub items_at-returns-in_err-item : goal.items_at-returns-in_err-item
unfolding items_at
items_at-returns-in_err-item t c =
    let p = err_from_is_err_and c.from_residual.result c.from_residual.ensures.1 in
    rw (p.1, p.2) (fails-from c.in_err-item.field-0.0 (item_at false c.args.depth c.loop.rest.now) _
    (λ none. rw (← c.loop.invariant, one_more c.args.count c.loop.counter c.loop-test.true, none) refl) c.in_err-item.ensures)

pub items_at-loop-preserved : goal.items_at-loop-preserved
unfolding items_at
items_at-loop-preserved t c =
    rw (← c.loop.invariant, one_more c.args.count c.loop.counter c.loop-test.true, c.in_ok-item.ensures, c.in_ok-push.ensures.items)
    (sym (after-push add_item c.loop.items.items c.in_ok-item.item _))

pub items_at-returns : goal.items_at-returns
unfolding items_at
items_at-returns t c =
    let none : c.args.count - c.loop.counter ≡ 0 = omega arith in
    rw (← c.loop.invariant, none, items_view-is c.loop.items.items) refl

pub pairs_at-returns-in_err-key : goal.pairs_at-returns-in_err-key
unfolding pairs_at
pairs_at-returns-in_err-key t c =
    let p = err_from_is_err_and c.from_residual.result c.from_residual.ensures.1 in
    rw (p.1, p.2) (fails-from c.in_err-key.field-0.0 (key_at false c.loop.rest.now) _
    (λ none. rw (← c.loop.invariant, one_more c.args.count c.loop.counter c.loop-test.true, none) refl) c.in_err-key.ensures)

pub pairs_at-returns-then-not-before : goal.pairs_at-returns-then-not-before
unfolding pairs_at
pairs_at-returns-then-not-before t c =
    let unsorted : before c.loop.last.now c.in_ok-key.encoding.now ≡ false = sym c.before-in-loop.ensures ∙ c.if-not-before.true in
    rw (← c.loop.invariant, one_more c.args.count c.loop.counter c.loop-test.true, c.in_ok-key.ensures, unsorted) refl

pub pairs_at-returns-in_err-value : goal.pairs_at-returns-in_err-value
unfolding pairs_at
pairs_at-returns-in_err-value t c =
    let sorted : before c.loop.last.now c.in_ok-key.encoding.now ≡ true = sym c.before-in-loop.ensures ∙ c.if-not-before.false in
    let p = err_from_is_err_and c.from_residual-in_err-value.result c.from_residual-in_err-value.ensures.1 in
    rw (p.1, p.2) (fails-from c.in_err-value.field-0.0 (item_at false c.args.depth c.in_ok-key.after_key.now) _
    (λ none. rw (← c.loop.invariant, one_more c.args.count c.loop.counter c.loop-test.true, c.in_ok-key.ensures, sorted, none) refl) c.in_err-value.ensures)

pub pairs_at-loop-preserved : goal.pairs_at-loop-preserved
unfolding pairs_at
pairs_at-loop-preserved t c =
    let sorted : before c.loop.last.now c.in_ok-key.encoding.now ≡ true = sym c.before-in-loop.ensures ∙ c.if-not-before.false in
    rw (
      ← c.loop.invariant,
      one_more c.args.count c.loop.counter c.loop-test.true,
      c.in_ok-key.ensures,
      sorted,
      c.in_ok-value.ensures,
      c.in_ok-push.ensures.items,
    )
    (sym (after-push add_pair c.loop.pairs.items (c.in_ok-key.key, c.in_ok-value.value) _))

pub pairs_at-returns : goal.pairs_at-returns
unfolding pairs_at
pairs_at-returns t c =
    let none : c.args.count - c.loop.counter ≡ 0 = omega arith in
    rw (← c.loop.invariant, none, pairs_view-is c.loop.pairs.items) refl
