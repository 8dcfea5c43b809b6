-- What is owed of the functions of `passing` that call each other.
use Rattle.std.proofs.Common.{◌≡◌, ◌-◌, [], true, false, ◌||◌, refl, sym, ◌∙◌, arith}
use Rattle.ccbor.specs.Item.{array, map}
use Rattle.ccbor.specs.Canon.{before}
use Rattle.ccbor.specs.Reading.{head_at, item_at, items_at, pairs_at}
use Rattle.ccbor.proofs.Loop.{item_at-no_head, item_at-no_level, item_at-leaf, items_is, pairs_is}
use Rattle.ccbor.proofs.Walks.{no_head, same_rest, items_passed, pairs_passed}
use Rattle.ccbor.proofs.passing.+passing.Goals as goal

pub after_item-returns-in_default : goal.after_item-returns-in_default
after_item-returns-in_default t c =
    rw (item_at-no_head c.args.known c.args.depth c.args.bytes.now (no_head c.in_default.field-0 (head_at c.args.bytes.now) c.in_default.ensures)) refl

pub after_item-returns-then-depth-eq0 : goal.after_item-returns-then-depth-eq0
after_item-returns-then-depth-eq0 t c =
    let h = c.in-Ok in
    rw (item_at-no_level c.args.known c.args.depth c.args.bytes.now h.head.major h.head.argument h.rest.now c.if-depth-eq0.true h.ensures) c.after_leaf.ensures

pub after_item-returns-in-4 : goal.after_item-returns-in-4
after_item-returns-in-4 t c =
    let h = c.in-Ok in
    let inner = items_at (item_at c.args.known (c.args.depth - 1)) h.head.argument h.rest.now in
    rw (items_is c.args.known c.args.depth c.args.bytes.now h.head.major h.head.argument h.rest.now (omega arith) h.ensures c.in-4.is) (c.after_items.ensures
    ∙ sym (same_rest array inner))

pub after_item-returns-in-5 : goal.after_item-returns-in-5
after_item-returns-in-5 t c =
    let h = c.in-Ok in
    let inner = pairs_at c.args.known (item_at c.args.known (c.args.depth - 1)) [] h.head.argument h.rest.now in
    rw (pairs_is c.args.known c.args.depth c.args.bytes.now h.head.major h.head.argument h.rest.now (omega arith) h.ensures c.in-5.is) (c.after_pairs.ensures
    ∙ sym (same_rest map inner))

pub after_item-returns-in_default-major : goal.after_item-returns-in_default-major
after_item-returns-in_default-major t c =
    let h = c.in-Ok in
    rw (item_at-leaf c.args.known c.args.depth c.args.bytes.now h.head.major h.head.argument h.rest.now (omega arith) h.ensures (λ e. omega (arith, e))
    (λ e. omega (arith, e))) c.after_leaf-in_default-major.ensures

pub after_items-returns-in_err-rest : goal.after_items-returns-in_err-rest
after_items-returns-in_err-rest t c =
    rw (
      c.from_residual.ensures,
      ← c.loop.invariant,
      items_passed (item_at c.args.known c.args.depth) c.args.count c.loop.counter c.loop-test.true c.loop.rest.now,
      ← c.in_err-rest.ensures,
    ) refl

pub after_items-loop-preserved : goal.after_items-loop-preserved
after_items-loop-preserved t c =
    rw (
      ← c.loop.invariant,
      items_passed (item_at c.args.known c.args.depth) c.args.count c.loop.counter c.loop-test.true c.loop.rest.now,
      ← c.in_ok-rest.ensures,
    ) refl

pub after_items-returns : goal.after_items-returns
unfolding items_at
after_items-returns t c =
    let none : c.args.count - c.loop.counter ≡ 0 = omega arith in
    rw (← c.loop.invariant, none) refl

pub after_pairs-returns-in_err-encoding : goal.after_pairs-returns-in_err-encoding
after_pairs-returns-in_err-encoding t c =
    rw (
      c.from_residual.ensures,
      ← c.loop.invariant,
      pairs_passed (item_at c.args.known c.args.depth) c.args.count c.loop.counter c.loop-test.true c.args.known c.loop.last.now c.loop.rest.now,
      ← c.in_err-encoding.ensures,
    ) refl

pub after_pairs-returns-then-not-may_follow : goal.after_pairs-returns-then-not-may_follow
after_pairs-returns-then-not-may_follow t c =
    let unsorted : (c.args.known || before c.loop.last.now c.in_ok-encoding.encoding.now) ≡ false = sym c.may_follow.ensures ∙ c.if-not-may_follow.true in
    rw (
      ← c.loop.invariant,
      pairs_passed
          (item_at c.args.known c.args.depth) c.args.count c.loop.counter c.loop-test.true c.args.known c.loop.last.now c.loop.rest.now,
      ← c.in_ok-encoding.ensures,
      unsorted,
    ) refl

pub after_pairs-returns-in_err-rest : goal.after_pairs-returns-in_err-rest
after_pairs-returns-in_err-rest t c =
    let sorted : (c.args.known || before c.loop.last.now c.in_ok-encoding.encoding.now) ≡ true = sym c.may_follow.ensures ∙ c.if-not-may_follow.false in
    rw (
      c.from_residual-in_err-rest.ensures,
      ← c.loop.invariant,
      pairs_passed (item_at c.args.known c.args.depth) c.args.count c.loop.counter c.loop-test.true c.args.known c.loop.last.now c.loop.rest.now,
      ← c.in_ok-encoding.ensures,
      sorted,
      ← c.in_err-rest.ensures,
    ) refl

pub after_pairs-loop-preserved : goal.after_pairs-loop-preserved
after_pairs-loop-preserved t c =
    let sorted : (c.args.known || before c.loop.last.now c.in_ok-encoding.encoding.now) ≡ true = sym c.may_follow.ensures ∙ c.if-not-may_follow.false in
    rw (
      ← c.loop.invariant,
      pairs_passed
          (item_at c.args.known c.args.depth) c.args.count c.loop.counter c.loop-test.true c.args.known c.loop.last.now c.loop.rest.now,
      ← c.in_ok-encoding.ensures,
      sorted,
      ← c.in_ok-rest.ensures,
    ) refl

pub after_pairs-returns : goal.after_pairs-returns
unfolding pairs_at
after_pairs-returns t c =
    let none : c.args.count - c.loop.counter ≡ 0 = omega arith in
    rw (← c.loop.invariant, none) refl
