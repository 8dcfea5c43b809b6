-- What is owed of `is_same`.
use Rattle.std.proofs.Common.{◌+◌, ◌<◌, ◌≤◌, length, refl, arith}
use Rattle.key_pin.proofs.Same.{gathers_next, gathers_all}
use Rattle.key_pin.proofs.computing.is_same.Goals as goal

pub loop-i-preserved : goal.loop-i-preserved
loop-i-preserved c =
    let left : c.loop-i.i < length c.args.left.now = omega arith in
    let right : c.loop-i.i < length c.args.right.now = omega arith in
    gathers_next c.loop-i.differences c.args.left.now c.args.right.now c.loop-i.i (c.loop-i.i + 1) left right refl c.loop-i.invariant

pub returns : goal.returns
returns c =
    let left : length c.args.left.now ≤ c.loop-i.i = omega arith in
    let right : length c.args.right.now ≤ c.loop-i.i = omega arith in
    gathers_all c.loop-i.differences c.args.left.now c.args.right.now c.loop-i.i left right c.loop-i.invariant
