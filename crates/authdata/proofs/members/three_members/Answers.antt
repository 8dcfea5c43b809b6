-- What is owed of `three_members`.
use Rattle.std.proofs.Common.{◌≡◌, ◌∙◌, length, ap, subst, arith}
use Rattle.ccbor.specs.Item.{map}
use Rattle.ccbor.proofs.Views.{view-Map}
use Rattle.ccbor.specs.View.{view, pairs_view}
use Rattle.authdata.specs.Private.{HasThree}
use Rattle.authdata.proofs.Objects.{three_long}
use Rattle.authdata.proofs.members.three_members.Goals as goal

pub returns-then-len-ne0 : goal.returns-then-len-ne0
returns-then-len-ne0 c = λ h.
    let is : view c.args.value ≡ map (pairs_view c.in-Map.members.items) = ap view c.in-Map.is ∙ view-Map c.in-Map.members in
    let three : length c.in-Map.members.items ≡ 3 = three_long c.in-Map.members.items (subst HasThree is h) in
    let a = c.in_ok-third.ensures.len in
    let b = c.in_ok-second.ensures.len in
    let d = c.in_ok-first.ensures.len in
    let e = c.len.ensures in
    let f = c.if-len-ne0.true in
    absurd (omega arith)
