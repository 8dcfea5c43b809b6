-- What is owed of `size_of`.
use Rattle.std.proofs.Common.{◌≡◌, sym}
use Rattle.ccbor.specs.Item.{array}
use Rattle.ccbor.specs.View.{view, items_view}
use Rattle.ccbor.proofs.AccessLemmas.{items_in_is}
use Rattle.ccbor.proofs.Appended.{count_is}
use Rattle.ctap_encoding.proofs.faults.size_of.Goals as goal

pub returns-in-Some-as_array : goal.returns-in-Some-as_array
returns-in-Some-as_array c =
    let is : view c.args.value.now ≡ array (items_view c.in-Some-as_array.items.now) = items_in_is _ _ (sym c.in-Some-as_array.ensures) in
    rw is (sym (count_is c.in-Some-as_array.items.now))
