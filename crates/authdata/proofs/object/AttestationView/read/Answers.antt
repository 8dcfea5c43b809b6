-- What is owed of `AttestationView::read`.
use Rattle.std.proofs.Common.{Err, ap, inl, inr}
use Rattle.ccbor.specs.Viewing.{shown}
use Rattle.ccbor.proofs.Decoding.{same_item}
use Rattle.authdata.specs.Objects.{object_item}
use Rattle.authdata.proofs.Objects.{no_object, not_whole}
use Rattle.authdata.proofs.object.AttestationView.read.Goals as goal

pub returns-in_default-clause-none : goal.returns-in_default-clause-none
returns-in_default-clause-none c = λ _. elim c.in_default.ensures.errors [
  | inl e ↦ no_object _ (not_whole _ (c.in_default.ensures.none (ap Err e)))
  | inr e ↦ no_object _ (c.in_default.ensures.front (ap Err e))
]

pub returns-clause-none : goal.returns-clause-none
returns-clause-none c = λ none o h.
    let same = same_item (shown c.in-Ok.value) (object_item o) c.args.bytes.now c.in-Ok.ensures.found.1 h.1 in
    (rw none at c.object_in.ensures) o (h.0, same)
