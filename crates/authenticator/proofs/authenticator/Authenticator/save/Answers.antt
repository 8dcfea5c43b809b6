-- What is owed of `Authenticator::save`.
use Rattle.std.proofs.Common.{Err, ap, inl, inr, refl, subst}
use Rattle.ccbor.specs.Item.{Item}
use Rattle.ccbor.specs.Canon.{AppendsCanon, spelling}
use Rattle.authenticator.specs.Saved.{authenticator_item}
use Rattle.authenticator.proofs.authenticator.Authenticator.save.Goals as goal

pub returns-in-Ok-clause-saved : goal.returns-in-Ok-clause-saved
returns-in-Ok-clause-saved c =
    let v = c.in_ok-value.ensures in
    let a = subst (λ (x : Item). AppendsCanon x c.args.out.now.items c.encode.new.out.items) v.value c.in-Ok.ensures.ok in
    (a.0, record { aaguid = v.aaguid; remembered = refl; sources = v.sources; spelled = a.1 }, a.2)

pub unreachable-requires : goal.unreachable-requires
unreachable-requires c =
    let v = c.in_ok-value.ensures in
    elim c.in-Err.ensures.errors [
      | inl unfit ↦ c.in-Err.ensures.unfit (ap Err unfit) (spelling (authenticator_item c.args.self.now)) (rw v.value (v.fits, refl))
      | inr memory ↦ c.in_default.not-Memory memory
    ]
