-- What is owed of `put_key`.
use Rattle.std.proofs.Common.{refl}
use Rattle.authdata.specs.Layout.{key_bytes}
use Rattle.cose.specs.Keys.{lent_key_view}
use Rattle.cose.proofs.KeyLemmas.{key_canon}
use Rattle.authdata.proofs.writing.put_key.Goals as goal

-- a key's value has an encoding
pub unreachable-requires : goal.unreachable-requires
unreachable-requires c =
    let none = rw c.in-Err-Unfit.field-0-is at c.in-Err-Unfit.ensures.unfit in
    let of = c.in_ok-value.ensures in
    none refl (key_bytes (lent_key_view c.args.key.now)) (rw (of.1) (key_canon (lent_key_view c.args.key.now) of.0))
