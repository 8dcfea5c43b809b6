-- What is owed of `key_in`.
use Rattle.std.proofs.Common.{Err, ap, refl, subst}
use Rattle.ccbor.proofs.Decoding.{same_item}
use Rattle.ccbor.specs.Item.{Item}
use Rattle.ccbor.specs.Viewing.{shown}
use Rattle.cose.specs.Keys.{KeyOf}
use Rattle.passkey_c.proofs.Canonical.{not_canonical}
use Rattle.passkey_c.proofs.keys.key_in.Goals as goal

pub returns-in_default : goal.returns-in_default
returns-in_default c = λ key is.
    not_canonical c.args.bytes.now c.in_default.field-0 c.in_default.ensures.errors (λ trailing. c.in_default.ensures.front (ap Err trailing))
    (λ none. c.in_default.ensures.none (ap Err none)) (is.0, is.2)

pub returns-in-Err : goal.returns-in-Err
returns-in-Err c = λ key is.
    let same = same_item is.0 (shown c.in-Ok.value) c.args.bytes.now is.2 c.in-Ok.ensures.found.1 in
    c.in-Err.ensures.none refl key (subst (λ (v : Item). KeyOf key v) same is.1)
