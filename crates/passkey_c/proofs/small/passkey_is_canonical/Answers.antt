-- What is owed of `passkey_is_canonical`.
use Rattle.std.proofs.Common.{Err, ap, rules}
use Rattle.passkey_c.proofs.Canonical.{not_canonical}
use Rattle.passkey_c.proofs.small.passkey_is_canonical.Goals as goal

pub returns-in-Err : goal.returns-in-Err
returns-in-Err c = (
  λ h. search rules,
  λ w. absurd (not_canonical c.args.bytes.now c.in-Err.field-0 c.in-Err.ensures.errors (λ is. c.in-Err.ensures.front (ap Err is))
      (λ is. c.in-Err.ensures.none (ap Err is)) w),
)
