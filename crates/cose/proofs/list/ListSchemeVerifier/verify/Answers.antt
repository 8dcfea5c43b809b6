-- What is owed of `ListSchemeVerifier::verify`.
use Rattle.std.proofs.Common.{rules}
use Rattle.cose.specs.Keys.{lent_key_view}
use Rattle.cose.specs.Schemes.{joined}
use Rattle.cose.specs.Listed.{entry_view}
use Rattle.cose.proofs.Search.{none_found}
use Rattle.cose.proofs.list.ListSchemeVerifier.verify.Goals as goal

pub returns : goal.returns
returns c = (
  λ h. search rules,
  λ h. absurd (none_found entry_view c.deref-entry-items.result.now c.loop-entry.entry-index
      (lent_key_view c.args.key.now, joined c.args.parts, c.args.sig.now)
      (search rules) c.loop-entry.invariant (rw (c.deref-entry-items.ensures.value, c.self.view_is) h)),
)
