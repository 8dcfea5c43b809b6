-- What is owed of `is_fido2`.
use Rattle.client_ceremony.proofs.Lists.{any_lent}
use Rattle.client_ceremony.specs.Way.{is_version}
use Rattle.std.proofs.Common.{Bor, List, ap, sym, ℕ, ◌∙◌}
use Rattle.std.specs.List.{list_any}
use Rattle.client_ceremony.proofs.told.is_fido2.Goals as goal

pub returns : goal.returns
returns c =
    c.any_version.ensures ∙ ap (list_any (λ (v : Bor (List ℕ)). is_version v.now)) c.deref.ensures.value ∙ sym (any_lent is_version c.args.info.now.versions.items)
