-- What is owed of `StoredSite::credential`.
use Rattle.std.proofs.Common.{subst, sym}
use Rattle.site_stored.specs.Calls.{IsFound}
use Rattle.site_stored.proofs.Held.{is_found}
use Rattle.site_stored.proofs.kept.StoredSite.credential.Goals as goal

pub returns-clause-found : goal.returns-clause-found
returns-clause-found g c =
    rw (← c.self.view_is) (λ clean placed held.
    subst (IsFound placed c.args.id.now) (sym c.credential_of.ensures) (is_found placed c.args.id.now c.in_ok-found.found (c.in_ok-found.ensures.found clean placed held.holds.credentials)))
