-- What is owed of `Authenticator::saved_value`.
use Rattle.std.proofs.Common.{◌≡◌, ◌<◌, ◌^◌, ◌∙◌, List, ap, arith, length, map, rules, subst}
use Rattle.std.proofs.lemmas.List.{length-map}
use Rattle.ccbor.specs.Canon.{ItemsFit}
use Rattle.ccbor.specs.View.{items_of}
use Rattle.authenticator.specs.Saved.{source_item}
use Rattle.authenticator.specs.State.{AuthenticatorState, CredentialSource}
use Rattle.authenticator.specs.Views.{credential_source_view, credential_sources_view}
use Rattle.authenticator.proofs.SavedMaps.{whole_fits}
use Rattle.authenticator.proofs.authenticator.Authenticator.saved_value.Goals as goal

pub returns-clause-fits : goal.returns-clause-fits
returns-clause-fits c =
    let stored = c.self.inside.credentials.items in
    let sixteen : length c.args.self.now.aaguid ≡ 16 = search rules in
    let seen : credential_sources_view stored ≡ c.args.self.now.credentials = ap (λ (a : AuthenticatorState). a.credentials) c.self.view_is in
    let slice : credential_sources_view c.deref.result.now ≡ credential_sources_view stored = ap credential_sources_view c.deref.ensures.value in
    let short : length stored < 2 ^ 64 = search rules in
    let each = length-map stored credential_source_view in
    let all = ap length seen in
    whole_fits c.args.self.now sixteen (omega (arith, all, each, short))
    (subst (λ (l : List CredentialSource). ItemsFit 2 (items_of (map source_item l))) (slice ∙ seen) c.in_ok-credentials.ensures.fit)
