-- What is owed of `Authenticator::add`.
use Rattle.std.proofs.Common.{◌≡◌, ◌∙◌, ℕ, Bool, List, Option, None, ap, subst, sym}
use Rattle.authdata.specs.declared.statement.AttestationType.{AttestationType}
use Rattle.ctap_requests.specs.Requests.{CreationRequest}
use Rattle.ctap_requests.specs.RequestView.{creation_view}
use Rattle.authenticator.specs.Private.{Overwrites}
use Rattle.authenticator.specs.State.{AuthenticatorState, CredentialSource}
use Rattle.authenticator.specs.Steps.{new_credential}
use Rattle.authenticator.specs.Views.{credential_source_view}
use Rattle.authenticator.proofs.Store.{put_is, within_list}
use Rattle.authenticator.proofs.authenticator.Authenticator.add.Goals as goal

overwrites : (a b : AuthenticatorState) (q : CreationRequest) (place : Option ℕ) → a ≡ b → Overwrites b.credentials q place → Overwrites a.credentials q place
overwrites a b q place same h = subst (λ (s : AuthenticatorState). Overwrites s.credentials q place) (sym same) h

pub store-requires : goal.store-requires
store-requires c =
    let stays = overwrites _ c.args.self.now (creation_view c.args.request) c.args.choice.overwritten c.self.view_is c.requires.overwritten in
    within_list credential_source_view c.self.inside.credentials.items c.args.choice.overwritten stays.within

abbrev state_with : List ℕ → Bool → AttestationType → List CredentialSource → AuthenticatorState
state_with aaguid uv attest credentials = record { aaguid = aaguid; uv = uv; attest = attest; credentials = credentials; remembered = None }

pub returns-clause-ok : goal.returns-clause-ok
returns-clause-ok c =
    let a = c.self.inside in
    let q = creation_view c.args.request in
    let new = new_credential q c.args.choice.alg c.args.words.now in
    let stays = overwrites _ c.args.self.now q c.args.choice.overwritten c.self.view_is c.requires.overwritten in
    rw (← c.self.view_is) (ap (state_with a.aaguid a.uv a.attest)
    (put_is a.credentials.items c.store.new.credentials.items q c.args.choice.overwritten c.new_credential-credential.result new stays
    c.in_ok-store.ensures.ok
    (c.new_credential-credential.ensures ∙ ap (λ (b : Bool). record new { resident = b }) c.requires.resident)))
