-- What is owed of `Authenticator::begin_creation`.
use Rattle.std.proofs.Common.{◌++◌, ap, refl, subst, sym, ◌∙◌}
use Rattle.refusal_order.specs.Lines.{first_true}
use Rattle.cose.specs.Keys.{alg_of}
use Rattle.cose.specs.declared.key.CoseKey.{CoseKey}
use Rattle.authdata.specs.declared.profile.Profile.TheVariants.{Strict}
use Rattle.authdata.specs.Layout.{AuthOf}
use Rattle.ctap_requests.specs.RequestView.{creation_view}
use Rattle.authenticator.specs.State.{AuthenticatorState}
use Rattle.authenticator.specs.Orders.{creation_order}
use Rattle.authenticator.specs.Signing.{no_signature, only}
use Rattle.authenticator.specs.Steps.{Creates, creation_data}
use Rattle.authenticator.proofs.Refusing.{allowed, refused}
use Rattle.authenticator.proofs.Waiting.{creates_packed, creates_plain}
use Rattle.authenticator.proofs.authenticator.Authenticator.begin_creation.Goals as goal

pub returns-in-Err-clause-done : goal.returns-in-Err-clause-done
returns-in-Err-clause-done g c = λ public agrees.
    refused c.args.self.now c.refuse.new.self c.in-Err.status _
    (first_true (creation_order c.args.self.now (creation_view c.args.request) c.args.consent c.args.words))
    (λ out. Creates no_signature public c.args.self.now (creation_view c.args.request) c.args.consent c.args.words out)
    c.in-Err.ensures c.in_ok-refuse-in-Err.ensures.reply c.in_ok-refuse-in-Err.ensures.ok

pub returns-in_ok-create-in-None-clause-done : goal.returns-in_ok-create-in-None-clause-done
returns-in_ok-create-in-None-clause-done g c = λ public agrees.
    let q = creation_view c.args.request in
    let auth = c.in_ok-auth_data.auth_data.items in
    allowed c.args.self.now c.create.new.self _ (first_true (creation_order c.args.self.now q c.args.consent c.args.words))
    (λ out. Creates no_signature public c.args.self.now q c.args.consent c.args.words out)
    c.in-Ok.ensures.0
    (creates_plain public c.args.self.now c.create.new.self q c.args.consent c.args.words c.in-Ok.choice.alg auth _
    (sym (ap (λ (s : AuthenticatorState). s.attest) c.self.view_is) ∙ c.in-None.is) c.in-Ok.ensures.1
    (subst (λ (k : CoseKey). AuthOf Strict (creation_data c.args.self.now q c.args.words.id k) auth)
    (c.public-key.ensures ∙ sym (agrees c.in-Ok.choice.alg)) c.in_ok-auth_data.ensures.spelled)
    c.in_ok-create-in-None.ensures.reply c.in_ok-create-in-None.ensures.ok)

pub returns-in-SelfSigned-clause-done : goal.returns-in-SelfSigned-clause-done
returns-in-SelfSigned-clause-done g c = λ public agrees.
    let q = creation_view c.args.request in
    let alg = c.in-Ok.choice.alg in
    let auth = c.in_ok-auth_data.auth_data.items in (
      refl,
      λ signature reply new low high f.
          allowed c.args.self.now new reply (first_true (creation_order c.args.self.now q c.args.consent c.args.words))
          (λ out. Creates (only (public alg c.args.words.secret) (auth ++ q.client_data_hash) signature)
          public c.args.self.now q c.args.consent c.args.words out)
          c.in-Ok.ensures.0
          (creates_packed public c.args.self.now new q c.args.consent c.args.words alg auth signature reply
          (sym (ap (λ (s : AuthenticatorState). s.attest) c.self.view_is) ∙ c.in-SelfSigned.is) c.in-Ok.ensures.1
          (subst (λ (k : CoseKey). AuthOf Strict (creation_data c.args.self.now q c.args.words.id k) auth)
          (c.public-key.ensures ∙ sym (agrees alg)) c.in_ok-auth_data.ensures.spelled)
          (ap alg_of (agrees alg) ∙ g.met.K.PublicKeys.keeps_alg c.args.keys.now alg c.args.words.secret) low high f.0 f.1),
    )
