-- An honest registration and then an honest sign-in.
use Rattle.std.proofs.Common.{inl, inr, ℕ, [], ◌∷◌, Some, sym, ◌∙◌, ap, subst, arith}
use Rattle.cose.specs.Schemes.{Validity}
use Rattle.verification.specs.Records as expects
use Rattle.site.specs.Laws.{after_begin}
use Rattle.site.specs.State as site
use Rattle.authenticator.specs.Credentials.{resident_ids}
use Rattle.authenticator.specs.Steps.{Keys}
use Rattle.agreement.specs.Ends.{AuthenticatorEnd, IsIdleOn}
use Rattle.agreement.specs.Honest.{AcceptsBoth, AsksForNew, IsAskedFor, IsHonestRun, IsShared, Registering, Registers, Run, SignsIn}
use Rattle.agreement.specs.Below.{Below, KeepsAlg}
use Rattle.agreement.proofs.Registering.{registers}
use Rattle.agreement.proofs.SigningIn.{signs_in}

-- what is asked for is the new credential
asked_new : (valid : Validity) (public : Keys) (x : Registering) (r : Registers valid public x) (e : expects.ExpectedSignIn) → AsksForNew x e
    → IsAskedFor r.credential x.after.authenticator e
asked_new valid public x r e asks = elim asks [
  | inl k ↦ inl (k.0 ∙ ap (λ id. id ∷ []) (sym r.id), k.1 ∙ ap Some (sym r.user))
  | inr k ↦
      let newest = r.newest k.1 in
      inr (
        k.0,
        r.resident ∙ k.1,
        (newest.0, ap (λ id. resident_ids id x.after.authenticator.credentials) r.rp_id ∙ newest.1),
        λ user is. k.2 user is ∙ sym r.user,
      )
]

module _ (valid : Validity) (public : Keys) (b : Below valid public) (keeps : KeepsAlg public) (x : Run) (h : IsHonestRun valid public x) where
  abbrev pub registered : Registers valid public x.registering
  registered = registers valid public b keeps x.registering h.idle h.honest_registration

  pub before : IsShared public x.registered x.registering.after.authenticator registered.credential 0
  before = registered.shared x.registered h.registered

  pub here : IsShared public x.signing_in.site x.signing_in.before.authenticator registered.credential 0
  here =
      subst (λ (s : site.SiteState). IsShared public s x.signing_in.before.authenticator registered.credential 0) (sym h.begins.1)
      (subst (λ (e : AuthenticatorEnd). IsShared public (after_begin x.registered h.begins.0) e.authenticator registered.credential 0) (sym h.goes_on)
      (record { stored = before.stored; sign_count = before.sign_count; rp_id = before.rp_id; registered = before.registered }))

  pub idle : IsIdleOn x.signing_in.channel x.signing_in.before
  idle =
      subst (λ (e : AuthenticatorEnd). IsIdleOn x.signing_in.channel e) (sym h.goes_on)
      (subst (λ (c : ℕ). IsIdleOn c x.registering.after) (sym h.channel) registered.idle)

  pub asked : IsAskedFor registered.credential x.signing_in.before.authenticator x.signing_in.expected
  asked =
      subst (λ (e : AuthenticatorEnd). IsAskedFor registered.credential e.authenticator x.signing_in.expected) (sym h.goes_on)
      (asked_new valid public x.registering registered x.signing_in.expected h.asks)

  abbrev pub signed_in : SignsIn valid public registered.credential 0 x.signing_in
  signed_in = signs_in valid public b x.signing_in registered.credential 0 idle h.honest_sign_in here (omega arith) asked

  abbrev pub agrees : AcceptsBoth valid public x
  agrees = record { registers = registered; before = before; signs_in = signed_in; after = signed_in.shared }
