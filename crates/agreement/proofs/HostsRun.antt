-- What passes by one relation passes by a wider one; so a host's run is a run.
use Rattle.std.proofs.Common.{◌≡◌, inl, inr, ℕ, List, [], ◌∷◌, codes, sym, ◌∙◌}
use Rattle.cose.specs.Schemes.{Validity}
use Rattle.authdata.specs.Layout.{AttestedCredential}
use Rattle.authdata.specs.Objects.{Attestation}
use Rattle.authdata.specs.Statements.{IsSelfSigned}
use Rattle.verification.specs.SignIn as authentication
use Rattle.verification.specs.SignIn.{JudgedSignIn, PassesSignIn, PassesSignInStep}
use Rattle.verification.specs.Registration as registration
use Rattle.verification.specs.Registration.{JudgedRegistration, PassesRegistration, PassesRegistrationStep, counted, hash_in}
use Rattle.verification.specs.declared.refusal.SignInRefusal.{SignInRefusal}
use Rattle.verification.specs.declared.refusal.SignInRefusal.TheVariants as signing
use Rattle.verification.specs.declared.refusal.RegistrationRefusal.{RegistrationRefusal}
use Rattle.verification.specs.declared.refusal.RegistrationRefusal.TheVariants as step
use Rattle.site.specs.State.{SiteState, judged_registration, judged_sign_in}
use Rattle.authenticator.specs.Steps.{Keys}
use Rattle.authenticator.proofs.Stored.{each_weaker}
use Rattle.authenticator.proofs.Wider as stepping
use Rattle.client.specs.Responses.{response_of}
use Rattle.ceremony.specs.Registration.{response}
use Rattle.agreement.specs.Hosts.{HostsRuns, IsHostsRun, IsWithin}
use Rattle.agreement.specs.World.{Abandons, Asks, AtSite, Begins, BeginsAs, Bounds, Deletes, Done, Event, EventEnd, Expires, Happens, IsRun, Moment, Nothing, Registers}
use Rattle.agreement.specs.World.{RegistersBy, Reloads, Reopens, Restarts, Retires, SignsIn, SignsInBy, SiteActs, SiteEvent, World, with_room}

not_packed : (fmt : List ℕ) → fmt ≡ codes "none" → fmt ≡ codes "packed" → ⊥
not_packed fmt a b = let bad : codes "none" ≡ codes "packed" = sym a ∙ b in absurd cc

module _ (narrow wide : Validity) (within : IsWithin narrow wide) where
  sign_in_step : (x : JudgedSignIn) (w : SignInRefusal) → PassesSignInStep narrow x w → PassesSignInStep wide x w
  sign_in_step x signing.BadSignature h = λ c is. within _ _ _ (h c is)
  sign_in_step x _ h = h

  pub signs_in : (x : JudgedSignIn) → PassesSignIn narrow x → PassesSignIn wide x
  signs_in x h = each_weaker (PassesSignInStep narrow x) (PassesSignInStep wide x) (sign_in_step x) authentication.steps h

  abbrev Stated : Validity → JudgedRegistration → Type 0
  Stated valid x = PassesRegistrationStep valid x step.BadStatement

  self_signed : (o : Attestation) (c : AttestedCredential) (hash : List ℕ) → IsSelfSigned narrow o c.key hash → IsSelfSigned wide o c.key hash
  self_signed o c hash h = (h.0, (h.1.0, h.1.1, within _ _ _ h.1.2))

  registration_step : (x : JudgedRegistration) → Stated narrow x → (w : RegistrationRefusal) → PassesRegistrationStep narrow x w
      → PassesRegistrationStep wide x w
  registration_step x stated step.BadStatement h = λ e open_for o a c is. elim (h e open_for o a c is) [
    | inl none ↦ inl none
    | inr self ↦ inr (self_signed (counted x.rp.profile e.attestation o) c (hash_in x.response) self)
  ]
  registration_step x stated step.AttestationNotAccepted h = λ e open_for o a c is. (
    (h e open_for o a c is).0,
    λ self. elim (stated e open_for o a c is) [
      | inl none ↦ absurd (not_packed (counted x.rp.profile e.attestation o).fmt none.0 self.0)
      | inr before ↦ (h e open_for o a c is).1 before
    ],
  )
  registration_step x stated _ h = h

  pub registers : (x : JudgedRegistration) → PassesRegistration narrow x → PassesRegistration wide x
  registers x h =
      each_weaker (PassesRegistrationStep narrow x) (PassesRegistrationStep wide x) (registration_step x h.1.1.1.1.1.1.1.1.1.1.1.1.1.1.1.0) registration.steps h

  acts : (s t : SiteState) (e : SiteEvent) → SiteActs narrow s e t → SiteActs wide s e t
  acts s t (SignsIn n r) h = (signs_in (judged_sign_in s n r) h.0, h.1)
  acts s t (SignsInBy n c ps d) h =
      let succeeds = h.0.2 in
      ((h.0.0, h.0.1, (succeeds.0, succeeds.1, succeeds.2, signs_in (judged_sign_in s n (response_of h.0.1 d)) succeeds.3)), h.1)
  acts s t (Registers n r) h = (registers (with_room (judged_registration s n r)) h.0, h.1)
  acts s t (RegistersBy n c ps d) h =
      let came = h.0 in
      ((came.0, came.1, came.2, came.3, came.4, registers (with_room (judged_registration s n (response came.2 d))) came.5), h.1)
  acts s t (Begins o) h = h
  acts s t (BeginsAs x) h = h
  acts s t (Abandons n) h = h
  acts s t (Retires id) h = h
  acts s t (Deletes id) h = h
  acts s t Expires h = h
  acts s t (Bounds n) h = h
  acts s t Restarts h = h
  acts s t Reopens h = h

  happens : (public : Keys) (old new : World) (e : Event) (end : EventEnd) → Happens narrow public old e end new → Happens wide public old e end new
  happens public old new e Nothing h = h
  happens public old new (AtSite i e) Done h = (h.0, acts (old.site i) h.0 e h.1, h.2)
  happens public old new (Asks k channel bs consent words) Done h =
      (h.0, h.1, stepping.step narrow wide public (old.holder k).state channel bs consent words h.0 within h.2, h.3)
  happens public old new (Reloads k) Done h = h

pub hosts_runs : {I : Type 0} (narrow : I → Validity) (wide : Validity) (public : Keys) → HostsRuns narrow wide public
hosts_runs {I} narrow wide public = record {
  signs_in = λ i x within h. signs_in (narrow i) wide within x h;
  registers = λ i x within h. registers (narrow i) wide within x h;
  ends = λ w. tt;
  goes_on = λ w m ms i same within happens rest. (same, (i, within, happens), rest);
  run = λ w run h. over w run h;
} where
  over : (w : World) (run : List Moment) → IsHostsRun narrow wide public w run → IsRun wide public w run
  over w [] h = tt
  over w (m ∷ ms) h = (h.0, happens (narrow h.1.0) wide h.1.1 public m.old m.new m.event m.end h.1.2, over m.new ms h.2)
