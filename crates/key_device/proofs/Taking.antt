-- What the host's words and answers, and the user's decision, come to.
use Rattle.std.proofs.Common.{◌≡◌, ℕ, inr, List, [], ◌∷◌, ◌++◌, Option, Some, None, refl, sym, ◌∙◌, ap, subst, Ok, Err, Result}
use Rattle.std.specs.Prelude.{IfOk, IsErrOf, OnErr}
use Rattle.hidframe.specs.declared.Packet.{Packet}
use Rattle.hidlink.specs.Ranks.{DeviceState, working_channel}
use Rattle.authenticator.specs.State.{AuthenticatorState}
use Rattle.authenticator.specs.Steps.{Keys}
use Rattle.authenticator.specs.declared.consent.Consent.{Consent}
use Rattle.authenticator.specs.declared.consent.Words.{Words}
use Rattle.authenticator.specs.declared.pending.Pending.{Pending}
use Rattle.key_pin.specs.State.{PinState}
use Rattle.key_pin.specs.declared.words.PinWords.{PinWords}
use Rattle.pin_protocols.specs.Asks.{ask_view, entries}
use Rattle.key_device.specs.Acts.{BeginsAnew, GoesOn, IsDecision, ReadsOn, TakesAnswer, TakesDecision, TakesWords, WantsAnswer, WantsWords, is_set}
use Rattle.key_device.specs.Computing.{Computes, Entries, IsUndone}
use Rattle.key_device.specs.Deciding.{Decides, touched}
use Rattle.key_device.specs.Key.{KeyDeviceState}
use Rattle.key_device.specs.Sending.{IsAnswered}
use Rattle.key_device.specs.Stages.{Reads, is_some}
use Rattle.key_device.specs.declared.error.KeyError.{KeyError}
use Rattle.key_device.specs.declared.stage.Computation.{Computation}
use Rattle.key_device.specs.declared.stage.GrantedRequest.{GrantedRequest}
use Rattle.key_device.specs.declared.stage.PinRequest.{PinRequest}
use Rattle.key_device.specs.declared.stage.Stage.{Stage}
use Rattle.key_device.specs.declared.stage.Stage.TheVariants as stages
use Rattle.key_device.specs.declared.stage.Told.{Told}
use Rattle.key_device.proofs.Decisions.{works_at}
use Rattle.key_device.proofs.Sound.{key, same_key}

-- an error is one
pub one_error : {T : Type 0} (r : Result T KeyError) (a b : KeyError) → OnErr r (IsErrOf r a) → IsErrOf r b → a ≡ b
one_error (Ok x) a b m n = absurd (cc)
one_error (Err e) a b m n =
    let x : e ≡ a = cc in
    let y : e ≡ b = cc in
    sym x ∙ y

-- ---- a request is read

pub reads_on : (k : KeyDeviceState) (d : DeviceState) (stage : Stage) (cid : ℕ) (before out after : List Packet) (t : Told)
    → working_channel k.device.state ≡ Some cid → out ≡ before → Reads k.pin k.device cid out stage t d after
    → ReadsOn k before t (key d k.authenticator k.pin stage k.pending) after
reads_on k d stage cid before out after t at same h =
    let w = works_at k.device.state cid at in
    (cid, w.0, w.1, subst (λ (ps : List Packet). Reads k.pin k.device cid ps stage t d after) same h, refl)

-- ---- a computation goes on, or is to begin anew

abbrev pub Went : KeyDeviceState → PinRequest → PinWords → Entries → ℕ → List Packet → DeviceState → Option PinState → Stage → List Packet → Told → Type 0
Went k r words es cid before d pin stage after t =
    (s : PinState) × (u : PinState) × (k.pin ≡ Some s) × (pin ≡ Some u) × Computes s words es k.device cid before r stage t u d after

abbrev pub Undone : KeyDeviceState → PinRequest → PinWords → Entries → Option PinState → Type 0
Undone k r words es pin = (s : PinState) × (u : PinState) × (k.pin ≡ Some s) × (pin ≡ Some u) × IsUndone s words es r u

goes_on : (k : KeyDeviceState) (r : PinRequest) (words : PinWords) (es : Entries) (cid : ℕ) (before : List Packet) (d : DeviceState) (pin : Option PinState)
    (stage : Stage) (after : List Packet) (t : Told)
    → working_channel k.device.state ≡ Some cid → Went k r words es cid before d pin stage after t
    → GoesOn k r words es before t (key d k.authenticator pin stage k.pending) after
goes_on k r words es cid before d pin stage after t at h =
    let w = works_at k.device.state cid at in
    (cid, w.0, h.0, h.1, w.1, h.2, h.4, ap (λ (p : Option PinState). key d k.authenticator p stage k.pending) h.3)

begins_anew : (k : KeyDeviceState) (r : PinRequest) (words : PinWords) (es : Entries) (d : DeviceState) (pin : Option PinState) (stage : Stage)
    → Undone k r words es pin → stage ≡ stages.Words r → d ≡ k.device → BeginsAnew k r words es (key d k.authenticator pin stage k.pending)
begins_anew k r words es d pin stage h anew same = (
  h.0,
  h.1,
  h.2,
  h.4,
  same_key k.device d k.authenticator k.authenticator (Some h.1) pin (stages.Words r) stage k.pending k.pending same refl h.3 anew refl,
)

module _ (k : KeyDeviceState) (r : PinRequest) (words : PinWords) (cid : ℕ) (before out after : List Packet) (d : DeviceState) (pin : Option PinState) (stage : Stage) where
  pub words_taken : (es : Entries) (result : Result Told KeyError)
      → k.stage ≡ stages.Words r → working_channel k.device.state ≡ Some cid → out ≡ before → es ≡ []
      → IfOk result (Went k r words es cid out d pin stage after)
      → IfOk result (λ t. TakesWords k.stage k words before t (key d k.authenticator pin stage k.pending) after)
  words_taken es (Err e) is at same none h = tt
  words_taken es (Ok t) is at same none h =
      subst (λ (s : Stage). TakesWords s k words before t (key d k.authenticator pin stage k.pending) after) (sym is)
      (goes_on k r words [] cid before d pin stage after t at
      (subst (λ (es : Entries). Went k r words es cid before d pin stage after t) none
      (subst (λ (ps : List Packet). Went k r words es cid ps d pin stage after t) same h)))

  pub words_wanted : (es : Entries) (result : Result Told KeyError)
      → k.stage ≡ stages.Words r → es ≡ [] → OnErr result (Undone k r words es pin) → OnErr result (stage ≡ stages.Words r) → OnErr result (d ≡ k.device)
      → OnErr result (WantsWords k.stage k words (key d k.authenticator pin stage k.pending))
  words_wanted es (Ok t) is none undone anew same = tt
  words_wanted es (Err e) is none undone anew same =
      subst (λ (s : Stage). WantsWords s k words (key d k.authenticator pin stage k.pending)) (sym is)
      (inr (begins_anew k r words [] d pin stage (subst (λ (es : Entries). Undone k r words es pin) none undone) anew same))

  pub answer_taken : (c : Computation) (answer : List ℕ) (es : Entries) (result : Result Told KeyError)
      → k.stage ≡ stages.Answer r c → working_channel k.device.state ≡ Some cid → out ≡ before → es ≡ entries c.answers ++ (ask_view c.ask, answer) ∷ []
      → words ≡ c.words → IfOk result (Went k r words es cid out d pin stage after)
      → IfOk result (λ t. TakesAnswer k.stage k answer before t (key d k.authenticator pin stage k.pending) after)
  answer_taken c answer es (Err e) is at same grown own h = tt
  answer_taken c answer es (Ok t) is at same grown own h =
      subst (λ (s : Stage). TakesAnswer s k answer before t (key d k.authenticator pin stage k.pending) after) (sym is)
      (goes_on k r c.words (entries c.answers ++ (ask_view c.ask, answer) ∷ []) cid before d pin stage after t at
      (subst (λ (es : Entries). Went k r c.words es cid before d pin stage after t) grown
      (subst (λ (ps : List Packet). Went k r c.words es cid ps d pin stage after t) same
      (subst (λ (w : PinWords). Went k r w es cid out d pin stage after t) own h))))

  pub answer_wanted : (c : Computation) (answer : List ℕ) (es : Entries) (result : Result Told KeyError)
      → k.stage ≡ stages.Answer r c → es ≡ entries c.answers ++ (ask_view c.ask, answer) ∷ [] → words ≡ c.words
      → OnErr result (Undone k r words es pin) → OnErr result (stage ≡ stages.Words r) → OnErr result (d ≡ k.device)
      → OnErr result (WantsAnswer k.stage k answer (key d k.authenticator pin stage k.pending))
  answer_wanted c answer es (Ok t) is grown own undone anew same = tt
  answer_wanted c answer es (Err e) is grown own undone anew same =
      subst (λ (s : Stage). WantsAnswer s k answer (key d k.authenticator pin stage k.pending)) (sym is)
      (inr (inr (begins_anew k r c.words (entries c.answers ++ (ask_view c.ask, answer) ∷ []) d pin stage
      (subst (λ (es : Entries). Undone k r c.words es pin) grown (subst (λ (w : PinWords). Undone k r w es pin) own undone)) anew same)))

-- ---- a decision

module _ (public : Keys) (k : KeyDeviceState) (consent : Consent) (words : Words) (before out after : List Packet) (d : DeviceState) (b : AuthenticatorState)
    (pin : Option PinState) (stage : Stage) (pending : Option Pending) (t : Told) where
  pub user_decides : (o : Option Pending) → k.stage ≡ stages.User → out ≡ before
      → Decides public k.device k.authenticator k.pin stages.User consent words out o d b pin after → IsDecision o t k.stage stage pending
      → TakesDecision public k.stage k consent words before t (key d b pin stage pending) after
  user_decides o is same h told =
      subst (λ (s : Stage). TakesDecision public s k consent words before t (key d b pin stage pending) after) (sym is) (
        o,
        subst (λ (s : Stage). Decides public k.device k.authenticator k.pin s consent words before o d b pin after) (sym is)
            (subst (λ (ps : List Packet). Decides public k.device k.authenticator k.pin stages.User consent words ps o d b pin after) same h),
        told,
      )

  pub granted_decides : (g : GrantedRequest) (o : Option Pending) → k.stage ≡ stages.Granted g → out ≡ before
      → Decides public k.device k.authenticator k.pin (stages.Granted g) consent words out o d b pin after → IsDecision o t k.stage stage pending
      → TakesDecision public k.stage k consent words before t (key d b pin stage pending) after
  granted_decides g o is same h told =
      subst (λ (s : Stage). TakesDecision public s k consent words before t (key d b pin stage pending) after) (sym is) (
        o,
        subst (λ (s : Stage). Decides public k.device k.authenticator k.pin s consent words before o d b pin after) (sym is)
            (subst (λ (ps : List Packet). Decides public k.device k.authenticator k.pin (stages.Granted g) consent words ps o d b pin after) same h),
        told,
      )

pub touches : (public : Keys) (k : KeyDeviceState) (consent : Consent) (words : Words) (before out after : List Packet) (d : DeviceState) (stage : Stage)
    (pending : Option Pending) (t : Told) (status : ℕ)
    → k.stage ≡ stages.Touch → out ≡ before → status ≡ touched (is_some (is_set k.pin)) consent.present
    → IsAnswered k.device out (status ∷ []) d after → IsDecision None t k.stage stage pending
    → TakesDecision public k.stage k consent words before t (key d k.authenticator k.pin stage pending) after
touches public k consent words before out after d stage pending t status is same tells h told =
    subst (λ (s : Stage). TakesDecision public s k consent words before t (key d k.authenticator k.pin stage pending) after) (sym is) (
      subst (λ (ps : List Packet). IsAnswered k.device ps (touched (is_some (is_set k.pin)) consent.present ∷ []) d after) same
          (subst (λ (s : ℕ). IsAnswered k.device out (s ∷ []) d after) tells h),
      told.0,
      same_key d d k.authenticator k.authenticator k.pin k.pin stages.Nothing stage None pending refl refl refl told.1 told.2,
    )
