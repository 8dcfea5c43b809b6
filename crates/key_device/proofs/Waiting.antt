-- What waits for its signature is of the request that the device works on, and was handed to the authenticator.
use Rattle.std.proofs.Common.{◌≡◌, ℕ, List, Option, Some, None, refl, sym, ◌∙◌, ap}
use Rattle.std.specs.Prelude.{IfSome}
use Rattle.hidlink.specs.Ranks.{TransactionState, Idle, Receiving, Working, IsWorking, working_channel}
use Rattle.hidlink.specs.Told.{work}
use Rattle.authenticator.specs.declared.consent.Consent.{Consent}
use Rattle.authenticator.specs.declared.pending.Pending.{Pending}
use Rattle.key_pin.specs.State.{PinState}
use Rattle.key_device.specs.Deciding.{handed}
use Rattle.key_device.specs.Key.{IsWaiting, KeyDeviceState}
use Rattle.key_device.specs.declared.stage.Stage.{Stage}

-- a device that works on none; the request that it works on
pub no_work : (s : TransactionState) → working_channel s ≡ None → work s ≡ None
no_work Idle e = refl
no_work (Receiving cid cmd len next bytes) e = refl
no_work (Working cid payload) e = absurd (cc)

pub idle_works_not : (s : TransactionState) → working_channel s ≡ None → IsWorking s → ⊥
idle_works_not Idle e w = w
idle_works_not (Receiving cid cmd len next bytes) e w = w
idle_works_not (Working cid payload) e w = cc

pub work_of : (s : TransactionState) → IsWorking s → (c : ℕ) × (bs : List ℕ) × (work s ≡ Some (c, bs))
work_of (Working cid payload) w = (cid, payload, refl)
work_of Idle w = absurd w
work_of (Receiving cid cmd len next bytes) w = absurd w

-- nothing waits where the device works on none
pub none_at_rest : (k : KeyDeviceState) (o : Option Pending) → work k.device.state ≡ None → IfSome o (IsWaiting k) → o ≡ None
none_at_rest k None rests w = refl
none_at_rest k (Some p) rests w =
    let d = w.3 w.0 (λ alg. refl) in
    absurd (let e = sym rests ∙ d.3 in cc)

-- or at a stage at which the authenticator is handed nothing
abbrev pub HandsNothing : Stage → Type 0
HandsNothing s = (pin : Option PinState) (bs : List ℕ) (consent : Consent) → handed pin s bs consent ≡ None

pub none_handed : (k : KeyDeviceState) (s : Stage) (o : Option Pending) → k.stage ≡ s → HandsNothing s → IfSome o (IsWaiting k) → o ≡ None
none_handed k s None at nothing w = refl
none_handed k s (Some p) at nothing w =
    let d = w.3 w.0 (λ alg. refl) in
    absurd (let e = sym (nothing k.pin d.1 w.1) ∙ ap (λ (t : Stage). handed k.pin t d.1 w.1) (sym at) ∙ d.4 in cc)
