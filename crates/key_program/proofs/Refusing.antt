-- What a refusal of the key is reported as.
use Rattle.std.proofs.Common.{◌≡◌, ◌∙◌, ◌⊎◌, inl, inr, ℕ, List, Option, None, Result, Ok, Err, ap, subst, sym}
use Rattle.std.specs.Prelude.{IsSome}
use Rattle.authenticator.specs.declared.pending.Pending.{Pending}
use Rattle.key_pin.specs.Saved.{FitsPin, saved}
use Rattle.key_pin.specs.State.{PinState}
use Rattle.key_device.specs.Key.{KeyDeviceState}
use Rattle.key_device.specs.declared.error.KeyError.{KeyError}
use Rattle.key_device.specs.declared.error.KeyError.TheVariants as errors
use Rattle.key_device.specs.declared.error.KeyLoadError.{KeyLoadError}
use Rattle.key_device.specs.declared.error.KeyLoadError.TheVariants as loads
use Rattle.key_device.specs.declared.stage.Told.{Told}
use Rattle.key_program.specs.Lines.{HasSize, IsRefusal, IsRefusedPin, IsRefusedSignature, told_of_load}
use Rattle.key_program.specs.declared.lines.Fault.TheVariants as faults

abbrev error_of : {T : Type 0} → Result T KeyError → KeyError → KeyError
error_of (Ok x) d = d
error_of (Err e) d = e

pub is_error : {T : Type 0} (r : Result T KeyError) (e f : KeyError) → r ≡ Err e → r ≡ Err f → e ≡ f
is_error r e f is was = ap (λ r. error_of r e) (sym is ∙ was)

none_waits : (k : KeyDeviceState) → k.pending ≡ None → record k { pending = None } ≡ k
none_waits k none = ap (λ (o : Option Pending). record k { pending = o }) (sym none)

pub refused_signature : (signature : List ℕ) (old new : KeyDeviceState) (r : Result (Unit {0}) KeyError) (e : KeyError) → HasSize signature → r ≡ Err e
    → (r ≡ Err errors.NotSigning) ⊎ ((r ≡ Err errors.Memory) × IsSome old.pending) → (r ≡ Err errors.NotSigning → old.pending ≡ None)
    → new ≡ record old { pending = None } → IsRefusedSignature signature old (faults.Refused e) new
refused_signature signature old new r e size is (inl was) none same =
    subst (λ (x : KeyError). IsRefusedSignature signature old (faults.Refused x) new) (is_error r errors.NotSigning e was is)
    (size, none was, same ∙ none_waits old (none was))
refused_signature signature old new r e size is (inr was) none same =
    subst (λ (x : KeyError). IsRefusedSignature signature old (faults.Refused x) new) (is_error r errors.Memory e was.0 is) (size, was.1, same)

pub refused_pin : (shown bytes : List ℕ) (old : KeyDeviceState) (r : Result (Unit {0}) KeyLoadError) (e : KeyLoadError) → shown ≡ bytes → r ≡ Err e
    → (r ≡ Err loads.NoPin → old.pin ≡ None) → (r ≡ Err loads.BadPin → (s : PinState) → FitsPin s.pin s.retries → shown ≡ saved s → ⊥)
    → (r ≡ Err loads.BadAuthenticator → ⊥) → (r ≡ Err loads.Memory → ⊥) → IsRefusedPin bytes old (told_of_load e)
refused_pin shown bytes old r loads.NoPin same is none bad authenticator memory = none is
refused_pin shown bytes old r loads.BadPin same is none bad authenticator memory = λ s fits saves. bad is s fits (same ∙ saves)
refused_pin shown bytes old r loads.BadAuthenticator same is none bad authenticator memory = absurd (authenticator is)
refused_pin shown bytes old r loads.Memory same is none bad authenticator memory = absurd (memory is)

pub refusal : (waits : Type 0) (r : Result Told KeyError) (x e : KeyError) → r ≡ Err e → (r ≡ Err x) ⊎ (r ≡ Err errors.Memory) → (r ≡ Err x → waits → ⊥)
    → IsRefusal x waits (faults.Refused e)
refusal waits r x e is (inl was) not = inl (ap (λ (y : KeyError). faults.Refused y) (is_error r e x is was), not was)
refusal waits r x e is (inr was) not = inr (ap (λ (y : KeyError). faults.Refused y) (is_error r e errors.Memory is was))
