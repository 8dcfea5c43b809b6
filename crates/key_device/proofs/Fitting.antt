-- What a request waits for fits what was read of it, and goes on fitting.
use Rattle.std.proofs.Common.{◌≡◌, ◌≢◌, ℕ, ◌⊎◌, inl, inr, List, [], ◌∷◌, Option, Some, None, Bool, true, false, refl, sym, subst, Ok}
use Rattle.std.specs.Prelude.{◌==◌, IsSome, if◌then◌else◌, option_map}
use Rattle.std.proofs.lemmas.Bool.Decides.{eqb_tells}
use Rattle.hidlink.specs.Ranks.{TransactionState, Idle, Receiving, Working, IsWorking, working_channel}
use Rattle.pin_protocols.specs.Asks.{Asked}
use Rattle.pin_key_messages.specs.Protected.{Protection}
use Rattle.key_pin.specs.Grants.{granted}
use Rattle.key_pin.specs.State.{PinState, pin_view}
use Rattle.key_pin.specs.declared.state.ClientPin.{ClientPin}
use Rattle.key_pin.specs.declared.words.PinWords.{PinWords}
use Rattle.key_device.specs.Computing.{Awaits, Entries, IsGrantedStage, claim_of}
use Rattle.key_device.specs.Key.{Fits, IsKept, unread}
use Rattle.key_device.specs.Reading.{ByParam, IsAsked, ReadsAs, ReadsCommand, ReadsParam, asks_verification, command_of}
use Rattle.key_device.specs.Stages.{IsReading, ReadsBy, is_some}
use Rattle.key_device.specs.declared.reading.Reading.TheVariants as readings
use Rattle.key_device.specs.declared.stage.Computation.{Computation}
use Rattle.key_device.specs.declared.stage.PinRequest.{PinRequest}
use Rattle.key_device.specs.declared.stage.PinRequest.TheVariants as requests
use Rattle.key_device.specs.declared.stage.ProtectedAsked.{ProtectedAsked}
use Rattle.key_device.specs.declared.stage.Stage.{Stage}
use Rattle.key_device.specs.declared.stage.Stage.TheVariants as stages

-- ---- a device that works on none

pub fits_rest : (pin : Option PinState) (s : TransactionState) (stage : Stage) → working_channel s ≡ None → stage ≡ stages.Nothing → Fits pin s stage
fits_rest pin Idle stage rests nothing = nothing
fits_rest pin (Receiving cid cmd len next bytes) stage rests nothing = nothing
fits_rest pin (Working cid payload) stage rests nothing = absurd (cc)

pub rests_at : (pin : Option PinState) (s : TransactionState) (stage : Stage) → working_channel s ≡ None → Fits pin s stage → stage ≡ stages.Nothing
rests_at pin Idle stage rests fits = fits
rests_at pin (Receiving cid cmd len next bytes) stage rests fits = fits
rests_at pin (Working cid payload) stage rests fits = absurd (cc)

-- one that works waits for something
pub works_at_some : (pin : Option PinState) (s : TransactionState) → IsWorking s → Fits pin s stages.Nothing → ⊥
works_at_some pin (Working cid payload) works fits = fits
works_at_some pin Idle works fits = works
works_at_some pin (Receiving cid cmd len next bytes) works fits = works

pub fits_unread : (pin : Option PinState) (s : TransactionState) → IsWorking s → Fits pin s stages.Unread
fits_unread pin (Working cid payload) works = tt
fits_unread pin Idle works = absurd works
fits_unread pin (Receiving cid cmd len next bytes) works = absurd works

-- one that is to be read anew
pub fits_anew : (pin pin_after : Option PinState) (s : TransactionState) (stage : Stage) → Fits pin s stage → Fits pin_after s (unread s stage)
fits_anew pin pin_after Idle stage h = h
fits_anew pin pin_after (Receiving cid cmd len next bytes) stage h = h
fits_anew pin pin_after (Working cid payload) stage h = tt

-- ---- a request of the PIN, whether one is set or not

not_by : (needs verifies : Bool) (r : PinRequest)
    → readings.Pin r ≡ (if needs then readings.Refused 0x36 else if verifies then readings.Refused 0x2C else readings.AsItIs) → ⊥
not_by true verifies r e = cc
not_by false true r e = cc
not_by false false r e = cc

by_pin : (a b : Bool) (bs : List ℕ) (q : Protection) (o : Option (List ℕ)) (r : PinRequest) → ByParam a bs q o (readings.Pin r)
    → ByParam b bs q o (readings.Pin r)
by_pin a b bs q None r h = absurd (not_by a (asks_verification q.options) r h)
by_pin a b bs q (Some []) r h = h
by_pin a b bs q (Some (x ∷ xs)) r h = h

param_pin : (a b : Bool) (bs : List ℕ) (r : PinRequest) → ReadsParam a bs (readings.Pin r) → ReadsParam b bs (readings.Pin r)
param_pin a b bs r (inl h) = inl (h.0, h.1, by_pin a b bs h.0 h.0.param r h.2)
param_pin a b bs r (inr h) = inr h

pub kept_on : (s t : PinState) (bs : List ℕ) (r : PinRequest) → IsKept (Some s) bs r → IsKept (Some t) bs r
kept_on s t bs r h = record {
  command = h.command;
  creation = λ e. param_pin (is_some s.pin) (is_some t.pin) bs r (h.creation e);
  assertion = h.assertion;
  other = h.other;
}

-- the host's words are waited for anew
pub fits_words : (s t : PinState) (state : TransactionState) (r : PinRequest) → Fits (Some s) state (stages.Words r) → Fits (Some t) state (stages.Words r)
fits_words s t Idle r h = h
fits_words s t (Receiving cid cmd len next bytes) r h = h
fits_words s t (Working cid bs) r h = kept_on s t bs r h

-- what the host was asked for belongs to what was read
pub words_of : (pin : Option PinState) (state : TransactionState) (r : PinRequest) (c : Computation) → Fits pin state (stages.Answer r c)
    → Fits pin state (stages.Words r)
words_of pin Idle r c h = absurd (cc)
words_of pin (Receiving cid cmd len next bytes) r c h = absurd (cc)
words_of pin (Working cid bs) r c h = h

-- a key that keeps one takes PINs
pub takes_pins : (pin : Option PinState) (state : TransactionState) (r : PinRequest) → Fits pin state (stages.Words r) → (s : PinState) × (pin ≡ Some s)
takes_pins (Some s) state r h = (s, refl)
takes_pins None Idle r h = absurd (cc)
takes_pins None (Receiving cid cmd len next bytes) r h = absurd (cc)
takes_pins None (Working cid bs) r h = absurd h

pub some_pin : (o : Option ClientPin) (s : PinState) → option_map pin_view o ≡ Some s → IsSome o
some_pin (Some p) s e = refl
some_pin None s e = absurd (cc)

-- ---- what is read

kept_read : (pin : Option PinState) (bs : List ℕ) (r : PinRequest) → ReadsBy pin bs (readings.Pin r) → IsKept pin bs r
kept_read (Some s) bs r h = h
kept_read None bs r h = absurd (cc)

pub fits_pin : (pin : Option PinState) (state : TransactionState) (r : PinRequest) → IsReading pin state (readings.Pin r) → Fits pin state (stages.Words r)
fits_pin pin (Working cid bs) r h = kept_read pin bs r h
fits_pin pin Idle r h = absurd h
fits_pin pin (Receiving cid cmd len next bytes) r h = absurd h

pub fits_user : (pin : Option PinState) (state : TransactionState) → IsReading pin state readings.AsItIs → Fits pin state stages.User
fits_user pin (Working cid bs) h = h
fits_user pin Idle h = absurd h
fits_user pin (Receiving cid cmd len next bytes) h = absurd h

pub fits_touch : (pin : Option PinState) (state : TransactionState) → IsReading pin state readings.Touch → Fits pin state stages.Touch
fits_touch pin (Working cid bs) h = h
fits_touch pin Idle h = absurd h
fits_touch pin (Receiving cid cmd len next bytes) h = absurd h

-- ---- a computation

-- what the host is asked for belongs to what was read
pub fits_answer : (s t : PinState) (state : TransactionState) (r : PinRequest) (words : PinWords) (es : Entries) (a : Asked) (stage : Stage)
    → Fits (Some s) state (stages.Words r) → Awaits r words es a stage → Fits (Some t) state stage
fits_answer s t Idle r words es a stage h w = absurd (cc)
fits_answer s t (Receiving cid cmd len next bytes) r words es a stage h w = absurd (cc)
fits_answer s t (Working cid bs) r words es a (stages.Answer q c) h w = subst (λ (x : PinRequest). IsKept (Some t) bs x) (sym w.0) (kept_on s t bs r h)
fits_answer s t (Working cid bs) r words es a stages.Nothing h w = absurd w
fits_answer s t (Working cid bs) r words es a stages.Unread h w = absurd w
fits_answer s t (Working cid bs) r words es a (stages.Words q) h w = absurd w
fits_answer s t (Working cid bs) r words es a stages.User h w = absurd w
fits_answer s t (Working cid bs) r words es a stages.Touch h w = absurd w
fits_answer s t (Working cid bs) r words es a (stages.Granted g) h w = absurd w

-- ---- a grant

asked_param : (needs : Bool) (bs : List ℕ) (q : Protection) (o : Option (List ℕ)) (a : ProtectedAsked)
    → ByParam needs bs q o (readings.Pin (requests.Protected a)) → IsAsked bs q a.param.items a
asked_param needs bs q None a h = absurd (not_by needs (asks_verification q.options) (requests.Protected a) h)
asked_param needs bs q (Some []) a h = absurd (cc)
asked_param needs bs q (Some (x ∷ xs)) a (inl h) =
    let e : readings.Pin (requests.Protected a) ≡ readings.Pin (requests.Protected h.0) = h.2 in
    let same : h.0 ≡ a = cc in
    subst (λ (b : ProtectedAsked). IsAsked bs q b.param.items b) same (subst (λ (p : List ℕ). IsAsked bs q p h.0) (sym h.1.param) h.1)
asked_param needs bs q (Some (x ∷ xs)) a (inr h) = let e : readings.Pin (requests.Protected a) ≡ readings.Refused h.0 = h.2 in absurd (cc)

asked_by : (needs : Bool) (bs : List ℕ) (a : ProtectedAsked) → ReadsParam needs bs (readings.Pin (requests.Protected a))
    → (q : Protection) × IsAsked bs q a.param.items a
asked_by needs bs a (inl h) = (h.0, asked_param needs bs h.0 h.0.param a h.2)
asked_by needs bs a (inr h) = let e : readings.Pin (requests.Protected a) ≡ readings.Refused h.0 = h.2 in absurd (cc)

no_command : (bs : List ℕ) (a : ProtectedAsked) → ReadsCommand bs (readings.Pin (requests.Protected a)) → ⊥
no_command bs a (inl h) = let e : readings.Pin (requests.Protected a) ≡ readings.Pin (requests.Command h.0) = h.2 in cc
no_command bs a (inr h) = let e : readings.Pin (requests.Protected a) ≡ readings.Refused h.0 = h.2 in cc

-- what is kept of a makeCredential or getAssertion is what it asks to be granted
asked_of : (set : Bool) (bs : List ℕ) (a : ProtectedAsked) → ReadsAs set bs (readings.Pin (requests.Protected a))
    → (q : Protection) × IsAsked bs q a.param.items a
asked_of set [] a h =
    let e : readings.Pin (requests.Protected a) ≡ readings.AsItIs = h.other (λ e. cc) (λ e. cc) (λ e. cc) in
    absurd (cc)
asked_of set (c ∷ bs) a h = by (eqb_tells c 6) (eqb_tells c 1) (eqb_tells c 2)
  where
    is : (n : ℕ) → c ≡ n → command_of (c ∷ bs) ≡ Some n
    is n e = rw e refl

    not : (n : ℕ) → c ≢ n → command_of (c ∷ bs) ≢ Some n
    not n other e = other (cc)

    by : ((c == 6 ≡ true) × (c ≡ 6)) ⊎ ((c == 6 ≡ false) × (c ≢ 6)) → ((c == 1 ≡ true) × (c ≡ 1)) ⊎ ((c == 1 ≡ false) × (c ≢ 1))
        → ((c == 2 ≡ true) × (c ≡ 2)) ⊎ ((c == 2 ≡ false) × (c ≢ 2)) → (q : Protection) × IsAsked (c ∷ bs) q a.param.items a
    by (inl six) one two = absurd (no_command (c ∷ bs) a (h.command (is 6 six.1)))
    by (inr six) (inl one) two = asked_by set (c ∷ bs) a (h.creation (is 1 one.1))
    by (inr six) (inr one) (inl two) = asked_by false (c ∷ bs) a (h.assertion (is 2 two.1))
    by (inr six) (inr one) (inr two) =
        let e : readings.Pin (requests.Protected a) ≡ readings.AsItIs = h.other (not 6 six.1) (not 1 one.1) (not 2 two.1) in
        absurd (cc)

pub fits_granted : (s t : PinState) (state : TransactionState) (a : ProtectedAsked) (es : Entries) (stage : Stage)
    → Fits (Some s) state (stages.Words (requests.Protected a)) → granted es (claim_of a) s.token ≡ Ok tt → IsGrantedStage a stage → Fits (Some t) state stage
fits_granted s t Idle a es stage h grants w = absurd (cc)
fits_granted s t (Receiving cid cmd len next bytes) a es stage h grants w = absurd (cc)
fits_granted s t (Working cid bs) a es (stages.Granted g) h grants w =
    let asked = asked_of (is_some s.pin) bs a h in
    record { asked = a; protection = asked.0; read = asked.1; same = w; answers = es; token = s.token; grants = grants }
fits_granted s t (Working cid bs) a es stages.Nothing h grants w = absurd w
fits_granted s t (Working cid bs) a es stages.Unread h grants w = absurd w
fits_granted s t (Working cid bs) a es (stages.Words r) h grants w = absurd w
fits_granted s t (Working cid bs) a es (stages.Answer r c) h grants w = absurd w
fits_granted s t (Working cid bs) a es stages.User h grants w = absurd w
fits_granted s t (Working cid bs) a es stages.Touch h grants w = absurd w
