-- What is next in a ceremony, and why it ends.
use Rattle.std.specs.Prelude.{◌≡◌, ℕ, ◌+◌, ◌<◌, ◌≤◌, List, [], ◌∷◌, length, Bool, true, false, Option, Some, None, unwrap_or, codes, ◌⊎◌}
use Rattle.ctap_encoding.specs.declared.error.Error.{Error}
use Rattle.ctap_open_replies.specs.Replies.{Info, TellsInfo}
use Rattle.pin_client_messages.specs.Commands.{PublicPoint}
use Rattle.pin_client_messages.specs.Replies.{IsDone, IsNotDone}
use Rattle.pin_protocols.specs.Flows.{IsChangePin, IsChangePinAsk, IsSetPin, IsSetPinAsk, NoRequest, Requests}
use Rattle.pin_protocols.specs.Pins.{pin_fault}
use Rattle.pin_protocols.specs.declared.protocol.Protocol.{Protocol}
use Rattle.client_ceremony.specs.Commands.{Registers, SignsIn}
use Rattle.client_ceremony.specs.Exchanges.{Ends, Replied, Sends, StopsBy, Then, Told, Untold}
use Rattle.client_ceremony.specs.Facts.{Facts}
use Rattle.client_ceremony.specs.Refusals.{of_reply}
use Rattle.client_ceremony.specs.Tokens.{HasPin, HasPoint, NoPin, NoPoint}
use Rattle.client_ceremony.specs.Way.{is_fido2, option_told, protocol_told}
use Rattle.client_ceremony.specs.declared.halt.Halt.{Halt}
use Rattle.client_ceremony.specs.declared.halt.Halt.TheVariants as halts
use Rattle.client_ceremony.specs.declared.refusal.Refusal.{Refusal}
use Rattle.client_ceremony.specs.declared.refusal.Refusal.TheVariants as refusals
use Rattle.client_ceremony.specs.declared.step.Step.{Step}
use Rattle.client_ceremony.specs.declared.step.Step.TheVariants as steps
use Rattle.client_ceremony.specs.declared.wish.Wish.{Wish}
use Rattle.client_ceremony.specs.declared.wish.Wish.TheVariants as wishes

-- ---- getInfo (CTAP 2.1, section 6.4), which is the command byte 4, and comes first

abbrev pub GetsInfo : List ℕ → Type 0
GetsInfo m = m ≡ 4 ∷ []

abbrev pub HasInfo : Facts → Info → Type 0
HasInfo k info = Told k 0 GetsInfo TellsInfo info × (is_fido2 info ≡ true)

abbrev pub NoInfo : Facts → Halt → Type 0
NoInfo k =
    Then (Told k 0 GetsInfo TellsInfo) (Untold k 0 GetsInfo TellsInfo) (λ info. Ends (λ f. (is_fido2 info ≡ false) × (f ≡ refusals.U2fOnly)))

-- ---- a new PIN (6.5.5.5, 6.5.5.6)

-- the option clientPin is false where the key takes a PIN and has none, and true where it has one (6.4)
abbrev pub pin_set_fault : (is_set : Bool) → Option Bool → Option Refusal
pin_set_fault is_set None = Some refusals.PinNotOffered
pin_set_fault true (Some false) = Some refusals.PinNotSet
pin_set_fault false (Some true) = Some refusals.PinAlreadySet
pin_set_fault true (Some true) = None
pin_set_fault false (Some false) = None

abbrev pub SetsBy : Info → Bool → Protocol → Type 0
SetsBy info is_set p = (pin_set_fault is_set (option_told (codes "clientPin") info) ≡ None) × (protocol_told info ≡ Some p)

abbrev pub SetsNot : Info → Bool → Refusal → Type 0
SetsNot info is_set f =
    (pin_set_fault is_set (option_told (codes "clientPin") info) ≡ Some f)
    ⊎ ((pin_set_fault is_set (option_told (codes "clientPin") info) ≡ None) × (protocol_told info ≡ None) × (f ≡ refusals.NoProtocol))

-- minPINLength, which is 4 where it was not given (6.4)
abbrev pub min_length : Info → ℕ
min_length info = unwrap_or info.min_pin_length 4

-- the request that is sent after n others is next, was refused, or carried out
abbrev pub NotDone : List ℕ → Refusal → Type 0
NotDone r f = (e : Error) × IsNotDone r e × (f ≡ of_reply e)

abbrev pub Done : Facts → ℕ → (List ℕ → Type 0) → Halt → Type 0
Done k n P h =
    Sends k n P h
    ⊎ ((r : List ℕ) × Replied k n P r × (Ends (NotDone r) h ⊎ (IsDone r × (h ≡ halts.Steps (n + 1) steps.PinIsSet))))

-- setPIN is not made, or what comes of it
abbrev pub SetsTo : Facts → Info → List ℕ → Protocol → PublicPoint → Halt → Type 0
SetsTo k info new p peer h =
    StopsBy 2 (NoRequest k.answers p (IsSetPinAsk k.answers p peer new) (λ f. pin_fault (min_length info) new ≡ Some f) (IsSetPin k.answers p peer new)) h
    ⊎ ((pin_fault (min_length info) new ≡ None) × Done k 2 (Requests p (IsSetPin k.answers p peer new)) h)

abbrev pub SetsPin : Facts → Info → List ℕ → Halt → Type 0
SetsPin k info new =
    Then (SetsBy info false) (Ends (SetsNot info false)) (λ p. Then (HasPoint k 1 p) (NoPoint k 1 p) (SetsTo k info new p))

-- the same for changePIN
abbrev pub ChangesBy : Facts → Info → List ℕ → Protocol → List ℕ → PublicPoint → Halt → Type 0
ChangesBy k info new p pin peer h =
    StopsBy 3 (NoRequest k.answers p (IsChangePinAsk k.answers p peer pin new) (λ f. pin_fault (min_length info) new ≡ Some f) (IsChangePin k.answers p peer pin new)) h
    ⊎ ((pin_fault (min_length info) new ≡ None) × Done k 3 (Requests p (IsChangePin k.answers p peer pin new)) h)

abbrev pub ChangesPin : Facts → Info → List ℕ → Halt → Type 0
ChangesPin k info new =
    Then (SetsBy info true) (Ends (SetsNot info true)) (λ p.
    Then (HasPin k p) (NoPin k p) (λ pin.
    Then (HasPoint k 2 p) (NoPoint k 2 p) (ChangesBy k info new p pin)))

-- ---- the whole

abbrev pub Follows : Facts → Info → Wish → Halt → Type 0
Follows k info (wishes.Creates c) h = Registers k info c h
Follows k info (wishes.Asserts a) h = SignsIn k info a h
Follows k info (wishes.SetsPin new) h = SetsPin k info new.now h
Follows k info (wishes.ChangesPin new) h = ChangesPin k info new.now h

abbrev pub HaltsAt : Wish → Facts → Halt → Type 0
HaltsAt w k = Then (HasInfo k) (NoInfo k) (λ info. Follows k info w)

-- the step that is next: the key replied to no more messages than were sent
abbrev pub IsNext : Wish → Facts → Step → Type 0
IsNext w k s = (sent : ℕ) × HaltsAt w k (halts.Steps sent s) × (length k.replies ≤ sent)

-- why it ends; running out of memory may come always
abbrev pub IsRefusal : Wish → Facts → Refusal → Type 0
IsRefusal w k f =
    (f ≡ refusals.Memory)
    ⊎ (HaltsAt w k (halts.Refuses f)
    ⊎ ((f ≡ refusals.TooManyReplies) × (sent : ℕ) × (s : Step) × HaltsAt w k (halts.Steps sent s) × (sent < length k.replies)))
