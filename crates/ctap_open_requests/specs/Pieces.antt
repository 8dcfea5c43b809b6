-- What the private functions of these requests are proved against; no public clause cites it.
use Rattle.std.specs.Prelude.{◌≡◌, ◌++◌, ℕ, ◌<◌, ◌≤◌, List, length, true, false, Option, option_map, Result, Ok, Err}
use Rattle.ccbor.specs.Item.{Item, bytes, uint}
use Rattle.ctap_encoding.specs.Building.{member_list}
use Rattle.ctap_encoding.specs.Content.{item_of}
use Rattle.ctap_encoding.specs.Table.{record_of}
use Rattle.ctap_requests.specs.Entities.{CreationFlags, creation_options_members}
use Rattle.ctap_open_replies.specs.Replies.{Info}
use Rattle.ctap_open_requests.specs.Limits.{is_over, has_long_id, offers}
use Rattle.ctap_open_requests.specs.Requests.{Auth, options_content}
use Rattle.ctap_open_requests.specs.declared.error.RequestError.{RequestError}
use Rattle.ctap_open_requests.specs.declared.error.RequestError.TheVariants as errors

-- an option is not offered, the list too long, or an id of it
abbrev pub IsBeyond : Info → CreationFlags → List (List ℕ) → RequestError → Type 0
IsBeyond info o ids errors.OptionNotOffered = offers info o ≡ false
IsBeyond info o ids errors.ListTooLong = (offers info o ≡ true) × (is_over info.max_credential_count_in_list (length ids) ≡ true)
IsBeyond info o ids errors.IdTooLong =
    (offers info o ≡ true) × (is_over info.max_credential_count_in_list (length ids) ≡ false) × (has_long_id info ids ≡ true)
IsBeyond info o ids _ = ⊥

-- the request's bytes were made, no longer than the key takes; or there are none, or they are longer; or memory ran out
abbrev pub Finishes : {V : Type 0} → (V → List ℕ) → ℕ → (List ℕ → Type 0) → Result V RequestError → Type 0
Finishes items max of (Ok v) = of (items v) × (length (items v) ≤ max)
Finishes items max of (Err errors.Memory) = Unit {0}
Finishes items max of (Err errors.Unfit) = (bs : List ℕ) → of bs → ⊥
Finishes items max of (Err errors.MessageTooLong) = (bs : List ℕ) × of bs × (max < length bs)
Finishes items max of (Err _) = ⊥

-- these pairs, and after them those of the options and of the proof of a token, by three keys
abbrev pub with_end : (options_key param protocol : Item) → CreationFlags → Option Auth → List (Item × Item) → List (Item × Item)
with_end options_key param protocol options auth ps =
    ((ps ++ member_list options_key (option_map (item_of (record_of creation_options_members)) (options_content options)))
    ++ member_list param (option_map bytes (option_map (λ a. a.param) auth)))
    ++ member_list protocol (option_map uint (option_map (λ a. a.protocol) auth))
