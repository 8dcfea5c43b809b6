-- What a key told of itself by getInfo (CTAP 2.1, section 6.4), and what is asked of it.
use Rattle.std.specs.Prelude.{◌≡◌, ℕ, ◌<◌, ◌≤◌, List, length, Bool, true, false, ◌&&◌, nat_lt, Option, Some, None, option_map, option_and_then, unwrap_or, find, codes}
use Rattle.std.specs.List.{list_any}
use Rattle.std.specs.Str.{bytes_eq}
use Rattle.ctap_requests.specs.Entities.{CreationFlags}
use Rattle.ctap_open_replies.specs.Replies.{Info}
use Rattle.ctap_open_requests.specs.declared.error.RequestError.{RequestError}
use Rattle.ctap_open_requests.specs.declared.error.RequestError.TheVariants as errors

-- ---- options

abbrev pub value_of : List ℕ → List (List ℕ × Bool) → Option Bool
value_of name options = option_map (λ o. o.1) (find (λ o. bytes_eq o.0 name) options)

-- the option's value as it was given, or else its default
abbrev pub told_option : List ℕ → Bool → Info → Bool
told_option name default info = unwrap_or (option_and_then (value_of name) info.options) default

-- it is not asked for, or the key offers it
abbrev pub is_offered : Option Bool → Bool → Bool
is_offered None told = true
is_offered (Some false) told = true
is_offered (Some true) told = told

-- rk, up and uv, which are by default false, true and false
abbrev pub offers : Info → CreationFlags → Bool
offers info o =
    is_offered o.rk (told_option (codes "rk") false info)
    && (is_offered o.up (told_option (codes "up") true info) && is_offered o.uv (told_option (codes "uv") false info))

-- ---- sizes: maxCredentialCountInList, maxCredentialIdLength, maxMsgSize

-- more than the limit that was given, if one was
abbrev pub is_over : Option ℕ → ℕ → Bool
is_over None n = false
is_over (Some limit) n = nat_lt limit n

abbrev pub has_long_id : Info → List (List ℕ) → Bool
has_long_id info ids = list_any (λ id. is_over info.max_credential_id_length (length id)) ids

-- 1,024 where it was not given
abbrev pub max_message : Info → ℕ
max_message info = unwrap_or info.max_msg_size 1024

-- ---- requests within these; `of` says which bytes are the request

-- the options are offered, and the list and each id in it are not too long
pub record IsWithin (info : Info) (o : CreationFlags) (ids : List (List ℕ)) : Type 0 where
  pub offered : offers info o ≡ true
  pub count : is_over info.max_credential_count_in_list (length ids) ≡ false
  pub lengths : has_long_id info ids ≡ false

pub record IsWritten (info : Info) (o : CreationFlags) (ids : List (List ℕ)) (of : List ℕ → Type 0) (bs : List ℕ) : Type 0 where
  pub within : IsWithin info o ids
  pub spelled : of bs
  pub short : length bs ≤ max_message info

-- why it is not written: each where none before it applies
abbrev pub IsRefused : Info → CreationFlags → List (List ℕ) → (List ℕ → Type 0) → RequestError → Type 0
IsRefused info o ids of errors.Memory = Unit {0}
IsRefused info o ids of errors.OptionNotOffered = offers info o ≡ false
IsRefused info o ids of errors.ListTooLong = (offers info o ≡ true) × (is_over info.max_credential_count_in_list (length ids) ≡ true)
IsRefused info o ids of errors.IdTooLong =
    (offers info o ≡ true) × (is_over info.max_credential_count_in_list (length ids) ≡ false) × (has_long_id info ids ≡ true)
IsRefused info o ids of errors.Unfit = IsWithin info o ids × ((bs : List ℕ) → of bs → ⊥)
IsRefused info o ids of errors.MessageTooLong = IsWithin info o ids × (bs : List ℕ) × of bs × (max_message info < length bs)
