-- What a key told of itself (CTAP 2.1, section 6.4), and which verification of the user follows from it.
use Rattle.std.specs.Prelude.{ℕ, ◌==◌, List, [], Bool, true, false, ◌&&◌, ◌||◌, not, Option, is_some, option_and_then, unwrap_or, find, codes, if◌then◌else◌}
use Rattle.std.specs.List.{list_any}
use Rattle.std.specs.Str.{bytes_eq}
use Rattle.ctap_open_replies.specs.Replies.{Info}
use Rattle.ctap_open_requests.specs.Limits.{value_of}
use Rattle.pin_protocols.specs.declared.protocol.Protocol.{Protocol}
use Rattle.pin_protocols.specs.Protocols.{protocol_of}
use Rattle.client_ceremony.specs.declared.way.Way.{Way}
use Rattle.client_ceremony.specs.declared.way.Way.TheVariants as ways
use Rattle.client_ceremony.specs.declared.wish.Asserting.{Asserting}
use Rattle.client_ceremony.specs.declared.wish.Creating.{Creating}
use Rattle.client_ceremony.specs.declared.wish.Requirement.{Requirement}
use Rattle.client_ceremony.specs.declared.wish.Requirement.TheVariants as requirements

-- ---- what the key said of itself

abbrev pub is_version : List ℕ → Bool
is_version v = bytes_eq v (codes "FIDO_2_0") || (bytes_eq v (codes "FIDO_2_1_PRE") || bytes_eq v (codes "FIDO_2_1"))

-- one of the versions is one of CTAP 2
abbrev pub is_fido2 : Info → Bool
is_fido2 info = list_any is_version info.versions

abbrev pub option_told : List ℕ → Info → Option Bool
option_told name info = option_and_then (value_of name) info.options

-- an option that the key gave as true
abbrev pub is_on : List ℕ → Info → Bool
is_on name info = unwrap_or (option_told name info) false

-- the first of pinUvAuthProtocols that is one or two
abbrev pub protocol_told : Info → Option Protocol
protocol_told info = option_and_then protocol_of (find (λ n. n == 1 || n == 2) (unwrap_or info.pin_uv_auth_protocols []))

-- ---- whether the credential is to be discoverable (WebAuthn Level 2, section 5.4.6)

abbrev pub is_discoverable : Info → Requirement → Bool
is_discoverable info requirements.Required = true
is_discoverable info requirements.Preferred = is_on (codes "rk") info
is_discoverable info requirements.Discouraged = false

-- ---- the way

-- the first that the key offers: by itself for a token (6.5.5.7.3), by itself where it knows no such tokens (the option
-- uv of 6.1 and 6.2), by PIN (6.5.5.7.1 and 6.5.5.7.2)
abbrev pub offered : Info → Bool → Way
offered info built_in =
    if (built_in && is_on (codes "uv") info) && (is_on (codes "pinUvAuthToken") info && is_some (protocol_told info)) then ways.BuiltInToken
    else if (built_in && is_on (codes "uv") info) && not (is_on (codes "pinUvAuthToken") info) then ways.BuiltInOption
    else if is_on (codes "clientPin") info then ways.Pin
    else ways.Nothing

-- the key makes no such credential, or no assertion, without (6.1.2, 6.2.2 and alwaysUv of 6.4)
abbrev pub creation_demands : Info → Bool → Bool
creation_demands info discoverable =
    is_on (codes "alwaysUv") info || (is_on (codes "clientPin") info && (discoverable || not (is_on (codes "makeCredUvNotRqd") info)))

abbrev pub assertion_demands : Info → Bool
assertion_demands info = is_on (codes "alwaysUv") info

abbrev pub or_presence : Way → Way
or_presence ways.BuiltInToken = ways.BuiltInToken
or_presence ways.BuiltInOption = ways.BuiltInOption
or_presence ways.Pin = ways.Pin
or_presence ways.Presence = ways.Presence
or_presence ways.Nothing = ways.Presence

-- what is offered, where it is required or the key demands it; that or else presence alone, where it is preferred; and
-- presence alone where it is discouraged (WebAuthn Level 2, section 5.8.6)
abbrev pub way : Requirement → (demanded : Bool) → Way → Way
way wanted true w = w
way requirements.Required false w = w
way requirements.Preferred false w = or_presence w
way requirements.Discouraged false w = ways.Presence

abbrev pub creation_way : Info → Creating → Bool → Way
creation_way info c built_in = way c.verification (creation_demands info (is_discoverable info c.resident)) (offered info built_in)

abbrev pub assertion_way : Info → Asserting → Bool → Way
assertion_way info a built_in = way a.verification (assertion_demands info) (offered info built_in)
