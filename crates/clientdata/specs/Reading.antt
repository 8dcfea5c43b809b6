-- Client data as they are read (WebAuthn Level 2, section 5.8.1), over the reading of JSON that `serde_json` states.
use Rattle.std.specs.Prelude.{ℕ, Bool, true, false, not, ◌&&◌, nat_eq, List, [], ◌∷◌, codes, Option, Some, None, option_map, option_and_then, if◌then◌else◌}
use Rattle.std.specs.List.{starts_with}
use Rattle.std.specs.Str.{bytes_eq, is_utf8}
use Rattle.serde_json.specs.Data.{Data}
use Rattle.serde_json.specs.Read as json
use Rattle.serde_json.specs.Find.{get, as_bool, as_str}
use Rattle.clientdata.specs.declared.seen.Binding.{Binding}
use Rattle.clientdata.specs.declared.seen.Binding.TheVariants.{Absent, Supported, NotSupported, Other}
use Rattle.clientdata.specs.declared.seen.CrossOrigin.{CrossOrigin}
use Rattle.clientdata.specs.declared.seen.CrossOrigin.TheVariants as cross
use Rattle.clientdata.specs.declared.seen.TopOrigin.{TopOrigin}
use Rattle.clientdata.specs.declared.seen.TopOrigin.TheVariants as top
use Rattle.clientdata.specs.declared.seen.Seen.{Seen}

-- UTF-8 without a byte order mark
abbrev pub is_text : List ℕ → Bool
is_text bytes = not (starts_with nat_eq bytes (0xef ∷ 0xbb ∷ 0xbf ∷ [])) && is_utf8 bytes

-- the text of a member of an object
abbrev pub text_member : List ℕ → Data → Option (List ℕ)
text_member name value = option_and_then as_str (get name value)

-- token binding by the text of its status
abbrev pub status_binding : Option (List ℕ) → Binding
status_binding None = Other
status_binding (Some status) =
    if bytes_eq status (codes "supported") then Supported
    else if bytes_eq status (codes "not-supported") then NotSupported
    else Other

-- token binding by its member
abbrev pub member_binding : Option Data → Binding
member_binding None = Absent
member_binding (Some member) = status_binding (text_member (codes "status") member)

abbrev pub binding_in : Data → Binding
binding_in value = member_binding (get (codes "tokenBinding") value)

-- the origin is another than that of a page above it, or not (Level 3, 5.8.1, `crossOrigin`)
abbrev pub crossing_of : Bool → CrossOrigin
crossing_of false = cross.False
crossing_of true = cross.True

-- anything but a truth value is something else
abbrev pub truth_crossing : Option Bool → CrossOrigin
truth_crossing None = cross.Other
truth_crossing (Some value) = crossing_of value

-- by its member
abbrev pub member_crossing : Option Data → CrossOrigin
member_crossing None = cross.Absent
member_crossing (Some member) = truth_crossing (as_bool member)

abbrev pub cross_origin_in : Data → CrossOrigin
cross_origin_in value = member_crossing (get (codes "crossOrigin") value)

-- the page at the top, where it is a text (Level 3, 5.8.1, `topOrigin`)
abbrev pub text_top : Option (List ℕ) → TopOrigin
text_top None = top.Other
text_top (Some page) = top.Named page

-- by its member
abbrev pub member_top : Option Data → TopOrigin
member_top None = top.Absent
member_top (Some member) = text_top (as_str member)

abbrev pub top_origin_in : Data → TopOrigin
top_origin_in value = member_top (get (codes "topOrigin") value)

-- a JSON value as client data: an object whose members `type`, `challenge` and `origin` are texts
abbrev pub seen_in : Data → Option Seen
seen_in value =
    option_and_then (λ kind.
    option_and_then (λ challenge.
    option_map (λ origin. record {
      kind = kind;
      challenge = challenge;
      origin = origin;
      binding = binding_in value;
      cross_origin = cross_origin_in value;
      top_origin = top_origin_in value;
    })
    (text_member (codes "origin") value))
    (text_member (codes "challenge") value))
    (text_member (codes "type") value)

-- bytes as client data
unfoldable pub seen_of : List ℕ → Option Seen
seen_of bytes = if is_text bytes then option_and_then seen_in (json.read bytes) else None
