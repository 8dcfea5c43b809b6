-- What was found of the members of client data. Private functions are proved against these.
use Rattle.std.specs.Prelude.{◌≡◌, ℕ, List, codes, Option, Some, option_map, option_and_then}
use Rattle.std.specs.Borrow.{Bor}
use Rattle.json.specs.Token.{Token}
use Rattle.serde_json.specs.Data.{Data, Members, put}
use Rattle.serde_json.specs.Find.{as_bool, as_str, get_member}
use Rattle.clientdata.specs.declared.members.Found.{Found}
use Rattle.clientdata.specs.declared.members.Top.{Top}
use Rattle.clientdata.specs.declared.members.Top.TheVariants as lent
use Rattle.clientdata.specs.declared.seen.Binding.{Binding}
use Rattle.clientdata.specs.declared.seen.CrossOrigin.{CrossOrigin}
use Rattle.clientdata.specs.declared.seen.TopOrigin.{TopOrigin}
use Rattle.clientdata.specs.declared.seen.TopOrigin.TheVariants as top
use Rattle.clientdata.specs.declared.seen.Seen.{Seen}
use Rattle.clientdata.specs.Passing.{value_at}
use Rattle.clientdata.specs.Reading.{text_member, status_binding, member_binding, truth_crossing, member_crossing, text_top, member_top}

-- what a value says as the member `tokenBinding`, `crossOrigin` or `topOrigin`
abbrev pub binding_by : Data → Binding
binding_by value = status_binding (text_member (codes "status") value)

abbrev pub crossing_by : Data → CrossOrigin
crossing_by value = truth_crossing (as_bool value)

abbrev pub top_by : Data → TopOrigin
top_by value = text_top (as_str value)

-- a lent text
abbrev pub text_in : Option (Bor (List ℕ)) → Option (List ℕ)
text_in lent = option_map (λ text. text.now) lent

-- the page at the top, as it is lent
abbrev pub top_in : Top → TopOrigin
top_in lent.Absent = top.Absent
top_in (lent.Named page) = top.Named page.now
top_in lent.Other = top.Other

-- what was found is what these members say
pub record IsFound (found : Found) (ms : Members) : Type 0 where
  pub kind : text_in found.kind ≡ option_and_then as_str (get_member (codes "type") ms)
  pub challenge : text_in found.challenge ≡ option_and_then as_str (get_member (codes "challenge") ms)
  pub origin : text_in found.origin ≡ option_and_then as_str (get_member (codes "origin") ms)
  pub binding : found.binding ≡ member_binding (get_member (codes "tokenBinding") ms)
  pub cross_origin : found.cross_origin ≡ member_crossing (get_member (codes "crossOrigin") ms)
  pub top_origin : top_in found.top_origin ≡ member_top (get_member (codes "topOrigin") ms)

-- one more member is read, and what was found of those before it becomes what these and it say
abbrev pub TakesMember : List ℕ → Found → Found → List Token → List Token → Type 0
TakesMember name found now old new =
    (value : Data) × (value_at 126 old ≡ Some (value, new)) × ((ms : Members) → IsFound found ms → IsFound now (put name value ms))

-- client data of what was found: none where a text is not there
abbrev pub seen_found : Found → Option Seen
seen_found found =
    option_and_then (λ kind.
    option_and_then (λ challenge.
    option_map (λ origin. record {
      kind = kind;
      challenge = challenge;
      origin = origin;
      binding = found.binding;
      cross_origin = found.cross_origin;
      top_origin = top_in found.top_origin;
    })
    (text_in found.origin))
    (text_in found.challenge))
    (text_in found.kind)
