-- What a line says: the act that it names and the act's members, over the reading of JSON that `serde_json` states.
use Rattle.std.specs.Prelude.{◌≡◌, ℕ, true, List, codes, Some, option_map, string_bytes}
use Rattle.json_lines.specs.Lines.{IsLine}
use Rattle.json_lines.specs.Members.{HasBytes, HasFlag, HasNumber, HasText, MayHaveText, member}
use Rattle.serde_json.specs.Data.{Data}
use Rattle.client_acts.specs.declared.act.Act.{Act}
use Rattle.client_acts.specs.declared.act.Act.TheVariants as acts
use Rattle.client_acts.specs.declared.act.Aim.{Aim}
use Rattle.client_acts.specs.declared.act.Aim.TheVariants as aims
use Rattle.client_acts.specs.declared.act.Further.{Further}
use Rattle.client_acts.specs.declared.act.Further.TheVariants as furthers
use Rattle.client_acts.specs.declared.options.CreationOptions.{CreationOptions}
use Rattle.client_acts.specs.declared.options.RequestOptions.{RequestOptions}

-- the options of a registration (WebAuthn Level 3, section 5.1.8)
pub record SaysCreation (d : Data) (o : CreationOptions) : Type 0 where
  pub options : Data
  pub rp : Data
  pub user : Data
  pub origin : HasText (codes "origin") d (string_bytes o.origin)
  pub has_options : member (codes "options") d ≡ Some options
  pub has_rp : member (codes "rp") options ≡ Some rp
  pub has_user : member (codes "user") options ≡ Some user
  pub rp_id : MayHaveText (codes "id") rp (option_map string_bytes o.rp_id)
  pub user_id : HasBytes (codes "id") user o.user.id.items
  pub challenge : HasBytes (codes "challenge") options o.challenge.items

-- the options of a sign-in (section 5.1.9)
pub record SaysRequest (d : Data) (o : RequestOptions) : Type 0 where
  pub options : Data
  pub origin : HasText (codes "origin") d (string_bytes o.origin)
  pub has_options : member (codes "options") d ≡ Some options
  pub rp_id : MayHaveText (codes "rpId") options (option_map string_bytes o.rp_id)
  pub challenge : HasBytes (codes "challenge") options o.challenge.items

abbrev pub SaysAim : Data → Aim → Type 0
SaysAim d (aims.Register o) = HasText (codes "act") d (codes "register") × SaysCreation d o
SaysAim d (aims.SignIn o) = HasText (codes "act") d (codes "sign_in") × SaysRequest d o
SaysAim d aims.Inform = HasText (codes "act") d (codes "information")
SaysAim d (aims.SetPin new) = HasText (codes "act") d (codes "set_pin") × HasText (codes "new_pin") d (string_bytes new)
SaysAim d (aims.ChangePin new) = HasText (codes "act") d (codes "change_pin") × HasText (codes "new_pin") d (string_bytes new)

abbrev pub SaysFurther : Data → Further → Type 0
SaysFurther d (furthers.Packet p) = HasText (codes "act") d (codes "packet") × HasBytes (codes "packet") d p.0
SaysFurther d (furthers.Pin pin) = HasText (codes "act") d (codes "pin") × HasText (codes "pin") d (string_bytes pin)
SaysFurther d (furthers.Computed bytes) = HasText (codes "act") d (codes "computed") × HasBytes (codes "bytes") d bytes.items
SaysFurther d (furthers.Choose number) = HasText (codes "act") d (codes "choose") × HasNumber (codes "number") d number
SaysFurther d furthers.Cancel = HasText (codes "act") d (codes "cancel")

abbrev pub SaysAct : Data → Act → Type 0
SaysAct d (acts.Begin begin) = SaysAim d begin.aim × HasBytes (codes "nonce") d begin.nonce × HasFlag (codes "built_in") d true begin.built_in
SaysAct d (acts.Further further) = SaysFurther d further

-- a line is one that is read, and asks for the act under this number
abbrev pub Reads : List ℕ → ℕ → Act → Type 0
Reads line id act = (d : Data) × IsLine line d × HasNumber (codes "id") d id × SaysAct d act
