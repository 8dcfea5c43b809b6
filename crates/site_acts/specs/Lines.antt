-- What a line says: the act that it names and each of the act's members, over the reading of JSON that `serde_json` states.
use Rattle.std.specs.Prelude.{◌≡◌, ◌⊎◌, ℕ, ⊤, false, true, List, [], ◌∷◌, codes, map, Some, None, option_and_then, option_map, string_bytes}
use Rattle.json_lines.specs.Lines.{IsLine}
use Rattle.json_lines.specs.Members.{HasBytes, HasFlag, HasList, HasNumber, HasText, MayHaveBytes, member}
use Rattle.serde_json.specs.Data.{Data}
use Rattle.serde_json.specs.Find.{as_array, as_bool, as_i64, as_number, as_str}
use Rattle.serde_json.specs.View.{items_of}
use Rattle.cose.specs.declared.key.Alg.{Alg}
use Rattle.cose.specs.declared.key.Alg.TheVariants.{Es256, EdDsa, Rs256}
use Rattle.cose.specs.declared.key.CoseKey.{CoseKey}
use Rattle.cose.specs.declared.key.CoseKey.TheVariants as keys
use Rattle.cose.specs.Keys.{alg_of, number_of, x_of}
use Rattle.authdata.specs.declared.response.AssertionResponse.{AssertionResponse}
use Rattle.authdata.specs.declared.response.RegistrationResponse.{RegistrationResponse}
use Rattle.site_state.specs.declared.session.Asks.{Asks}
use Rattle.site_acts.specs.declared.verified.Verified.{Verified}
use Rattle.site_acts.specs.declared.verified.Verified.TheVariants as found
use Rattle.site_acts.specs.declared.act.Act.{Act}
use Rattle.site_acts.specs.declared.act.Act.TheVariants as acts
use Rattle.site_acts.specs.declared.act.BeginRegistration.{BeginRegistration}
use Rattle.site_acts.specs.declared.act.BeginSignIn.{BeginSignIn}
use Rattle.site_acts.specs.declared.act.FinishRegistration.{FinishRegistration}
use Rattle.site_acts.specs.declared.act.FinishSignIn.{FinishSignIn}

-- ---- members of an object

-- each value is the text beside it
abbrev pub AreTexts : List Data → List (List ℕ) → Type 0
AreTexts ds list = map as_str ds ≡ map (λ text. Some text) list

-- a list of texts, which is empty where it is absent
abbrev pub HasTexts : List ℕ → Data → List (List ℕ) → Type 0
HasTexts name d list =
    ((ds : List Data) × (option_and_then as_array (member name d) ≡ Some (items_of ds)) × AreTexts ds list)
    ⊎ ((member name d ≡ None) × (list ≡ []))

abbrev pub IsAlgorithm : Data → Alg → Type 0
IsAlgorithm d alg = option_and_then as_i64 (as_number d) ≡ Some (number_of alg)

abbrev pub AreAlgorithms : List Data → List Alg → Type 0
AreAlgorithms ds algs = map (λ d. option_and_then as_i64 (as_number d)) ds ≡ map (λ alg. Some (number_of alg)) algs

-- algorithms by their COSE numbers; all where they are absent
abbrev pub HasAlgorithms : Data → List Alg → Type 0
HasAlgorithms d algs =
    ((ds : List Data) × (option_and_then as_array (member (codes "algorithms") d) ≡ Some (items_of ds)) × AreAlgorithms ds algs)
    ⊎ ((member (codes "algorithms") d ≡ None) × (algs ≡ Es256 ∷ EdDsa ∷ Rs256 ∷ []))

-- ---- the acts

-- how it is begun: not conditional, and with no attestation asked for, unless the line says so
pub record SaysAsks (d : Data) (asks : Asks) : Type 0 where
  pub conditional : HasFlag (codes "conditional") d false asks.conditional
  pub attestation : HasFlag (codes "attestation") d false asks.attestation

-- a registration that is to begin; the user's name is the account's where it is absent
pub record SaysBeginRegistration (d : Data) (b : BeginRegistration) : Type 0 where
  pub user : HasBytes (codes "user") d b.user.items
  pub user_name : HasText (codes "user_name") d (string_bytes b.user_name)
  pub display_name : HasText (codes "display_name") d (string_bytes b.display_name)
      ⊎ ((member (codes "display_name") d ≡ None) × (string_bytes b.display_name ≡ string_bytes b.user_name))
  pub exclude : HasList (codes "exclude") d (map (λ id. id.items) b.exclude.items)
  pub user_verification : HasFlag (codes "user_verification") d false b.user_verification
  pub resident : HasFlag (codes "resident") d true b.resident
  pub algorithms : HasAlgorithms d b.algorithms.items
  pub asks : SaysAsks d b.asks

-- a sign-in that is to begin
pub record SaysBeginSignIn (d : Data) (b : BeginSignIn) : Type 0 where
  pub user : MayHaveBytes (codes "user") d (option_map (λ u. u.items) b.user)
  pub allow : HasList (codes "allow") d (map (λ id. id.items) b.allow.items)
  pub user_verification : HasFlag (codes "user_verification") d false b.user_verification

-- the coordinate y of a key, of an RSA key its exponent; of EdDSA it is not looked at
abbrev pub HasY : Data → CoseKey → Type 0
HasY d (keys.Es256 x y) = HasBytes (codes "y") d y
HasY d (keys.EdDsa x) = ⊤
HasY d (keys.Rs256 k) = HasBytes (codes "y") d k.e

-- a public key, by its COSE number and its coordinates, of an RSA key its modulus and its exponent
pub record HasKey (d : Data) (key : CoseKey) : Type 0 where
  pub algorithm : (m : Data) × (member (codes "algorithm") d ≡ Some m) × IsAlgorithm m (alg_of key)
  pub x : HasBytes (codes "x") d (x_of key)
  pub y : HasY d key

-- what the host found of the signature
abbrev pub HasVerified : Data → Verified → Type 0
HasVerified d found.Nothing = member (codes "verified") d ≡ None
HasVerified d found.Invalid = option_and_then as_bool (member (codes "verified") d) ≡ Some false
HasVerified d (found.Valid t) =
    (m : Data) × (member (codes "verified") d ≡ Some m) × HasKey m t.key × HasBytes (codes "message") m t.message.items
    × HasBytes (codes "signature") m t.signature.items

-- RegistrationResponseJSON and AuthenticationResponseJSON (WebAuthn Level 3, section 5.1), with the credential id that it names
pub record IsRegistrationResponse (d : Data) (id : List ℕ) (r : RegistrationResponse) : Type 0 where
  pub raw_id : HasBytes (codes "rawId") d id
  pub response : Data
  pub there : member (codes "response") d ≡ Some response
  pub object : HasBytes (codes "attestationObject") response r.object.items
  pub client_data : HasBytes (codes "clientDataJSON") response r.client_data.items

pub record IsAssertionResponse (d : Data) (r : AssertionResponse) : Type 0 where
  pub raw_id : HasBytes (codes "rawId") d r.credential.items
  pub response : Data
  pub there : member (codes "response") d ≡ Some response
  pub user : MayHaveBytes (codes "userHandle") response (option_map (λ u. u.items) r.user)
  pub auth_data : HasBytes (codes "authenticatorData") response r.auth_data.items
  pub signature : HasBytes (codes "signature") response r.signature.items
  pub client_data : HasBytes (codes "clientDataJSON") response r.client_data.items

-- the transports of a line, or where it has none those of the response
abbrev pub TellsTransports : Data → Data → List (List ℕ) → Type 0
TellsTransports line response list =
    ((m : Data) × (member (codes "transports") line ≡ Some m) × HasTexts (codes "transports") line list)
    ⊎ ((member (codes "transports") line ≡ None)
    × ((parts : Data) × (member (codes "response") response ≡ Some parts) × HasTexts (codes "transports") parts list))

-- a registration that is to be finished
pub record SaysFinishRegistration (d : Data) (f : FinishRegistration) : Type 0 where
  pub session : HasBytes (codes "session") d f.session.items
  pub response : (m : Data) × (member (codes "response") d ≡ Some m) × IsRegistrationResponse m f.credential.items f.response
      × TellsTransports d m (map string_bytes f.transports.items)
  pub verified : HasVerified d f.verified

-- a sign-in that is to be finished
pub record SaysFinishSignIn (d : Data) (f : FinishSignIn) : Type 0 where
  pub session : HasBytes (codes "session") d f.session.items
  pub response : (m : Data) × (member (codes "response") d ≡ Some m) × IsAssertionResponse m f.response
  pub verified : HasVerified d f.verified

-- the name of an act, as the member `act` has it, and what the act takes
abbrev pub name_of : Act → List ℕ
name_of (acts.BeginRegistration b) = codes "begin_registration"
name_of (acts.FinishRegistration f) = codes "finish_registration"
name_of (acts.BeginSignIn b) = codes "begin_sign_in"
name_of (acts.FinishSignIn f) = codes "finish_sign_in"
name_of (acts.Retire id) = codes "retire"
name_of (acts.Delete id) = codes "delete"
name_of (acts.RetireAll user) = codes "retire_all"
name_of (acts.Erase user) = codes "erase"
name_of (acts.Abandon session) = codes "abandon"
name_of (acts.Rows user) = codes "rows"
name_of acts.Status = codes "status"
name_of (acts.Backup path) = codes "backup"

abbrev pub HasMembers : Data → Act → Type 0
HasMembers d (acts.BeginRegistration b) = SaysBeginRegistration d b
HasMembers d (acts.FinishRegistration f) = SaysFinishRegistration d f
HasMembers d (acts.BeginSignIn b) = SaysBeginSignIn d b
HasMembers d (acts.FinishSignIn f) = SaysFinishSignIn d f
HasMembers d (acts.Retire id) = HasBytes (codes "credential") d id.items
HasMembers d (acts.Delete id) = HasBytes (codes "credential") d id.items
HasMembers d (acts.RetireAll user) = HasBytes (codes "user") d user.items
HasMembers d (acts.Erase user) = HasBytes (codes "user") d user.items
HasMembers d (acts.Abandon session) = HasBytes (codes "session") d session.items
HasMembers d (acts.Rows user) = MayHaveBytes (codes "user") d (option_map (λ u. u.items) user)
HasMembers d acts.Status = ⊤
HasMembers d (acts.Backup path) = HasText (codes "path") d (string_bytes path)

abbrev pub Says : Data → Act → Type 0
Says d act = HasText (codes "act") d (name_of act) × HasMembers d act

-- a line is one that is read, with this number and this act
abbrev pub Reads : List ℕ → ℕ → Act → Type 0
Reads line id act = (d : Data) × IsLine line d × HasNumber (codes "id") d id × Says d act
