-- What private functions are proved against; no public clause cites it.
use Rattle.std.specs.Prelude.{◌≡◌, codes, false, Some}
use Rattle.serde_json.specs.Data.{Data}
use Rattle.serde_json.specs.Find.{as_bool}
use Rattle.authdata.specs.declared.response.RegistrationResponse.{RegistrationResponse}
use Rattle.json_lines.specs.Members.{HasBytes, member}
use Rattle.verification.specs.declared.signature.VerifiedSignature.{VerifiedSignature}
use Rattle.site_acts.specs.Lines.{HasKey}
use Rattle.site_acts.specs.declared.verified.Verified.{Verified}
use Rattle.site_acts.specs.declared.verified.Verified.TheVariants as found

-- the parts of a registration's response
abbrev pub HasParts : Data → RegistrationResponse → Type 0
HasParts d r =
    (parts : Data) × (member (codes "response") d ≡ Some parts) × HasBytes (codes "attestationObject") parts r.object.items
    × HasBytes (codes "clientDataJSON") parts r.client_data.items

-- the signature that a host verified
abbrev pub IsSignature : Data → VerifiedSignature → Type 0
IsSignature d t = HasKey d t.key × HasBytes (codes "message") d t.message.items × HasBytes (codes "signature") d t.signature.items

-- what a host says of a signature
abbrev pub IsSaid : Data → Verified → Type 0
IsSaid d found.Nothing = ⊥
IsSaid d found.Invalid = as_bool d ≡ Some false
IsSaid d (found.Valid t) = IsSignature d t
