-- What the page is given (WebAuthn Level 3, sections 5.1.8 and 5.1.9), as JSON; the members are in the order of their names.
use Rattle.std.specs.Prelude.{◌==◌, ℕ, Bool, true, false, List, codes, if◌then◌else◌, length, map, string_bytes}
use Rattle.serde_json.specs.Data.{Data, array, boolean, member, no_members, number, object, string}
use Rattle.serde_json.specs.Find.{of_integer}
use Rattle.serde_json.specs.View.{items_of}
use Rattle.json_lines.specs.Written.{base64url}
use Rattle.cose.specs.declared.key.Alg.{Alg}
use Rattle.cose.specs.Keys.{number_of}
use Rattle.site_acts.specs.declared.act.BeginRegistration.{BeginRegistration}
use Rattle.site_acts.specs.declared.act.BeginSignIn.{BeginSignIn}
use Rattle.site_acts.specs.declared.known.Known.{Known}

-- a credential, with its transports where they are known
abbrev pub descriptor : Known → Data
descriptor k =
    if length k.transports.items == 0 then object (member (codes "id") (base64url k.id.items) (member (codes "type") (string (codes "public-key")) no_members))
    else object (member (codes "id") (base64url k.id.items)
    (member (codes "transports") (array (items_of (map (λ t. string (string_bytes t)) k.transports.items)))
    (member (codes "type") (string (codes "public-key")) no_members)))

abbrev pub parameter : Alg → Data
parameter alg = object (member (codes "alg") (number (of_integer (number_of alg))) (member (codes "type") (string (codes "public-key")) no_members))

abbrev pub verification : Bool → List ℕ
verification true = codes "required"
verification false = codes "preferred"

abbrev pub resident_key : Bool → List ℕ
resident_key true = codes "required"
resident_key false = codes "discouraged"

-- the attestation that is asked for (5.4.7)
abbrev pub conveyance : Bool → List ℕ
conveyance true = codes "direct"
conveyance false = codes "none"

abbrev pub account : BeginRegistration → Data
account b =
    object (member (codes "displayName") (string (string_bytes b.display_name))
    (member (codes "id") (base64url b.user.items)
    (member (codes "name") (string (string_bytes b.user_name)) no_members)))

abbrev pub selection : BeginRegistration → Data
selection b =
    object (member (codes "requireResidentKey") (boolean b.resident)
    (member (codes "residentKey") (string (resident_key b.resident))
    (member (codes "userVerification") (string (verification b.user_verification)) no_members)))

-- the options of a registration: for the relying party, with the session's challenge, what the line asks for, and what is known of the
-- credentials that it names
abbrev pub creation_of : Data → List ℕ → BeginRegistration → List Known → Data
creation_of rp challenge b known =
    object (member (codes "attestation") (string (conveyance b.asks.attestation))
    (member (codes "authenticatorSelection") (selection b)
    (member (codes "challenge") (base64url challenge)
    (member (codes "excludeCredentials") (array (items_of (map descriptor known)))
    (member (codes "pubKeyCredParams") (array (items_of (map parameter b.algorithms.items)))
    (member (codes "rp") rp
    (member (codes "user") (account b) no_members)))))))

-- for a relying party of this id and name
abbrev pub creation_options : List ℕ → List ℕ → List ℕ → BeginRegistration → List Known → Data
creation_options rp_id rp_name challenge b known =
    creation_of (object (member (codes "id") (string rp_id) (member (codes "name") (string rp_name) no_members))) challenge b known

-- the options of a sign-in
abbrev pub request_options : List ℕ → List ℕ → BeginSignIn → List Known → Data
request_options rp_id challenge b known =
    object (member (codes "allowCredentials") (array (items_of (map descriptor known)))
    (member (codes "challenge") (base64url challenge)
    (member (codes "rpId") (string rp_id)
    (member (codes "userVerification") (string (verification b.user_verification)) no_members))))
