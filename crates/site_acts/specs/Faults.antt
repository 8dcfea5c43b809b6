-- Why a line is refused: what an error names is so of the line.
use Rattle.std.specs.Prelude.{◌≡◌, ◌≤◌, ◌⊎◌, ℕ, ⊤, List, [], ◌∷◌, codes, length, Option, Some, false, None}
use Rattle.std.specs.List.{AllByRecursion}
use Rattle.json_lines.specs.Faults.{AreBytes, HasItems, HasUnknown, IsAmiss, IsBadForm, IsFlag, IsIllFormed, IsMissing, IsNumber, IsText}
use Rattle.json_lines.specs.Lines as lines
use Rattle.json_lines.specs.Members.{HasBytes, HasText, member}
use Rattle.json_lines.specs.declared.error.LineError.{LineError}
use Rattle.json_lines.specs.declared.error.LineError.TheVariants as errors
use Rattle.serde_json.specs.Data.{Data}
use Rattle.serde_json.specs.Find.{as_array, as_bool, as_object, as_str, get}
use Rattle.serde_json.specs.View.{items_of}
use Rattle.cose.specs.declared.key.Alg.{Alg}
use Rattle.cose.specs.declared.key.Alg.TheVariants as algs
use Rattle.verification.specs.Coordinates.{IsX, IsY}
use Rattle.site_acts.specs.Lines.{IsAlgorithm}
use Rattle.site_acts.specs.declared.acts.ActKind.{ActKind}
use Rattle.site_acts.specs.declared.acts.ActKind.TheVariants as kinds

-- ---- the forms of members

-- the COSE number of an algorithm that is known
abbrev pub IsKnownAlgorithm : Data → Type 0
IsKnownAlgorithm d = (alg : Alg) × IsAlgorithm d alg

-- a transport (WebAuthn Level 2, section 5.8.4): 1 to 32 lower-case letters, digits and hyphens; a list has at most 16
abbrev pub IsPlain : ℕ → Type 0
IsPlain b = ((97 ≤ b) × (b ≤ 122)) ⊎ (((48 ≤ b) × (b ≤ 57)) ⊎ (b ≡ 45))

abbrev pub IsTransportText : List ℕ → Type 0
IsTransportText text = (1 ≤ length text) × (length text ≤ 32) × AllByRecursion IsPlain text

abbrev pub IsTransport : Data → Type 0
IsTransport d = (text : List ℕ) × (as_str d ≡ Some text) × IsTransportText text

abbrev pub AreTransports : Data → Type 0
AreTransports d = (ds : List Data) × (as_array d ≡ Some (items_of ds)) × (length ds ≤ 16) × AllByRecursion IsTransport ds

abbrev pub IsPublicKey : Data → Type 0
IsPublicKey d = as_str d ≡ Some (codes "public-key")

-- ---- what it says of a response (WebAuthn Level 3, section 5.1)

-- `id` is another text than `rawId`
abbrev pub IsAnotherId : Data → LineError → Type 0
IsAnotherId r e =
    IsBadForm (codes "id") e × ((id : List ℕ) × (raw : List ℕ) × HasText (codes "id") r id × HasText (codes "rawId") r raw × (id ≡ raw → ⊥))

abbrev pub OfIds : Data → LineError → Type 0
OfIds r e = IsAmiss (codes "id") IsText r e ⊎ (IsAmiss (codes "rawId") IsText r e ⊎ IsAnotherId r e)

abbrev pub OfType : Data → LineError → Type 0
OfType r e = IsAmiss (codes "type") IsText r e ⊎ IsIllFormed (codes "type") IsPublicKey r e

-- the results of extensions are there, and no object
abbrev pub AreNoResults : Data → LineError → Type 0
AreNoResults r e =
    IsBadForm (codes "clientExtensionResults") e × ((m : Data) × (get (codes "clientExtensionResults") r ≡ Some m) × (as_object m ≡ None))

-- `id`, `rawId`, `type`, the results of extensions, the attachment
abbrev pub OfEnvelope : Data → LineError → Type 0
OfEnvelope r e = OfIds r e ⊎ (OfType r e ⊎ (AreNoResults r e ⊎ IsIllFormed (codes "authenticatorAttachment") IsText r e))

abbrev pub OfCredentialId : Data → LineError → Type 0
OfCredentialId r e = OfEnvelope r e ⊎ IsAmiss (codes "rawId") AreBytes r e

-- it says it of the parts of a response, which are there, or that they are missing
abbrev pub OfParts : (Data → LineError → Type 0) → Data → LineError → Type 0
OfParts Of r e = IsMissing (codes "response") r e ⊎ ((p : Data) × (member (codes "response") r ≡ Some p) × Of p e)

abbrev pub OfAttestation : Data → LineError → Type 0
OfAttestation p e = IsAmiss (codes "attestationObject") AreBytes p e ⊎ IsAmiss (codes "clientDataJSON") AreBytes p e

abbrev pub OfAssertion : Data → LineError → Type 0
OfAssertion p e =
    IsIllFormed (codes "userHandle") AreBytes p e ⊎ (IsAmiss (codes "authenticatorData") AreBytes p e
    ⊎ (IsAmiss (codes "signature") AreBytes p e ⊎ IsAmiss (codes "clientDataJSON") AreBytes p e))

-- ---- what it says of a signature that the host verified

-- the algorithm of a key
abbrev pub IsAlgorithmOf : Data → Alg → Type 0
IsAlgorithmOf d alg = (m : Data) × (member (codes "algorithm") d ≡ Some m) × IsAlgorithm m alg

-- the coordinate y of a key of this algorithm; of EdDSA it is not looked at
abbrev pub HasYOf : Alg → Data → List ℕ → Type 0
HasYOf algs.Es256 d y = HasBytes (codes "y") d y
HasYOf algs.EdDsa d y = ⊤
HasYOf algs.Rs256 d y = HasBytes (codes "y") d y

-- x or y is none of a key of this algorithm
abbrev pub IsNoCoordinate : Alg → List ℕ → List ℕ → LineError → Type 0
IsNoCoordinate alg x y e = (IsBadForm (codes "x") e × (IsX alg x → ⊥)) ⊎ (IsBadForm (codes "y") e × (IsY alg y → ⊥))

abbrev pub IsNoKey : Data → LineError → Type 0
IsNoKey d e = (alg : Alg) × (x : List ℕ) × (y : List ℕ) × IsAlgorithmOf d alg × HasBytes (codes "x") d x × HasYOf alg d y × IsNoCoordinate alg x y e

abbrev pub OfKey : Data → LineError → Type 0
OfKey d e =
    IsAmiss (codes "algorithm") IsKnownAlgorithm d e ⊎ (IsAmiss (codes "x") AreBytes d e ⊎ (IsAmiss (codes "y") AreBytes d e
    ⊎ (IsNoKey d e ⊎ (e ≡ errors.Memory))))

-- it is neither false nor an object, or one of its five members is amiss
abbrev pub OfFive : Data → LineError → Type 0
OfFive m e = OfKey m e ⊎ (IsAmiss (codes "message") AreBytes m e ⊎ IsAmiss (codes "signature") AreBytes m e)

abbrev pub OfSignature : Data → LineError → Type 0
OfSignature m e =
    (IsBadForm (codes "verified") e × (as_object m ≡ None) × (as_bool m ≡ Some false → ⊥))
    ⊎ OfFive m e

abbrev pub OfVerified : Data → LineError → Type 0
OfVerified d e = (m : Data) × (member (codes "verified") d ≡ Some m) × OfSignature m e

-- ---- what it says of an act's members

abbrev pub OfAsks : Data → LineError → Type 0
OfAsks d e = IsIllFormed (codes "conditional") IsFlag d e ⊎ IsIllFormed (codes "attestation") IsFlag d e

abbrev pub OfBeginRegistration : Data → LineError → Type 0
OfBeginRegistration d e =
    IsAmiss (codes "user") AreBytes d e ⊎ (IsAmiss (codes "user_name") IsText d e ⊎ (IsIllFormed (codes "display_name") IsText d e
    ⊎ (IsIllFormed (codes "exclude") (HasItems AreBytes) d e ⊎ (IsIllFormed (codes "user_verification") IsFlag d e
    ⊎ (IsIllFormed (codes "resident") IsFlag d e ⊎ (IsIllFormed (codes "algorithms") (HasItems IsKnownAlgorithm) d e ⊎ OfAsks d e))))))

abbrev pub OfBeginSignIn : Data → LineError → Type 0
OfBeginSignIn d e =
    IsIllFormed (codes "user") AreBytes d e ⊎ (IsIllFormed (codes "allow") (HasItems AreBytes) d e ⊎ IsIllFormed (codes "user_verification") IsFlag d e)

abbrev pub OfFinishRegistration : Data → LineError → Type 0
OfFinishRegistration d e =
    IsAmiss (codes "session") AreBytes d e ⊎ (OfParts OfCredentialId d e ⊎ (OfParts (OfParts OfAttestation) d e
    ⊎ (IsIllFormed (codes "transports") AreTransports d e ⊎ (OfParts (OfParts (IsIllFormed (codes "transports") AreTransports)) d e ⊎ OfVerified d e))))

abbrev pub OfFinishSignIn : Data → LineError → Type 0
OfFinishSignIn d e =
    IsAmiss (codes "session") AreBytes d e ⊎ (OfParts OfCredentialId d e ⊎ (OfParts (OfParts OfAssertion) d e ⊎ OfVerified d e))

abbrev pub OfAct : ActKind → Data → LineError → Type 0
OfAct kinds.BeginRegistration d e = OfBeginRegistration d e
OfAct kinds.FinishRegistration d e = OfFinishRegistration d e
OfAct kinds.BeginSignIn d e = OfBeginSignIn d e
OfAct kinds.FinishSignIn d e = OfFinishSignIn d e
OfAct kinds.Retire d e = IsAmiss (codes "credential") AreBytes d e
OfAct kinds.Delete d e = IsAmiss (codes "credential") AreBytes d e
OfAct kinds.RetireAll d e = IsAmiss (codes "user") AreBytes d e
OfAct kinds.Erase d e = IsAmiss (codes "user") AreBytes d e
OfAct kinds.Abandon d e = IsAmiss (codes "session") AreBytes d e
OfAct kinds.Rows d e = IsIllFormed (codes "user") AreBytes d e
OfAct kinds.Status d e = ⊥
OfAct kinds.Backup d e = IsAmiss (codes "path") IsText d e

-- ---- lines that are refused

-- the name of a kind of acts
abbrev pub kind_name : ActKind → List ℕ
kind_name kinds.BeginRegistration = codes "begin_registration"
kind_name kinds.FinishRegistration = codes "finish_registration"
kind_name kinds.BeginSignIn = codes "begin_sign_in"
kind_name kinds.FinishSignIn = codes "finish_sign_in"
kind_name kinds.Retire = codes "retire"
kind_name kinds.Delete = codes "delete"
kind_name kinds.RetireAll = codes "retire_all"
kind_name kinds.Erase = codes "erase"
kind_name kinds.Abandon = codes "abandon"
kind_name kinds.Rows = codes "rows"
kind_name kinds.Status = codes "status"
kind_name kinds.Backup = codes "backup"

-- the names of the members of an act's lines, beside `id` and `act`
abbrev pub names_for : ActKind → List (List ℕ)
names_for kinds.BeginRegistration =
    codes "user" ∷ codes "user_name" ∷ codes "display_name" ∷ codes "exclude" ∷ codes "user_verification" ∷ codes "resident" ∷ codes "algorithms"
    ∷ codes "conditional" ∷ codes "attestation" ∷ []
names_for kinds.FinishRegistration = codes "session" ∷ codes "response" ∷ codes "transports" ∷ codes "verified" ∷ []
names_for kinds.BeginSignIn = codes "user" ∷ codes "allow" ∷ codes "user_verification" ∷ []
names_for kinds.FinishSignIn = codes "session" ∷ codes "response" ∷ codes "verified" ∷ []
names_for kinds.Retire = codes "credential" ∷ []
names_for kinds.Delete = codes "credential" ∷ []
names_for kinds.RetireAll = codes "user" ∷ []
names_for kinds.Erase = codes "user" ∷ []
names_for kinds.Abandon = codes "session" ∷ []
names_for kinds.Rows = codes "user" ∷ []
names_for kinds.Status = []
names_for kinds.Backup = codes "path" ∷ []

-- its `act` is a text, and names no act
abbrev pub IsNoAct : Data → LineError → Type 0
IsNoAct d e = (e ≡ errors.UnknownAct) × ((name : List ℕ) × HasText (codes "act") d name × ((kind : ActKind) → name ≡ kind_name kind → ⊥))

abbrev pub IsOfAct : Data → LineError → Type 0
IsOfAct d e = (kind : ActKind) × HasText (codes "act") d (kind_name kind) × (HasUnknown (names_for kind) d e ⊎ OfAct kind d e)

-- what is refused of an object that has a number
abbrev pub IsRefusedIn : Data → LineError → Type 0
IsRefusedIn d e = IsAmiss (codes "act") IsText d e ⊎ (IsNoAct d e ⊎ IsOfAct d e)

-- why a line is refused, and the number that is answered of it
abbrev pub IsRefused : List ℕ → Option ℕ → LineError → Type 0
IsRefused = lines.IsRefused IsRefusedIn
