-- What the parts that a host passes stand for.
use Rattle.std.specs.Prelude.{◌≡◌, ◌==◌, ◌<◌, ℕ, ℤ, pos, negsuc, Bool, true, false, not, List, [], ◌∷◌, ◌++◌, length, map, take, Option, Some, None, option_map}
use Rattle.std.specs.Prelude.{if◌then◌else◌}
use Rattle.cose.specs.declared.key.Alg.{Alg}
use Rattle.cose.specs.declared.key.Alg.TheVariants as algs
use Rattle.cose.specs.declared.key.CoseKey.{CoseKey}
use Rattle.cose.specs.declared.key.CoseKey.TheVariants as keys
use Rattle.cose.specs.Keys.{alg_of, number_of, x_of}
use Rattle.authdata.specs.declared.profile.Profile.{Profile}
use Rattle.authdata.specs.declared.profile.Profile.TheVariants.{Level3, Open, Strict}
use Rattle.verification.specs.Records.{RelyingParty}
use Rattle.verification.specs.Coordinates.{key_with}
use Rattle.verification.specs.Signed.{Signed}
use Rattle.passkey_c.specs.declared.parts.Bytes.{Bytes}
use Rattle.passkey_c.specs.declared.parts.KeyOut.{KeyOut}
use Rattle.passkey_c.specs.declared.parts.KeyParts.{KeyParts}
use Rattle.passkey_c.specs.declared.parts.PartyParts.{PartyParts}
use Rattle.passkey_c.specs.declared.parts.VerifiedParts.{VerifiedParts}

-- a flag that is passed is a number: set unless it is 0
abbrev pub flag_of : ℕ → Bool
flag_of number = not (number == 0)

-- the value, where the flag says that it is there
abbrev pub given : {T : Type 0} → Bool → T → Option T
given true x = Some x
given false x = None

-- the same for a value that may not be one
abbrev pub given_some : {T : Type 0} → Bool → Option T → Option T
given_some true x = x
given_some false x = None

abbrev pub lent : List Bytes → List (List ℕ)
lent parts = map (λ part. part.bytes.now) parts

-- the algorithm, where it was offered
abbrev pub offers : Bool → Alg → List Alg → List Alg
offers true alg more = alg ∷ more
offers false alg more = more

-- the algorithms that were offered
abbrev pub offered : Bool → Bool → Bool → List Alg
offered es256 eddsa rs256 = offers es256 algs.Es256 (offers eddsa algs.EdDsa (offers rs256 algs.Rs256 []))

-- the number is that of an algorithm
abbrev pub IsAlg : ℤ → Type 0
IsAlg number = (alg : Alg) × (number_of alg ≡ number)

-- the number is -1 - n
abbrev pub is_negative : ℕ → ℤ → Bool
is_negative m (negsuc n) = n == m
is_negative m (pos n) = false

-- the algorithm of a number: -7 is ES256, -8 EdDSA, -257 RS256, and no other number is an algorithm's
abbrev pub alg_in : ℤ → Option Alg
alg_in number =
    if is_negative 6 number then Some algs.Es256
    else if is_negative 7 number then Some algs.EdDsa
    else if is_negative 256 number then Some algs.Rs256
    else None

-- the key of a number, x and y; none where the number is no algorithm's
abbrev pub key_of : KeyParts → Option CoseKey
key_of key = option_map (λ alg. key_with alg key.x.now key.y.now) (alg_in key.algorithm)

-- the y coordinate; of an RSA key its exponent; of EdDSA no bytes
abbrev pub y_of : CoseKey → List ℕ
y_of (keys.Es256 x y) = y
y_of (keys.EdDsa x) = []
y_of (keys.Rs256 k) = k.e

-- the bytes are so many, and they are the first of the room
abbrev pub Fills : ℕ → List ℕ → List ℕ → Type 0
Fills size room bytes = (size ≡ length bytes) × (take size room ≡ bytes)

-- the host gets this key: its algorithm's number, and as many bytes of x and y as it has
abbrev pub TellsKey : KeyOut → CoseKey → Type 0
TellsKey out key = (out.algorithm ≡ number_of (alg_of key)) × Fills out.x_size out.x (x_of key) × Fills out.y_size out.y (y_of key)

-- the profile of its number: 0 is the strict one, 1 the open one, 2 that of Level 3, and no other number is a profile's
abbrev pub IsProfile : ℕ → Type 0
IsProfile number = number < 3

abbrev pub profile_of : ℕ → Profile
profile_of number = if number == 0 then Strict else if number == 1 then Open else Level3

abbrev pub party_of : PartyParts → RelyingParty
party_of party = record {
  rp_id = party.rp_id.now;
  origins = lent party.origins.now;
  top_origins = lent party.top_origins.now;
  profile = profile_of party.profile;
}

-- the signature that the host verified, where it says that it did; none where its key is none
abbrev pub verified_in : Bool → VerifiedParts → Option Signed
verified_in has_verified parts =
    option_map (λ key. record { key = key; message = parts.message.now; signature = parts.signature.now }) (given_some has_verified (key_of parts.key))

-- the bytes end in these
abbrev pub EndsIn : List ℕ → List ℕ → Type 0
EndsIn whole end = (front : List ℕ) × (whole ≡ front ++ end)

-- this many bytes, the last of the whole, are these
abbrev pub IsEnd : ℕ → List ℕ → List ℕ → Type 0
IsEnd size whole end = (size ≡ length end) × EndsIn whole end
