-- Who may ask, and for which relying party: WebAuthn Level 2, sections 5.1.3 and 5.1.4, in the steps on
-- callerOrigin, its effective domain and the rp id.
use Rattle.std.specs.Prelude.{◌≡◌, ◌≢◌, ◌≤◌, ◌⊎◌, ◌++◌, ℕ, List, [], length, codes, None, Some, Ok, option_and_then}
use Rattle.url.specs.Host.{domain_of}
use Rattle.url.specs.Parts.{Parts, nonempty_host}
use Rattle.url.specs.Parser.{parse_url}
use Rattle.url.specs.Origin.{origin_of, ascii_serialization}

-- The text has at most 1,024 bytes and is a URL's (URL Standard, section 4.4) whose scheme is https, whose
-- host is this domain, and whose origin is serialised as this text (URL Standard, section 4.7; WebAuthn,
-- section 5.8.1, `origin`).
pub record IsOriginOn (host text : List ℕ) : Type 0 where
  pub size : length text ≤ 1024
  pub url : Parts
  pub read : parse_url None text ≡ Ok url
  pub scheme : url.scheme ≡ codes "https"
  pub domain : option_and_then domain_of (nonempty_host url) ≡ Some host
  pub serialised : ascii_serialization (origin_of url) ≡ text

-- The rp id is not empty, and is the host, or the host ends with a dot and the rp id (HTML Standard, "is a
-- registrable domain suffix of or is equal to", without the list of public suffixes).
abbrev pub IsRpIdOf : List ℕ → List ℕ → Type 0
IsRpIdOf host rp_id = (rp_id ≢ []) × ((host ≡ rp_id) ⊎ ((front : List ℕ) × (host ≡ front ++ codes "." ++ rp_id)))
