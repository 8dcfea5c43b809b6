-- What the profiles of a relying party differ in: each takes what the others take, but for these limits.
use Rattle.std.specs.Prelude.{ℕ}
use Rattle.authdata.specs.declared.profile.Profile.{Profile}
use Rattle.authdata.specs.declared.profile.Profile.TheVariants.{Strict, Open, Level3}

-- the most bytes of a credential id: 1,023 (WebAuthn Level 3, section 4, "Credential ID"), and 64 in the strict profile
abbrev pub max_id : Profile → ℕ
max_id Strict = 64
max_id Open = 1023
max_id Level3 = 1023
