-- Which signatures are valid to a site whose host verifies them.
use Rattle.std.specs.Prelude.{Option, Some, None}
use Rattle.cose.specs.Schemes.{Validity}
use Rattle.verification.specs.Signed.{Signed, only_verified, signature_view}
use Rattle.site_acts.specs.declared.verified.Verified.{Verified}
use Rattle.site_acts.specs.declared.verified.Verified.TheVariants as found

-- the signature that the host verified, where it says that it did
abbrev pub verified_in : Verified → Option Signed
verified_in found.Nothing = None
verified_in found.Invalid = None
verified_in (found.Valid v) = Some (signature_view v)

abbrev pub is_valid : Verified → Validity
is_valid found = only_verified (verified_in found)
