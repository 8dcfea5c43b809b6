-- What is kept of authenticator data: for what is answered of a ceremony, and with a credential.
use Rattle.std.specs.Prelude.{◌≡◌, ℕ, List, Some, option_map}
use Rattle.authdata.specs.Layout.{AuthenticatorData}
use Rattle.site_state.specs.Details.{Detail}
use Rattle.site_stored.specs.declared.summary.Summary.{Summary}

-- the counter, the flags and the extensions are the data's (WebAuthn, section 6.1)
pub record Summarises (s : Summary) (a : AuthenticatorData) : Type 0 where
  pub sign_count : s.sign_count ≡ a.sign_count
  pub flags : s.flags ≡ a.flags
  pub extensions : option_map (λ e. e.items) s.extensions ≡ a.extensions

-- a credential's detail, with this aaguid (section 6.5.1)
abbrev pub with_aaguid : List ℕ → Detail → Detail
with_aaguid aaguid d = record d { aaguid = Some aaguid }
