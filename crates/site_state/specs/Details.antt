-- What is known of a credential beside what verdicts ask for.
use Rattle.std.specs.Prelude.{ℕ, ℤ, Option, List, option_map}
use Rattle.site_state.specs.declared.detail.Detail as declared

-- when it was registered and when it was last used, in seconds of the host's clock; the transports that its client told, joined by
-- commas (WebAuthn Level 2, section 5.8.4); the aaguid that its authenticator data said (section 6.5.1)
pub record Detail : Type 0 where
  pub created_at : Option ℤ
  pub used_at : Option ℤ
  pub transports : List ℕ
  pub aaguid : Option (List ℕ)

abbrev pub told : Option ℤ → Option ℤ → List ℕ → Option (List ℕ) → Detail
told created_at used_at transports aaguid = record { created_at = created_at; used_at = used_at; transports = transports; aaguid = aaguid }

abbrev pub detail_view : declared.Detail → Detail
detail_view d = told d.created_at d.used_at d.transports.items (option_map (λ a. a.items) d.aaguid)
