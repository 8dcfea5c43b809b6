-- Limited verification (WebAuthn Level 2, section 5.8.1.2).
use Rattle.std.specs.Prelude.{◌≡◌, ◌⊎◌, ℕ, List, ◌∷◌, ◌++◌}

-- the bytes begin with the expected ones, and a closing brace or a comma comes next
pub record IsVerified (bytes expected : List ℕ) : Type 0 where
  pub next : ℕ
  pub rest : List ℕ
  pub begins : bytes ≡ expected ++ next ∷ rest
  pub goes_on : (next ≡ 0x7d) ⊎ (next ≡ 0x2c)
