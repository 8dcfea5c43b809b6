-- The flags of authenticator data: WebAuthn, section 6.1.
use Rattle.std.specs.Prelude.{◌≡◌, ℕ, Bool, true, not, bit_and, ◌==◌}

-- user present
abbrev pub UP : ℕ
UP = 0x01

-- user verified
abbrev pub UV : ℕ
UV = 0x04

-- backup eligible: the credential may be backed up; backup state: it is backed up
abbrev pub BE : ℕ
BE = 0x08

abbrev pub BS : ℕ
BS = 0x10

-- attested credential data included
abbrev pub AT : ℕ
AT = 0x40

-- extension data included
abbrev pub ED : ℕ
ED = 0x80

abbrev pub is_set : ℕ → ℕ → Bool
is_set flags flag = not (bit_and flags flag == 0)

-- a credential that is backed up may be backed up: a rule of profile 2
abbrev pub HasBackup : ℕ → Type 0
HasBackup flags = is_set flags BS ≡ true → is_set flags BE ≡ true
