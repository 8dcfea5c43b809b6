-- The version that is written.
use Rattle.std.proofs.Common.{◌≡◌, ◌<◌, ◌≤◌, ◌^◌, ◌++◌, List, [], ◌∷◌, true, false, inl, inr, refl, arith}
use Rattle.std.proofs.lemmas.Bool.{cases_Bool}
use Rattle.refusal_order.specs.Lines.{Each}
use Rattle.verification.specs.Records.{Credential}
use Rattle.site.specs.Saved.{FitsVersion, has_version_4, needs_version_4, version_of}

pub known_version : (rows : List Credential) → (1 ≤ version_of rows) × (version_of rows ≤ 4)
known_version rows = elim (cases_Bool (has_version_4 rows)) [
  | inl e ↦ rw e (omega arith, omega arith)
  | inr e ↦ rw e (omega arith, omega arith)
]

pub small_version : (rows : List Credential) → version_of rows < 2 ^ 64
small_version rows = let known = known_version rows in omega (arith, known.1)

-- whether a list has a credential that needs version 4, one by one
pub needed_there : (front more : List Credential) (row : Credential) → needs_version_4 row.id row.key ≡ true → has_version_4 (front ++ row ∷ more) ≡ true
needed_there [] more row needs = rw needs refl
needed_there (r ∷ front) more row needs = elim (cases_Bool (needs_version_4 r.id r.key)) [
  | inl e ↦ rw e refl
  | inr e ↦ rw e (needed_there front more row needs)
]

pub none_behind : (front : List Credential) (row : Credential) → has_version_4 front ≡ false → needs_version_4 row.id row.key ≡ false
    → has_version_4 (front ++ row ∷ []) ≡ false
none_behind [] row none early = rw early refl
none_behind (r ∷ front) row none early = elim (cases_Bool (needs_version_4 r.id r.key)) [
  | inl e ↦ let some : true ≡ false = rw e at none in absurd cc
  | inr e ↦ let rest : has_version_4 front ≡ false = rw e at none in rw e (none_behind front row rest early)
]

-- what fits version 4 fits the version that is written
one_fits : (c : Credential) → needs_version_4 c.id c.key ≡ false → FitsVersion 4 c → FitsVersion 3 c
one_fits c early fits = record {
  key = fits.key;
  sign_count = fits.sign_count;
  eligible = λ lt. absurd (omega (arith, lt));
  retired = λ lt. absurd (omega (arith, lt));
  early = λ _. early;
}

each_fits : (rows : List Credential) → has_version_4 rows ≡ false → Each (FitsVersion 4) rows → Each (FitsVersion 3) rows
each_fits [] none fit = tt
each_fits (c ∷ rows) none fit = elim (cases_Bool (needs_version_4 c.id c.key)) [
  | inl e ↦ let some : true ≡ false = rw e at none in absurd cc
  | inr e ↦ let rest : has_version_4 rows ≡ false = rw e at none in (one_fits c e fit.0, each_fits rows rest fit.1)
]

pub fits_written : (rows : List Credential) → Each (FitsVersion 4) rows → Each (FitsVersion (version_of rows)) rows
fits_written rows fit = elim (cases_Bool (has_version_4 rows)) [
  | inl e ↦ rw e fit
  | inr e ↦ let earlier = each_fits rows e fit in rw e earlier
]

-- version 4 only where it is needed
pub is_needed : (rows : List Credential) → 4 ≤ version_of rows → has_version_4 rows ≡ true
is_needed rows = elim (cases_Bool (has_version_4 rows)) [
  | inl e ↦ λ _. e
  | inr e ↦ rw e (λ le. absurd (omega (arith, le)))
]

pub not_needed : (rows : List Credential) → version_of rows < 4 → has_version_4 rows ≡ true → ⊥
not_needed rows lt some = let less : 4 < 4 = rw some at lt in omega (arith, less)
