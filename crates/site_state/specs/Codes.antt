-- How what is expected is stored, each record as the tuple of its fields.
use Rattle.std.specs.Prelude.{◌≡◌, ◌⊎◌, ℕ, List, Bool, Option, refl}
use Rattle.std.proofs.Common.{inl, inr}
use Rattle.std.specs.Coded.{Coded, code_by, coded×, coded⊎, coded_ℕ, coded_bool, coded_list, coded_option}
use Rattle.std.specs.FinMap as finite
use Rattle.std.specs.Ordering.{nat_cmp}
use Rattle.cose.specs.declared.key.Alg.{Alg}
use Rattle.cose.specs.contracts.key.Alg as alg
use Rattle.verification.specs.Records.{ExpectedSignIn, ExpectedRegistration}
use Rattle.site_state.specs.Sessions.{Expected, ForSignIn, ForRegistration, OpenSessions}

abbrev pub Bytes : Type 0
Bytes = List ℕ

abbrev pub coded_bytes : Coded Bytes
coded_bytes = coded_list coded_ℕ

abbrev pub sign_in_code : Coded ExpectedSignIn
sign_in_code =
    code_by (Option Bytes × (List Bytes × (Bool × Bytes))) (coded× (coded_option coded_bytes) (coded× (coded_list coded_bytes) (coded× coded_bool coded_bytes)))
    (λ e. (e.user, (e.allow, (e.uv, e.challenge))))
    (λ p. record { user = p.0; allow = p.1.0; uv = p.1.1.0; challenge = p.1.1.1 }) (λ _. refl)

abbrev pub registration_code : Coded ExpectedRegistration
registration_code =
    code_by (Bytes × (List Alg × (Bool × (Bytes × (Bool × Bool)))))
    (coded× coded_bytes (coded× (coded_list alg.the_row.coded) (coded× coded_bool (coded× coded_bytes (coded× coded_bool coded_bool)))))
    (λ e. (e.user, (e.algorithms, (e.uv, (e.challenge, (e.conditional, e.attestation))))))
    (λ p. record {
      user = p.0;
      algorithms = p.1.0;
      uv = p.1.1.0;
      challenge = p.1.1.1.0;
      conditional = p.1.1.1.1.0;
      attestation = p.1.1.1.1.1;
    }) (λ _. refl)

abbrev split : Expected → ExpectedSignIn ⊎ ExpectedRegistration
split (ForSignIn e) = inl e
split (ForRegistration e) = inr e

abbrev join : ExpectedSignIn ⊎ ExpectedRegistration → Expected
join (inl e) = ForSignIn e
join (inr e) = ForRegistration e

pub join_split : (e : Expected) → join (split e) ≡ e
join_split (ForSignIn e) = refl
join_split (ForRegistration e) = refl

abbrev pub expected_code : Coded Expected
expected_code = code_by (ExpectedSignIn ⊎ ExpectedRegistration) (coded⊎ sign_in_code registration_code) split join join_split

abbrev pub open_code : Coded OpenSessions
open_code =
    code_by (finite.FinMap nat_cmp Expected × (ℕ × ℕ)) (coded× (finite.code coded_ℕ expected_code) (coded× coded_ℕ coded_ℕ))
    (λ s. (s.expected, (s.next, s.max_open))) (λ p. record { expected = p.0; next = p.1.0; max_open = p.1.1 }) (λ _. refl)
