-- A credential that signed in.
use Rattle.std.proofs.Common.{◌≡◌, ℕ, ap, ◌∙◌}
use Rattle.std.specs.Prelude.{Bool, Option}
use Rattle.authdata.specs.Responses.{AuthenticatorAssertionResponse}
use Rattle.verification.specs.Records.{Credential, ExpectedSignIn, RelyingParty}
use Rattle.verification.specs.SignIn.{JudgedSignIn}
use Rattle.site_state.specs.Table.{signed_in}

abbrev attempt_with : RelyingParty → AuthenticatorAssertionResponse → Option ExpectedSignIn → Option Credential → JudgedSignIn
attempt_with rp r session credential = record { rp = rp; session = session; credential = credential; response = r }

pub same_attempt : (rp : RelyingParty) (r : AuthenticatorAssertionResponse) (s t : Option ExpectedSignIn) (c d : Option Credential) → s ≡ t → c ≡ d
    → attempt_with rp r s c ≡ attempt_with rp r t d
same_attempt rp r s t c d sessions credentials =
    ap (λ x. attempt_with rp r x c) sessions ∙ ap (attempt_with rp r t) credentials

pub same_counted : (c d : Credential) (m n : ℕ) (a b : Bool) → c ≡ d → m ≡ n → a ≡ b → signed_in m a c ≡ signed_in n b d
same_counted c d m n a b rows counts marks =
    ap (signed_in m a) rows ∙ ap (λ x. signed_in x a d) counts ∙ ap (λ x. signed_in n x d) marks
