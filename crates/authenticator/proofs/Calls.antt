-- From a request's outcome to a step.
use Rattle.std.proofs.Common.{◌≡◌, ℕ, List, [], ◌∷◌, Vec, Global, ap, ◌∙◌, inl, inr}
use Rattle.std.specs.Prelude.{Result, Ok, Err, IfOk}
use Rattle.ctap_requests.specs.Requests.{RequestMessage}
use Rattle.ctap_requests.specs.Status.{IsRequest, Refused}
use Rattle.ctap_encoding.specs.declared.error.Error.TheVariants as errors
use Rattle.authenticator.specs.State.{AuthenticatorState, forgotten}
use Rattle.authenticator.specs.Private.{RequestBegins}
use Rattle.authenticator.specs.Signing.{Begins}
use Rattle.authenticator.specs.Steps.{CarriesOut, Keys, Outcome, Step, refusal}
use Rattle.authenticator.specs.declared.consent.Consent.{Consent}
use Rattle.authenticator.specs.declared.consent.Words.{Words}
use Rattle.authenticator.specs.declared.pending.Begun.{Begun}
use Rattle.authenticator.specs.declared.pending.Begun.TheVariants as begun
use Rattle.authenticator.proofs.Waiting.{weaker}

pub stepped : {E : Type 0} (public : Keys) (old new : AuthenticatorState) (channel : ℕ) (bs : List ℕ) (consent : Consent) (words : Words)
    (q : RequestMessage) (r : Result Begun E)
    → IsRequest q bs → IfOk r (λ b. RequestBegins public old channel consent words q b new)
    → IfOk r (λ b. Begins public old channel bs consent words b new)
stepped public old new channel bs consent words q (Ok b) is h =
    weaker (λ valid out. CarriesOut valid public old channel consent words q out) (λ valid out. Step valid public old channel bs consent words out)
    public old new b (λ valid out x. inr (q, is, x)) h
stepped public old new channel bs consent words q (Err e) is h = tt

pub unread : (public : Keys) (old new : AuthenticatorState) (channel : ℕ) (bs : List ℕ) (consent : Consent) (words : Words)
    (status : ℕ) (reply : Vec ℕ Global)
    → Refused bs (errors.Status status) → reply.items ≡ status ∷ [] → new ≡ forgotten old
    → Begins public old channel bs consent words (begun.Replied reply) new
unread public old new channel bs consent words status reply because is forgets =
    let state : new ≡ forgotten old = forgets in
    let s = because.2 in
    let out : Outcome = record { reply = reply.items; state = new; signed = []; made = [] } in
    let same : out ≡ refusal old status = cc in
    ([], [], inl (because.0, because.1, same ∙ ap (refusal old) s))
