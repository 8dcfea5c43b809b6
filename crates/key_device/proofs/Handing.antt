-- What the authenticator makes of what it is handed.
use Rattle.std.proofs.Common.{◌≡◌, ℕ, ◌⊎◌, inl, inr, List, [], ap}
use Rattle.refusal_order.specs.Lines.{First}
use Rattle.cose.specs.declared.key.CoseKey.{CoseKey}
use Rattle.ctap_requests.specs.Requests.{RequestMessage, make_credential, get_assertion, get_next_assertion, get_info, reset}
use Rattle.ctap_requests.specs.Status.{Applies, IsRequest, Rank, ranks, status_of}
use Rattle.authenticator.specs.State.{AuthenticatorState, forgotten}
use Rattle.authenticator.specs.Steps.{Entry, Outcome, refusal}

-- no bytes are no request
pub no_request : (q : RequestMessage) → IsRequest q [] → ⊥
no_request (make_credential q) is = absurd (let e = is.spelled.1.1 in cc)
no_request (get_assertion q) is = absurd (let e = is.spelled.1.1 in cc)
no_request get_next_assertion is = absurd (let e = is.spelled.1 in cc)
no_request get_info is = absurd (let e = is.spelled.1 in cc)
no_request reset is = absurd (let e = is.spelled.1 in cc)

pub forgets : (X : RequestMessage → List Entry → List CoseKey → Type 0) (old new : AuthenticatorState) (reply : List ℕ)
    → ((signed : List Entry) × (made : List CoseKey)
    × (((rank : Rank) × First (Applies []) ranks rank
    × (record { reply = reply; state = new; signed = signed; made = made } ≡ refusal old (status_of rank)))
    ⊎ ((q : RequestMessage) × IsRequest q [] × X q signed made)))
    → new ≡ forgotten old
forgets X old new reply (signed, made, inl refused) = ap (λ (o : Outcome). o.state) refused.2
forgets X old new reply (signed, made, inr read) = absurd (no_request read.0 read.1)
