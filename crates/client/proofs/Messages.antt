-- A request's bytes are determined.
use Rattle.std.proofs.Common.{◌≡◌, List, ℕ, ◌∷◌, None, sym, ◌∙◌, ap}
use Rattle.ctap_requests.specs.Requests.{RequestMessage, RequestOf, make_credential, get_assertion, get_next_assertion, get_info, reset}

pub one_message : (q : RequestMessage) (cs bs : List ℕ) → RequestOf q None cs → RequestOf q None bs → cs ≡ bs
one_message (make_credential q) cs bs a b = a.1 ∙ ap (λ rest. 1 ∷ rest) (a.2.1 ∙ sym b.2.1) ∙ sym b.1
one_message (get_assertion q) cs bs a b = a.1 ∙ ap (λ rest. 2 ∷ rest) (a.2.1 ∙ sym b.2.1) ∙ sym b.1
one_message get_next_assertion cs bs a b = a ∙ sym b
one_message get_info cs bs a b = a ∙ sym b
one_message reset cs bs a b = a ∙ sym b
