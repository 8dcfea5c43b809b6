-- A challenge's text is that of no other.
use Rattle.std.proofs.Common.{◌≡◌, List, ℕ, sym, ap, ◌∙◌, refl}
use Rattle.base64.specs.Engines.{url_safe_no_pad}
use Rattle.base64.specs.GeneralPurpose.{IsBytes, decode_of}
use Rattle.base64.proofs.EngineFacts.{decode_of-encode_of}
use Rattle.clientdata.specs.Serialised.{challenge_text_of}

pub one_challenge : (a b : List ℕ) → IsBytes a → IsBytes b → challenge_text_of a ≡ challenge_text_of b → a ≡ b
unfolding challenge_text_of
one_challenge a b a_bytes b_bytes same =
    let back = sym (decode_of-encode_of url_safe_no_pad a refl a_bytes) ∙ ap (decode_of url_safe_no_pad) same
    ∙ decode_of-encode_of url_safe_no_pad b refl b_bytes in
    cc back
