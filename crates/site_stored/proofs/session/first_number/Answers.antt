-- What is owed of `first_number`.
use Rattle.std.proofs.Common.{◌≡◌, ℕ, List, take, drop, ap, ◌∙◌, arith}
use Rattle.std.specs.Int.{w64, to_be_bytes, from_be_bytes}
use Rattle.std.proofs.lemmas.List.{length-take-le, take-append-drop}
use Rattle.std.proofs.lemmas.Nat.{be_bytes_8}
use Rattle.site_seal.proofs.Bytes.{taken_below}
use Rattle.site_stored.proofs.session.first_number.Goals as goal

pub returns-clause-number : goal.returns-clause-number
returns-clause-number c =
    let text = c.args.challenge.now in
    let eight : to_be_bytes w64 c.from_be_bytes.result ≡ take 8 text = be_bytes_8 (take 8 text) c.from_be_bytes.result
    (length-take-le 8 text (omega (arith, c.told-challenge))) (taken_below 8 text c.fits-challenge)
    (c.from_be_bytes.ensures ∙ ap (λ (l : List ℕ). from_be_bytes w64 l) c.copy_from_slice.ensures.after) in
    (drop 8 text, cc (eight, take-append-drop 8 text))
