-- What is owed of `front_of`.
use Rattle.std.proofs.Common.{◌≡◌, ◌<◌, ◌∷◌, ℕ, List, length, get_or, take, ap, subst, ◌∙◌, arith, rules}
use Rattle.std.specs.Int.{w64, to_be_bytes, from_be_bytes}
use Rattle.std.proofs.lemmas.List.{length-take-le, take-append-drop}
use Rattle.std.proofs.lemmas.Nat.{be_bytes_8}
use Rattle.site_seal.proofs.Bytes.{tail_below, taken_below}
use Rattle.site_seal.proofs.opening.front_of.Goals as goal

pub returns-clause-challenge : goal.returns-clause-challenge
returns-clause-challenge c =
    let has = c.in_ok-challenge.ensures.cases in
    ap length has.0 ∙ length-take-le 32 c.in_ok-ends.rest.now (omega (arith, has.2))

pub returns-clause-parts : goal.returns-clause-parts
returns-clause-parts c =
    let text = c.args.text.now in
    let kind = c.in_ok-kind.kind.now in
    let first = c.in_ok-kind.rest.now in
    let second = c.in_ok-ends.rest.now in
    let ends = c.in_ok-ends.ensures.cases in
    let challenge = c.in_ok-challenge.ensures.cases in
    let whole : text ≡ kind ∷ first = search (rules, c.in_ok-kind.ensures.cases) in
    let small = subst (λ (l : List ℕ). (i : ℕ) → get_or l i 0 < 256) whole (λ i. let below : get_or text i 0 < 256 = omega (arith, c.type_inv.text i) in below) in
    let eight : to_be_bytes w64 c.from_be_bytes.result ≡ take 8 first = be_bytes_8 (take 8 first) c.from_be_bytes.result
    (length-take-le 8 first (omega (arith, ends.2))) (taken_below 8 first (tail_below kind first small))
    (c.from_be_bytes.ensures ∙ ap (λ (l : List ℕ). from_be_bytes w64 l) ends.0) in
    cc (whole, eight, ends.1, challenge.0, challenge.1, take-append-drop 8 first, take-append-drop 32 second)
