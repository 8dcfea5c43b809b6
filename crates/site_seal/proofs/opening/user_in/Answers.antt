-- What is owed of `user_in`.
use Rattle.std.proofs.Common.{◌≡◌, ◌≤◌, ◌-◌, ◌∷◌, ℕ, List, length, get_or, take, drop, ap, ◌∙◌, arith, rules}
use Rattle.std.proofs.lemmas.List.{length-take-le, take-append-drop, drop_more, take_rest}
use Rattle.site_seal.proofs.opening.user_in.Goals as goal

pub returns-in_ok-hash-in-1-clause-found : goal.returns-in_ok-hash-in-1-clause-found
returns-in_ok-hash-in-1-clause-found c =
    let bytes = c.args.bytes.now in
    let has = c.in_ok-hash-in-1.ensures.cases in
    let rest : take (length bytes - 1) (drop 1 bytes) ≡ drop 1 bytes = take_rest bytes 1 in
    let hash : c.in_ok-hash-in-1.hash.now ≡ take 32 (drop 1 bytes) = has.0 ∙ ap (λ (l : List ℕ). take 32 l) rest in
    let after : c.in_ok-hash-in-1.rest.now ≡ drop 32 (drop 1 bytes) = has.1 ∙ ap (λ (l : List ℕ). drop 32 l) rest in
    let long : 32 ≤ length (drop 1 bytes) = omega (arith, has.2, ap length rest) in
    let first : get_or bytes 0 0 ≡ 1 = search rules in
    let whole : bytes ≡ get_or bytes 0 0 ∷ drop 1 bytes = drop_more bytes 0 0 (omega (arith, c.in-1.len_at_least)) in
    (cc (whole, first, hash, after, take-append-drop 32 (drop 1 bytes)), ap length hash ∙ length-take-le 32 (drop 1 bytes) long)
