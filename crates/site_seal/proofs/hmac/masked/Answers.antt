-- What is owed of `masked`.
use Rattle.std.proofs.Common.{◌≡◌, ◌++◌, [], ◌∷◌, ◌+◌, ◌-◌, List, ℕ, suc, length, map, set, take, get_or, replicate, refl, sym, ap, ◌∙◌, arith}
use Rattle.std.specs.Prelude.{bit_xor}
use Rattle.std.specs.Int.Bits.{xor_zero_l}
use Rattle.std.proofs.lemmas.List.{append_assoc, length-map, length-take-le, map-append, map_more, set_at, take_all}
use Rattle.site_seal.proofs.hmac.masked.Goals as goal

pub loop-i-preserved : goal.loop-i-preserved
loop-i-preserved c =
    let i = c.loop-i.i in
    let key = c.args.key.now in
    let mask = c.args.mask in
    let f = λ (byte : ℕ). bit_xor byte mask in
    let rest = replicate (64 - (i + 1)) mask in
    let one : 64 - i ≡ suc (64 - (i + 1)) = omega arith in
    let front = map f (take i key) in
    let long : length front ≡ i = length-map (take i key) f ∙ length-take-le i key (omega arith) in
    ap (λ (l : List ℕ). set l i (f (get_or key i 0))) (c.loop-i.invariant ∙ ap (λ n. front ++ replicate n mask) one)
    ∙ set_at front mask rest (f (get_or key i 0)) i long
    ∙ sym (append_assoc front (f (get_or key i 0) ∷ []) rest)
    ∙ ap (λ (l : List ℕ). l ++ rest) (sym (map_more f key i 0 (omega arith)))

pub returns : goal.returns
returns c =
    let key = c.args.key.now in
    let mask = c.args.mask in
    let f = λ (byte : ℕ). bit_xor byte mask in
    let end : c.loop-i.i ≡ 32 = omega arith in
    let all : take 32 key ≡ key = take_all 32 key (omega arith) in
    let here : c.loop-i.block ≡ map f (take 32 key) ++ replicate 32 mask = c.loop-i.invariant ∙ ap (λ i. map f (take i key) ++ replicate (64 - i) mask) end in
    let zeros : map f (replicate (64 - length key) 0) ≡ replicate 32 mask = rw (c.told-key, xor_zero_l) refl in
    here ∙ ap (λ (l : List ℕ). map f l ++ replicate 32 mask) all ∙ ap (λ (l : List ℕ). map f key ++ l) (sym zeros)
    ∙ sym (map-append f key (replicate (64 - length key) 0))
