-- What is owed of `certificates_in`.
use Rattle.std.proofs.Common.{◌≡◌, ◌+◌, ℕ, List, ◌∷◌, ◌++◌, [], map, set, take, Bor, sym, ap, ◌∙◌, arith}
use Rattle.std.proofs.lemmas.List.{map-append, take_more_set, length-set}
use Rattle.ccbor.specs.Item.{Item, Items, array, item}
use Rattle.ccbor.specs.Viewing.{shown_items}
use Rattle.ccbor.proofs.AccessLemmas.{bytes_in_is, first_is, none_is}
use Rattle.attestation.specs.Walks.{behind}
use Rattle.attestation.proofs.Listed.{behind_end, behind_more, empty, front_length, full, not_bytes}
use Rattle.attestation.proofs.x5c.certificates_in.Goals as goal

-- the items that are left begin with this one
begins : (v : Item) (front : List (List ℕ)) (xs : Items) (x : Item) (rest : Items) → v ≡ array (behind front xs) → xs ≡ item x rest
    → v ≡ array (behind front (item x rest))
begins v front xs x rest is first = is ∙ ap (λ (ys : Items). array (behind front ys)) first

pub returns-then-count-eq-MAX_CERTIFICATES : goal.returns-then-count-eq-MAX_CERTIFICATES
returns-then-count-eq-MAX_CERTIFICATES c = λ cs are e.
    let l = c.loop-item in
    let at = begins _ _ _ _ _ l.invariant.is (first_is _ _ _ (sym c.in-Some.ensures.parts)) in
    full _ _ cs _ _ at (front_length l.count l.list (omega (arith, l.invariant.size, l.invariant.limit)) ∙ c.if-count-eq-MAX_CERTIFICATES.true) are e

pub returns-in_default-as_bytes : goal.returns-in_default-as_bytes
returns-in_default-as_bytes c = λ cs are e.
    let l = c.loop-item in
    let at = begins _ _ _ _ _ l.invariant.is (first_is _ _ _ (sym c.in-Some.ensures.parts)) in
    not_bytes _ _ cs _ _ at c.in_default-as_bytes.ensures e

pub loop-item-preserved : goal.loop-item-preserved
loop-item-preserved c =
    let l = c.loop-item in
    let b = c.in-Some-as_bytes.certificate in
    let at = begins _ _ _ _ _ l.invariant.is (first_is _ _ _ (sym c.in-Some.ensures.parts)) in
    let more : map (λ (b : Bor (List ℕ)). b.now) (take (l.count + 1) (set l.list l.count b)) ≡ map (λ (b : Bor (List ℕ)). b.now) (take l.count l.list) ++ b.now ∷ [] =
    ap (map (λ (b : Bor (List ℕ)). b.now)) (take_more_set l.list l.count b (omega (arith, l.invariant.size, l.invariant.limit, c.if-count-eq-MAX_CERTIFICATES.false)))
    ∙ map-append (λ (b : Bor (List ℕ)). b.now) (take l.count l.list) (b ∷ []) in
    record {
      limit = omega (arith, l.invariant.limit, c.if-count-eq-MAX_CERTIFICATES.false);
      size = length-set l.list l.count b ∙ l.invariant.size;
      is = at
          ∙ ap (λ (x : Item). array (behind (map (λ b. b.now) (take l.count l.list)) (item x (shown_items c.in-Some.rest)))) (bytes_in_is _ b.now (sym c.in-Some-as_bytes.ensures))
          ∙ ap array (sym (behind_more (map (λ b. b.now) (take l.count l.list)) b.now (shown_items c.in-Some.rest)))
          ∙ ap (λ (f : List (List ℕ)). array (behind f (shown_items c.in-Some.rest))) (sym more);
    }

pub returns-then-count-eq0 : goal.returns-then-count-eq0
returns-then-count-eq0 c = λ cs are e.
    let l = c.loop-item in
    empty _ _ cs _ l.invariant.is (none_is _ (sym c.in_default.ensures.parts))
    (front_length l.count l.list (omega (arith, l.invariant.size, l.invariant.limit)) ∙ c.if-count-eq0.true) are e

pub returns : goal.returns
returns c =
    let l = c.loop-item in
    let len = front_length l.count l.list (omega (arith, l.invariant.size, l.invariant.limit)) in (
      record { some = omega (arith, len, c.if-count-eq0.false); limit = omega (arith, len, l.invariant.limit) },
      l.invariant.is ∙ ap (λ (ys : Items). array (behind (map (λ b. b.now) (take l.count l.list)) ys)) (none_is _ (sym c.in_default.ensures.parts))
          ∙ ap array (behind_end (map (λ b. b.now) (take l.count l.list))),
    )
