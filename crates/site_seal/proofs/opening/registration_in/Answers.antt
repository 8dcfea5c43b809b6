-- What is owed of `registration_in`.
use Rattle.std.proofs.Common.{◌≡◌, List, length, get_or, drop, refl, sym, ap, subst, ◌∙◌, arith, rules}
use Rattle.std.specs.List.{list_any}
use Rattle.cose.specs.declared.key.Alg.{Alg}
use Rattle.std.proofs.lemmas.List.{take_rest}
use Rattle.site_seal.specs.Seal.{AreInOrder, IsWithin, in_order, is_es256, is_ed_dsa, is_rs256}
use Rattle.site_seal.proofs.Algorithms.{listed_in_order, offered_ed_dsa, offered_es256, offered_rs256}
use Rattle.site_seal.proofs.Bytes.{seven}
use Rattle.site_seal.proofs.opening.registration_in.Goals as goal

pub returns-clause-found : goal.returns-clause-found
returns-clause-found c =
    let rest = c.args.rest.now in
    let es256 = c.in-Some-truth-3.es256 in
    let ed_dsa = c.in-Some-truth-4.ed_dsa in
    let rs256 = c.in-Some-truth-5.rs256 in
    let listed = c.in_ok-from_slice-2.field-0.items in
    let user : c.in_ok-from_slice.field-0.items ≡ drop 7 rest = c.in_ok-from_slice.ensures.items ∙ take_rest rest 7 in
    let algorithms : listed ≡ in_order es256 ed_dsa rs256 = c.in_ok-from_slice-2.ensures.items ∙ c.in_order.ensures.is in
    let es256_there = ap (λ (l : List Alg). list_any is_es256 l) algorithms ∙ offered_es256 es256 ed_dsa rs256 in
    let ed_dsa_there = ap (λ (l : List Alg). list_any is_ed_dsa l) algorithms ∙ offered_ed_dsa es256 ed_dsa rs256 in
    let rs256_there = ap (λ (l : List Alg). list_any is_rs256 l) algorithms ∙ offered_rs256 es256 ed_dsa rs256 in
    let front = seven rest (omega (arith, c.in-len7-up.len_at_least)) in
    let behind = take_rest rest 7 in
    let long : get_or rest 6 0 ≡ length (drop 7 rest) = cc (c.from.ensures, c.if-from-user.false, ap length behind) in (
      record {
        user = subst (IsWithin 64) (sym c.in_ok-from_slice.ensures.items) (c.if-not-is_within.ensures.0 (search rules));
        algorithms = subst AreInOrder (sym algorithms) (listed_in_order es256 ed_dsa rs256);
        challenge = c.told-challenge;
      },
      cc (front, long, user, es256_there, ed_dsa_there, rs256_there, c.in-Some.ensures, c.in-Some-truth.ensures, c.in-Some-truth-2.ensures, c.in-Some-truth-3.ensures, c.in-Some-truth-4.ensures, c.in-Some-truth-5.ensures),
      refl,
    )
