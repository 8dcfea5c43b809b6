-- What is owed of `nests_within`.
use Rattle.std.proofs.Common.{◌≡◌, ◌+◌, ◌<◌, ◌≤◌, ℕ, List, length, take, get_or, refl, sym, ap, ◌∙◌, arith, add-one, below_more, below_none}
use Rattle.std.proofs.Math.Seq.{take-suc}
use Rattle.std.proofs.lemmas.List.Sums.{fold_push}
use Rattle.json_lines.specs.declared.nesting.Place.{Place}
use Rattle.json_lines.specs.Nesting.{next, place_after}
use Rattle.json_lines.proofs.nesting.nests_within.Goals as goal

-- the place one byte further
further : (bytes : List ℕ) (i : ℕ) → i < length bytes → place_after (take (i + 1) bytes) ≡ next (place_after (take i bytes)) (get_or bytes i 0)
unfolding place_after
further bytes i within =
    ap (λ n. place_after (take n bytes)) (add-one i) ∙ ap place_after (take-suc bytes i 0 within) ∙ fold_push next _ (take i bytes) (get_or bytes i 0)

pub loop-byte-init : goal.loop-byte-init
unfolding place_after
loop-byte-init c = record {
  place = refl;
  within = omega arith;
  before = below_more (λ i. (place_after (take i c.args.text.now)).depth ≤ 32) 0 (below_none (λ i. (place_after (take i c.args.text.now)).depth ≤ 32)) (omega arith);
}

pub returns-then-place-gt-MAX_NESTING : goal.returns-then-place-gt-MAX_NESTING
returns-then-place-gt-MAX_NESTING c =
    let here = c.after-place.ensures ∙ ap (λ (p : Place). next p (get_or c.args.text.now c.loop-byte.byte-index 0)) c.loop-byte.invariant.place
    ∙ sym (further c.args.text.now c.loop-byte.byte-index c.loop-byte-test.true) in
    (λ never. absurd (cc), λ nests. let deep = nests (c.loop-byte.byte-index + 1) in absurd (omega (arith, deep, ap (λ (p : Place). p.depth) here)))

pub loop-byte-preserved : goal.loop-byte-preserved
loop-byte-preserved c =
    let here = c.after-place.ensures ∙ ap (λ (p : Place). next p (get_or c.args.text.now c.loop-byte.byte-index 0)) c.loop-byte.invariant.place
    ∙ sym (further c.args.text.now c.loop-byte.byte-index c.loop-byte-test.true) in
    record {
      place = here;
      within = c.if-place-gt-MAX_NESTING.false;
      before = below_more (λ i. (place_after (take i c.args.text.now)).depth ≤ 32) (c.loop-byte.byte-index + 1) c.loop-byte.invariant.before
          (omega (arith, ap (λ (p : Place). p.depth) here));
    }
