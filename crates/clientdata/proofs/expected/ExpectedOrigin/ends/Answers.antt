-- What is owed of `ExpectedOrigin::ends`.
use Rattle.std.proofs.Common.{◌≡◌, true, inl, inr, ap, sym, ◌∙◌, ◌++◌}
use Rattle.std.proofs.lemmas.Bool.Decides.{Decides-eqb}
use Rattle.std.proofs.lemmas.Slice.Eq.{slice_eq-Decides}
use Rattle.clientdata.specs.Expected.{after_challenge}
use Rattle.clientdata.proofs.Whole.{ends, not_crossing}
use Rattle.clientdata.proofs.expected.ExpectedOrigin.ends.Goals as goal

pub returns-then-takes_cross-clause-told : goal.returns-then-takes_cross-clause-told
returns-then-takes_cross-clause-told c =
    let first = slice_eq-Decides Decides-eqb c.in-Some.rest.now c.as_slice.result.now c.eq.result c.eq.ensures in
    let same = slice_eq-Decides Decides-eqb c.in-Some.rest.now c.as_slice-then-takes_cross.result.now c.eq-then-takes_cross.result
    c.eq-then-takes_cross.ensures in
    let is : c.args.rest.now ≡ after_challenge c.args.self.now ++ c.in-Some.rest.now = c.in-Some.ensures
    ∙ ap (λ back. back ++ c.in-Some.rest.now) c.written.ensures.text in (
      λ h. (
        true,
        λ barred. let taken = c.if-takes_cross.true in absurd cc,
        is ∙ ap (λ last. after_challenge c.args.self.now ++ last) (same.0 h ∙ c.as_slice-then-takes_cross.ensures),
      ),
      λ t. elim (ends c.args.self.now c.args.rest.now c.in-Some.rest.now is (t.0, t.2)) [
        | inl e ↦ let was : c.eq.result ≡ true = first.1 (e ∙ sym c.as_slice.ensures) in let not_so = c.if-eq.false in absurd (cc)
        | inr e ↦ same.1 (e ∙ sym c.as_slice-then-takes_cross.ensures)
      ],
    )

pub returns-else-takes_cross-clause-told : goal.returns-else-takes_cross-clause-told
returns-else-takes_cross-clause-told c =
    let barred = c.if-takes_cross.false in
    let first = slice_eq-Decides Decides-eqb c.in-Some.rest.now c.as_slice.result.now c.eq.result c.eq.ensures in
    let is : c.args.rest.now ≡ after_challenge c.args.self.now ++ c.in-Some.rest.now = c.in-Some.ensures
    ∙ ap (λ back. back ++ c.in-Some.rest.now) c.written.ensures.text in (
      λ h. absurd cc,
      λ t.
          let e = not_crossing c.args.self.now c.args.rest.now c.in-Some.rest.now is t.0 (t.1 barred) t.2 in
          let was : c.eq.result ≡ true = first.1 (e ∙ sym c.as_slice.ensures) in let not_so = c.if-eq.false in absurd (cc),
    )
