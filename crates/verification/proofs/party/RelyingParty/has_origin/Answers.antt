-- What is owed of `RelyingParty::has_origin`.
use Rattle.std.proofs.Common.{rules, Contains, subst, sym, ◌∙◌}
use Rattle.std.proofs.lemmas.Bool.Decides.{Decides-eqb}
use Rattle.std.proofs.lemmas.Slice.Eq.{slice_eq-Decides}
use Rattle.verification.specs.Records.{RelyingParty}
use Rattle.clientdata.proofs.Lists.{listed, none_listed}
use Rattle.verification.proofs.party.RelyingParty.has_origin.Goals as goal

pub returns-then-eq : goal.returns-then-eq
returns-then-eq c =
    let same = (slice_eq-Decides Decides-eqb c.as_str.result.now c.args.text.now c.eq.result c.eq.ensures).0 (search rules) in
    let there = listed c.deref-origin-items.result.now c.loop-origin.origin-index c.origin-item.result c.args.text.now
    c.loop-origin-test.true c.origin-item.is (sym c.as_str.ensures ∙ same) in
    (λ _. rw (sym c.self.view_is, sym c.deref-origin-items.ensures.value) there, λ _. search rules)

pub returns : goal.returns
returns c = (
  λ h. search rules,
  λ h.
      let Has : RelyingParty → Type 0 = λ rp. Contains rp.origins c.args.text.now in
      let inside : Contains c.self.inside.origins.items c.args.text.now = subst Has (sym c.self.view_is) h in
      absurd (none_listed c.deref-origin-items.result.now c.loop-origin.origin-index c.args.text.now
      c.loop-origin-test.false c.loop-origin.invariant (rw c.deref-origin-items.ensures.value inside)),
)
