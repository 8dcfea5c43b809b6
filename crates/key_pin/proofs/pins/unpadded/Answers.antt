-- What is owed of `unpadded`.
use Rattle.std.proofs.Common.{ℕ, [], ◌∷◌, ◌++◌, sym, ap, ◌∙◌}
use Rattle.key_pin.specs.Pins.{unpadded}
use Rattle.key_pin.proofs.Unpadding.{keeps, strip}
use Rattle.key_pin.proofs.pins.unpadded.Goals as goal

pub returns-then-last-ne0 : goal.returns-then-last-ne0
returns-then-last-ne0 c =
    c.in-Some.ensures.cases.0 ∙ sym (keeps c.in-Some.front.now c.in-Some.last.now c.if-last-ne0.true) ∙ ap unpadded (sym c.in-Some.ensures.cases.0) ∙ c.loop-last.invariant

pub loop-last-preserved : goal.loop-last-preserved
loop-last-preserved c =
    sym (strip c.in-Some.front.now) ∙ ap (λ (b : ℕ). unpadded (c.in-Some.front.now ++ b ∷ [])) (sym c.if-last-ne0.false)
    ∙ ap unpadded (sym c.in-Some.ensures.cases.0) ∙ c.loop-last.invariant
