-- From the steps of a format to those of a statement.
use Rattle.std.proofs.Common.{◌≡◌, Option, Result, MatchOption, sym, subst}
use Rattle.std.specs.Prelude.{OnOk, IfErr}
use Rattle.refusal_order.specs.Lines.{Each, FirstFailing}
use Rattle.attestation.specs.declared.refusal.AttestationRefusal.{AttestationRefusal}
use Rattle.attestation.specs.Inputs.{Inputs}
use Rattle.attestation.specs.declared.signature.AskedSignature.{AskedSignature}
use Rattle.attestation.specs.Asked.{asked_view}
use Rattle.attestation.specs.Signed.{Signed, Validity}
use Rattle.attestation.specs.Statements.{StatementForm}
use Rattle.attestation.specs.Steps.{Asks, Passes, steps_of}

module _ {A : Type 0} (valid : Validity) (i : Inputs) (f g : StatementForm) (r : Result A AttestationRefusal) (is : f ≡ g) where
  pub passes_as : OnOk r (Each (Passes valid g i) (steps_of g)) → OnOk r (Each (Passes valid f i) (steps_of f))
  passes_as h = subst (λ (x : StatementForm). OnOk r (Each (Passes valid x i) (steps_of x))) (sym is) h

  pub refused_as : IfErr r (FirstFailing (Passes valid g i) (steps_of g)) → IfErr r (FirstFailing (Passes valid f i) (steps_of f))
  refused_as h = subst (λ (x : StatementForm). IfErr r (FirstFailing (Passes valid x i) (steps_of x))) (sym is) h

pub asks_as : (i : Inputs) (f g : StatementForm) (r : Option AskedSignature) → f ≡ g → MatchOption r ((s : Signed) → Asks g i s → ⊥) (λ a. Asks g i (asked_view a))
    → MatchOption r ((s : Signed) → Asks f i s → ⊥) (λ a. Asks f i (asked_view a))
asks_as i f g r is h = subst (λ (x : StatementForm). MatchOption r ((s : Signed) → Asks x i s → ⊥) (λ a. Asks x i (asked_view a))) (sym is) h
