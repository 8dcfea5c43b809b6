-- What is owed of `goes_on`.
use Rattle.std.proofs.Common.{inl, inr}
use Rattle.std.proofs.lemmas.Bool.{eqb-true, eq-eqb}
use Rattle.clientdata.proofs.Verifying.{verified, goes_on}
use Rattle.clientdata.proofs.serialising.goes_on.Goals as goal

pub returns-then-next-eq125 : goal.returns-then-next-eq125
returns-then-next-eq125 c =
    let x = c.in-Some-len1-up in
    (λ _. verified _ _ _ x.ensures x.len_at_least (inl c.if-next-eq125.true), λ _. eq-eqb _ _ c.if-next-eq125.true)

pub returns-else-next-eq125 : goal.returns-else-next-eq125
returns-else-next-eq125 c =
    let x = c.in-Some-len1-up in (
      λ comma. verified _ _ _ x.ensures x.len_at_least (inr (eqb-true _ _ comma)),
      λ v. elim (goes_on _ _ _ x.ensures v) [ inl brace ↦ absurd (c.if-next-eq125.false brace) | inr comma ↦ eq-eqb _ _ comma ],
    )
