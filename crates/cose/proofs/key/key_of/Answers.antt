-- What is owed of `key_of`.
use Rattle.std.proofs.Common.{sym, refl, ◌∙◌, ap, option_map}
use Rattle.cose.specs.Keys.{lent_key_view}
use Rattle.cose.proofs.Exact.{es256_takes, eddsa_takes, never_refused}
use Rattle.cose.proofs.key.key_of.Goals as goal

pub returns-in-Some-clause-found : goal.returns-in-Some-clause-found
returns-in-Some-clause-found c = es256_takes _ _ (sym c.in-Some.ensures)

pub returns-in-Some-eddsa-clause-found : goal.returns-in-Some-eddsa-clause-found
returns-in-Some-eddsa-clause-found c = eddsa_takes _ _ (sym c.in-Some-eddsa.ensures)

pub returns-in-None-clause-none : goal.returns-in-None-clause-none
returns-in-None-clause-none c = λ _ k h. never_refused _ _ k refl
    (sym c.es256.ensures ∙ ap (option_map lent_key_view) c.in_default.is)
    (sym c.eddsa.ensures ∙ ap (option_map lent_key_view) c.in_default-eddsa.is)
    (c.in-None.ensures.none refl) h
