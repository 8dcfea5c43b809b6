-- What is owed of `value_of`.
use Rattle.std.proofs.Common.{ℕ, List, Bool, sym, ap, ◌∙◌, Bor}
use Rattle.std.specs.Prelude.{option_map}
use Rattle.ctap_open_requests.proofs.Told.{value_is}
use Rattle.ctap_open_requests.proofs.limits.value_of.Goals as goal

pub returns-in-Some : goal.returns-in-Some
returns-in-Some c = sym (ap (option_map (λ (e : Bor (Bor (List ℕ) × Bool)). e.now.1)) c.in-Some.is)
    ∙ value_is c.args.name.now c.args.options.now c.first_of.result c.first_of.ensures

pub returns-in-None : goal.returns-in-None
returns-in-None c = sym (ap (option_map (λ (e : Bor (Bor (List ℕ) × Bool)). e.now.1)) c.in-None.is)
    ∙ value_is c.args.name.now c.args.options.now c.first_of.result c.first_of.ensures
