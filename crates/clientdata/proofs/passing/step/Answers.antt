-- What is owed of `step`.
use Rattle.std.proofs.Common.{◌≡◌, ◌<◌, ◌≤◌, ℕ, Bool, List, Option, ◌∙◌, sym, ap, subst, arith, length, length-append, [], ◌∷◌, ◌++◌}
use Rattle.std.specs.Prelude.{option_map}
use Rattle.json.specs.Reads.{token_of}
use Rattle.json.specs.declared.token.Token.{Token}
use Rattle.clientdata.specs.Passing.{GoesOn, all_closed, resumed}
use Rattle.clientdata.proofs.Around.{all_closed-ends, all_closed-fails, all_closed-goes_on, begun}
use Rattle.clientdata.proofs.passing.step.Goals as goal

-- the innermost one stands within the depth
inside : (around rest : List Bool) (kind : Bool) (depth : ℕ) → around ≡ rest ++ kind ∷ [] → length around ≤ depth → length rest < depth
inside around rest kind depth e within = omega (arith, ap length e, length-append rest (kind ∷ []))

pub returns-in-Err-clause-left : goal.returns-in-Err-clause-left
returns-in-Err-clause-left c =
    ap (λ kinds. all_closed c.args.depth kinds c.args.reader.now) c.pop-is_object.ensures
    ∙ all_closed-fails _ _ _ _ (inside _ _ _ _ c.pop-is_object.ensures c.requires.1) c.in-Err.ensures.left

pub returns-in-Ok-None-clause-left : goal.returns-in-Ok-None-clause-left
returns-in-Ok-None-clause-left c =
    ap (λ kinds. all_closed c.args.depth kinds c.args.reader.now) c.pop-is_object.ensures
    ∙ all_closed-ends _ _ _ _ _ (inside _ _ _ _ c.pop-is_object.ensures c.requires.1)
    (λ d. subst (λ (o : Option Token). GoesOn c.pop-is_object.result d (option_map token_of o) c.args.reader.now c.next_value.new.reader) c.in-Ok-None.field-0-is (c.in-Ok-None.ensures.left d))

pub returns-in-Ok-Some-clause-left : goal.returns-in-Ok-Some-clause-left
returns-in-Ok-Some-clause-left c =
    begun c.begin.result c.args.depth c.push.new.self c.begin.new.around (token_of c.in-Ok-Some.token) c.next_value.new.reader _
    (ap (λ kinds. all_closed c.args.depth kinds c.args.reader.now) c.pop-is_object.ensures
    ∙ all_closed-goes_on _ _ _ _ (token_of c.in-Ok-Some.token ∷ c.next_value.new.reader) (inside _ _ _ _ c.pop-is_object.ensures c.requires.1)
    (λ d. subst (λ (o : Option Token). GoesOn c.pop-is_object.result d (option_map token_of o) c.args.reader.now c.next_value.new.reader) c.in-Ok-Some.field-0-is (c.in-Ok-Some.ensures.left d))
    ∙ ap (λ kinds. resumed c.args.depth kinds (token_of c.in-Ok-Some.token ∷ c.next_value.new.reader)) (sym c.push.ensures))
    c.begin.ensures.left
