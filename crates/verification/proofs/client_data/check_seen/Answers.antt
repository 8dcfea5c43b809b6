-- What is owed of `check_seen`.
use Rattle.std.proofs.Common.{refl, rules}
use Rattle.refusal_order.proofs.Laws.{first_at}
use Rattle.clientdata.specs.Reading.{seen_of}
use Rattle.verification.specs.Shared.{HasTopOrigin}
use Rattle.verification.proofs.Steps.{of_some}
use Rattle.verification.proofs.client_data.check_seen.Goals as goal

pub returns-then-ne-clause-refused : goal.returns-then-ne-clause-refused
returns-then-ne-clause-refused c = first_at 1 refl (search rules) (search rules)

pub returns-then-not-is_challenge_text-clause-refused : goal.returns-then-not-is_challenge_text-clause-refused
returns-then-not-is_challenge_text-clause-refused c = first_at 2 refl (search rules) (search rules)

pub returns-then-not-has_origin-clause-refused : goal.returns-then-not-has_origin-clause-refused
returns-then-not-has_origin-clause-refused c = first_at 3 refl (search rules) (search rules)

pub returns-then-not-may_be_framed-clause-refused : goal.returns-then-not-may_be_framed-clause-refused
returns-then-not-may_be_framed-clause-refused c = first_at 4 refl (search rules) (search rules)

pub returns-then-not-has_top_origin-clause-refused : goal.returns-then-not-has_top_origin-clause-refused
returns-then-not-has_top_origin-clause-refused c = first_at 5 refl (search rules) (search rules)

pub returns-then-not-has_no_binding-clause-refused : goal.returns-then-not-has_no_binding-clause-refused
returns-then-not-has_no_binding-clause-refused c = first_at 6 refl (search rules) (search rules)

pub returns-clause-passes : goal.returns-clause-passes
returns-clause-passes c =
    let top = of_some (HasTopOrigin c.args.party.now) (seen_of c.args.bytes.now) c.args.seen.now c.requires
    (c.has_top_origin.ensures.0 c.if-not-has_top_origin.false) in
    (search rules, (search rules, (search rules, (search rules, (search rules, (top, (search rules, tt)))))))
