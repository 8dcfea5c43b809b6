-- What is owed of `signed`.
use Rattle.client_ceremony.proofs.Stages.{first_halts, then_halts}
use Rattle.ctap_open_replies.specs.declared.reply.KeyAssertion.{KeyAssertion}
use Rattle.std.proofs.Common.{Global, Vec, map, subst, ℕ, ◌<◌}
use Rattle.std.proofs.lemmas.List.{length-map}
use Rattle.std.proofs.lemmas.Option.{slice_get_within}
use Rattle.client_ceremony.proofs.assertions.signed.Goals as goal

pub chosen-requires : goal.chosen-requires
chosen-requires c =
    subst (λ (n : ℕ). c.args.place < n) (length-map c.args.known.now.replies.now (λ (v : Vec ℕ Global). v.items)) (slice_get_within (map (λ (v : Vec ℕ Global). v.items) c.args.known.now.replies.now) c.args.place c.in-Ok.ensures.told.0 c.in-Ok.ensures.told.1.1)

pub returns-in-Ok : goal.returns-in-Ok
returns-in-Ok c =
    then_halts {V = KeyAssertion} c.in-Ok.first c.in-Ok.ensures.told c.chosen.ensures

pub returns-in-Err : goal.returns-in-Err
returns-in-Err c =
    first_halts c.in-Err.ensures.halts
