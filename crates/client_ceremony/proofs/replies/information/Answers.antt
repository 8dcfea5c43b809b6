-- What is owed of `information`.
use Rattle.client_ceremony.proofs.Stages.{first_halts}
use Rattle.client_ceremony.specs.Exchanges.{later}
use Rattle.client_ceremony.specs.Pieces.{so}
use Rattle.client_ceremony.specs.Way.{is_fido2}
use Rattle.ctap_open_replies.specs.ReplyView.{info_view}
use Rattle.std.proofs.Common.{false, refl, rules, true, ◌≡◌}
use Rattle.client_ceremony.specs.declared.refusal.Refusal.TheVariants as refusals
use Rattle.client_ceremony.proofs.replies.information.Goals as goal

pub returns-in-Err-clause-halts : goal.returns-in-Err-clause-halts
returns-in-Err-clause-halts c =
    first_halts c.in-Err.ensures.halts

pub returns-then-not-is_fido2-clause-halts : goal.returns-then-not-is_fido2-clause-halts
returns-then-not-is_fido2-clause-halts c =
    let no : is_fido2 (info_view c.in-Ok.info) ≡ false = search rules in
    so (later (info_view c.in-Ok.info) c.in-Ok.ensures.told (refusals.U2fOnly, (no, refl), refl))

pub returns-clause-info : goal.returns-clause-info
returns-clause-info c =
    let yes : is_fido2 (info_view c.in-Ok.info) ≡ true = search rules in
    (c.in-Ok.ensures.told, yes)
