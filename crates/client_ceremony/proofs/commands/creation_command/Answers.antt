-- What is owed of `creation_command`.
use Rattle.client_ceremony.specs.Commands.{CreationBytes}
use Rattle.client_ceremony.specs.Pieces.{for, no_room}
use Rattle.ctap_open_replies.specs.ReplyView.{info_view}
use Rattle.ctap_open_requests.specs.Limits.{IsRefused}
use Rattle.ctap_open_requests.specs.Requests.{Creation, CreationOf}
use Rattle.std.proofs.Common.{refl, subst}
use Rattle.client_ceremony.proofs.commands.creation_command.Goals as goal

pub returns-in-Err-clause-none : goal.returns-in-Err-clause-none
returns-in-Err-clause-none c =
    no_room refl

pub returns-in-Ok-write_creation-clause-written : goal.returns-in-Ok-write_creation-clause-written
returns-in-Ok-write_creation-clause-written c =
    subst (λ (q : Creation). CreationBytes (info_view c.args.info.now) q c.in-Ok-write_creation.command.items) c.in-Ok.ensures c.in-Ok-write_creation.ensures.written

pub returns-in-Err-write_creation-clause-none : goal.returns-in-Err-write_creation-clause-none
returns-in-Err-write_creation-clause-none c =
    for (c.in-Err-write_creation.e, subst (λ (q : Creation). IsRefused (info_view c.args.info.now) q.options q.exclude (CreationOf q) c.in-Err-write_creation.e) c.in-Ok.ensures c.in-Err-write_creation.ensures.refused, c.of_request.ensures)
