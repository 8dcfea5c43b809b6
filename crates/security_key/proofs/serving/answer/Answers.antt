-- What is owed of `answer`.
use Rattle.std.proofs.Common.{◌≤◌, ap, arith, length}
use Rattle.hidlink.specs.Ranks.{DeviceState}
use Rattle.security_key.proofs.Acting.{not_refused}
use Rattle.security_key.proofs.serving.answer.Goals as goal

pub returns-clause-payload : goal.returns-clause-payload
returns-clause-payload c = (c.requires.size, λ k. (c.type_inv.reply k).fits)

pub returns-clause-moves : goal.returns-clause-moves
returns-clause-moves c =
    let fits : length c.args.reply.now ≤ 7609 = c.requires.size in
    record {
      left = not_refused c.answer.result (λ e. c.answer.ensures.not_working.0 e c.requires.works)
          (λ e. let more = (c.answer.ensures.too_long.0 e).1 in omega (arith, more, fits)) c.answer.ensures.sent;
      history = c.answer.ensures.history;
    }

pub returns-clause-idle : goal.returns-clause-idle
returns-clause-idle c =
    let fits : length c.args.reply.now ≤ 7609 = c.requires.size in
    ap (λ (d : DeviceState). d.state) (not_refused c.answer.result (λ e. c.answer.ensures.not_working.0 e c.requires.works)
    (λ e. let more = (c.answer.ensures.too_long.0 e).1 in omega (arith, more, fits)) c.answer.ensures.idle)
