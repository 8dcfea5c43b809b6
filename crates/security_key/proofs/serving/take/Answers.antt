-- What is owed of `take`.
use Rattle.std.proofs.Common.{◌∙◌, inr}
use Rattle.hidframe.specs.Packets.{fields}
use Rattle.security_key.proofs.Acting.{told_keeps}
use Rattle.security_key.proofs.serving.take.Goals as goal

pub returns-in_default : goal.returns-in_default
returns-in_default c =
    let told = c.packet-event.ensures in
    record {
      takes = inr (λ e. c.in_default.not-Cancelled (told.step ∙ e), record { left = told.sent; history = told.history });
      told = told.step;
      keeps = λ a. told_keeps c.packet-event.result (fields c.args.packet.now) a c.args.device.now c.packet-event.new.self told.told;
    }
