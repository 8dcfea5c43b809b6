-- What is owed of `said`.
use Rattle.std.proofs.Common.{◌++◌, [], ◌∷◌}
use Rattle.client_lines.proofs.channel.said.Goals as goal

pub returns-in-Ok-More : goal.returns-in-Ok-More
returns-in-Ok-More c = λ ps answers. c.keepalive.ensures (ps ++ c.args.packet.now ∷ [])
