-- What is owed of `packet_at`.
use Rattle.std.proofs.Common.{sym, ◌∙◌, ap}
use Rattle.std.specs.Prelude.{slice_get}
use Rattle.hidframe.proofs.Uniqueness.{the_items}
use Rattle.hidframe.proofs.frames.packet_at.Goals as goal

pub returns-clause-frames : goal.returns-clause-frames
returns-clause-frames c = λ ps z. c.piece.ensures.at ∙ ap (λ qs. slice_get qs c.args.i) (sym (the_items c.args.cid c.args.cmd c.args.payload.now ps z))
