-- What is owed of `one_frame_list`.
use Rattle.hidframe.proofs.Uniqueness.{the_items}
use Rattle.hidframe.proofs.Existence.{are_zero_frames}
use Rattle.hidframe.proofs.frames.one_frame_list.Goals as goal

pub returns : goal.returns
returns c = λ cid cmd m low small room are. record { frames = are_zero_frames cid cmd m low small room are; only = λ qs z. the_items cid cmd m qs z }
