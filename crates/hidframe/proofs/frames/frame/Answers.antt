-- What is owed of `frame`.
use Rattle.hidframe.proofs.Uniqueness.{the_items}
use Rattle.hidframe.proofs.Existence.{are_zero_frames}
use Rattle.hidframe.proofs.frames.frame.Goals as goal

pub returns-clause-frames : goal.returns-clause-frames
returns-clause-frames c = record {
  frames = are_zero_frames c.args.cid c.args.cmd c.args.payload.now c.ranges.cid.fits c.requires c.if-payload-gt-MAX_PAYLOAD_SIZE.false
      (λ k. (c.type_inv.payload k).fits);
  only = λ qs z. the_items c.args.cid c.args.cmd c.args.payload.now qs z;
}
