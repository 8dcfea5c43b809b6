-- What is owed of `feed_all`.
use Rattle.std.proofs.Common.{◌++◌, ◌↔◌, [], ◌∷◌, inr, take, slice_index_or, refl, sym, ◌∙◌, subst, true≢false, IsTrue, arith}
use Rattle.std.proofs.lemmas.List.{length-take, take_more, take_all}
use Rattle.hidframe.specs.declared.Packet.{Packet}
use Rattle.hidlink.specs.Wire.{Got, HasEnded}
use Rattle.hidlink.specs.Receives.{IsTaken}
use Rattle.hidlink.proofs.Taken.{taken_on, taken_still}
use Rattle.hidlink.proofs.collection.feed_all.Goals.{then-not-is_late, else-not-is_late}
use Rattle.hidlink.proofs.collection.feed_all.Goals as goal

pub loop-packet-init : goal.loop-packet-init
loop-packet-init c = record {
  channel = refl;
  got = c.requires;
  taken = record { within = omega arith; shortest = λ j less. absurd (omega arith); ended = inr refl };
}

pub overflow_add-used : goal.overflow_add-used
overflow_add-used c = let within = c.loop-packet.invariant.taken.within in omega (arith, length-take {A = Packet})

-- the packets so far and one more
pub loop-packet-preserved : goal.loop-packet-preserved
loop-packet-preserved c =
    let i = c.loop-packet.invariant in
    let a = c.args.collector.now.cid in
    let ps = take c.loop-packet.packet-index c.args.packets.now in
    let p : Packet = slice_index_or c.args.packets.now c.loop-packet.packet-index (record { 0 = [] }) in
    let push = take_more c.args.packets.now c.loop-packet.packet-index (record { 0 = [] }) c.loop-packet-test.true in
    let had = subst (λ k. Got k ps c.loop-packet.collector.shown) (sym i.channel) i.got in
    let got = subst (λ k. Got k (ps ++ p ∷ []) c.is_late.new.collector.shown) i.channel (c.is_late.ensures.got ps had) in
    let late = subst (λ k. IsTrue c.is_late.result ↔ HasEnded k ps) i.channel (c.is_late.ensures.late ps had) in
    record {
      channel = c.is_late.ensures.channel ∙ i.channel;
      got = rw push got;
      taken = rw push (elim c.if-not-is_late.branch [
        | then-not-is_late w ↦ rw w.used-is (taken_on a ps p c.loop-packet.used i.taken (λ e. true≢false (sym (late.1 e) ∙ w.if-not-is_late.true)))
        | else-not-is_late w ↦ rw w.used-is (taken_still a ps p c.loop-packet.used i.taken (late.0 w.if-not-is_late.false))
      ]);
    }

pub returns : goal.returns
returns c =
    let i = c.loop-packet.invariant in
    let all = take_all c.loop-packet.packet-index c.args.packets.now c.loop-packet-test.false in
    record {
      channel = i.channel;
      got = subst (λ ps. Got c.args.collector.now.cid ps c.loop-packet.collector.shown) all i.got;
      taken = subst (λ ps. IsTaken c.args.collector.now.cid ps c.loop-packet.used) all i.taken;
    }
