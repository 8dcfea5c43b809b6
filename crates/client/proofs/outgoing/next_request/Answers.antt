-- What is owed of `next_request`.
use Rattle.std.proofs.Common.{◌≡◌, [], ◌∷◌, refl, sym, ◌∙◌, subst, arith}
use Rattle.std.specs.Prelude.{Option, Some, IsSome}
use Rattle.hidframe.specs.declared.Packet.{Packet}
use Rattle.hidframe.specs.Pieces.{item}
use Rattle.client.proofs.Single.{first_item, single}
use Rattle.client.proofs.outgoing.next_request.Goals as goal

pub unwrap-requires : goal.unwrap-requires
unwrap-requires c = subst (λ (o : Option Packet). IsSome o) (sym (c.packet_at.ensures.list ∙ first_item c.args.cid 16 8)) refl

pub returns : goal.returns
returns c =
    let both : Some (item c.args.cid 16 (8 ∷ []) 0) ≡ Some c.unwrap.result = sym (c.packet_at.ensures.list ∙ first_item c.args.cid 16 8) ∙ c.unwrap.ensures in
    let same : item c.args.cid 16 (8 ∷ []) 0 ≡ c.unwrap.result = cc in
    (8 ∷ [], refl, single c.args.cid 16 8 c.unwrap.result c.ranges.cid.fits (omega arith) (omega arith) same)
