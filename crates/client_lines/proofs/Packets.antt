-- What a collector's answer says of the packets.
use Rattle.std.proofs.Common.{◌≡◌, ◌++◌, [], ◌∷◌, ℕ, List, Ok, Bor, sym}
use Rattle.hidframe.specs.declared.Packet.{Packet}
use Rattle.hidframe.specs.declared.ctaphid.TheConstants.{CTAPHID_CBOR}
use Rattle.hidlink.specs.Feeds.{CollectorAnswers}
use Rattle.hidlink.specs.Wire.{Carries}
use Rattle.hidlink.specs.declared.collection.Outcome.TheVariants.{Reply}

-- the reply is what the packets carry
pub carried_reply : (c : ℕ) (ps : List Packet) (p : Packet) (m : Bor (List ℕ)) (bytes : List ℕ)
    → CollectorAnswers c ps p (Ok (Reply m)) → bytes ≡ m.now → Carries c (ps ++ p ∷ []) CTAPHID_CBOR bytes
carried_reply c ps p m bytes answers e = (answers.reply bytes).0 (sym e)
