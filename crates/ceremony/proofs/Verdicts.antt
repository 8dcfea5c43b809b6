-- Packets deliver one message.
use Rattle.std.proofs.Common.{◌≡◌, ℕ, List}
use Rattle.hidframe.specs.declared.Packet.{Packet}
use Rattle.hidlink.proofs.Laws.{one_carried}
use Rattle.ceremony.specs.Verdict.{Delivers}

pub one_message : (c : ℕ) (ps : List Packet) (n k : ℕ) (m l : List ℕ) → Delivers c ps n m → Delivers c ps k l → (n ≡ k) × (m ≡ l)
one_message c ps n k m l a b = let o = one_carried c n k ps 16 16 m l a.0 b.0 a.1 b.1 in (o.0, o.2)
