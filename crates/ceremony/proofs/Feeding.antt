-- What a collector's answer to a packet says of a ceremony.
use Rattle.std.proofs.Common.{◌≡◌, ℕ, List, [], ◌∷◌, ◌++◌, refl, Ok, Err}
use Rattle.hidframe.specs.declared.Packet.{Packet}
use Rattle.hidlink.specs.declared.collection.Ended.{Ended}
use Rattle.hidlink.specs.declared.collection.Outcome.{Outcome}
use Rattle.hidlink.specs.declared.collection.Outcome.TheVariants.{More, Reply, DeviceError, Dead}
use Rattle.hidlink.specs.Feeds.{CollectorAnswers}
use Rattle.hidlink.specs.Wire.{HasEnded}
use Rattle.hidlink.proofs.Beginnings.{has_ended_later}
use Rattle.hidlink.proofs.Laws.{carried_ends, death_ends}
use Rattle.ceremony.specs.Packets as packets
use Rattle.ceremony.specs.declared.live.Fed.TheVariants as fed

over : (c : ℕ) (ps : List Packet) (p : Packet) (f : Outcome) → CollectorAnswers c ps p (Ok f) → (f ≡ More → ⊥) → HasEnded c (ps ++ p ∷ [])
over c ps p More a some = absurd (some refl)
over c ps p (Reply bytes) a some = carried_ends c (ps ++ p ∷ []) 16 bytes.now ((a.reply bytes.now).0 refl)
over c ps p (DeviceError code) a some = carried_ends c (ps ++ p ∷ []) 63 (code ∷ []) ((a.device_error code).0 refl)
over c ps p (Dead kind) a some = death_ends c (ps ++ p ∷ []) kind ((a.dead kind).0 refl)

pub ready : (c : ℕ) (ps : List Packet) (p : Packet) (f : Outcome) → (f ≡ More → ⊥) → CollectorAnswers c ps p (Ok f) → packets.LiveAnswers c ps p (Ok fed.Ready)
ready c ps p f some a = record {
  ended = (λ e. absurd e, λ e. a.ended.1 e);
  ready = (λ e. (a.ended.1, over c ps p f a some), λ e. tt);
  more = (λ e. absurd e, λ e. e (over c ps p f a some));
}

pub ended : (c : ℕ) (ps : List Packet) (p : Packet) (e : Ended) → CollectorAnswers c ps p (Err e) → packets.LiveAnswers c ps p (Err e)
ended c ps p e a = record {
  ended = (λ x. a.ended.0 tt, λ x. tt);
  ready = (λ x. absurd x, λ x. absurd (x.0 (a.ended.0 tt)));
  more = (λ x. absurd x, λ x. absurd (x (has_ended_later ps (ps ++ p ∷ []) (p ∷ [], refl) (a.ended.0 tt))));
}
