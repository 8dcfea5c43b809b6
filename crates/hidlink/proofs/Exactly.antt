-- What a feed answers is exactly what the packets carry.
use Rattle.std.proofs.Common.{◌≡◌, ℕ, inl, inr, List, [], ◌∷◌, ◌++◌, refl, sym, ◌∙◌, ap, subst}
use Rattle.std.specs.Prelude.{◌↔◌, Ok, Err}
use Rattle.hidframe.specs.declared.Packet.{Packet}
use Rattle.hidframe.specs.Packets.{fields, IsPacket}
use Rattle.hidlink.specs.declared.collection.DeadKind.{DeadKind}
use Rattle.hidlink.specs.declared.collection.Ended.{Ended}
use Rattle.hidlink.specs.declared.collection.Outcome.{Outcome}
use Rattle.hidlink.specs.declared.collection.Outcome.TheVariants.{More, Reply, DeviceError, Dead}
use Rattle.hidlink.specs.Wire.{Carries, Dies, HasEnded, IsBeginning, Shown, Replied, Failed, Died, Holds, Got}
use Rattle.hidlink.specs.Collected.{Collected}
use Rattle.hidlink.specs.Steps.{step, IsEnded}
use Rattle.hidlink.specs.Feeds.{TellsOutcome, CollectorAnswers, Gives, IsMore, IsReply, IsDeviceError, IsDeath}
use Rattle.hidlink.proofs.Beginnings.{beginning_cases, begins_itself, has_ended_later}
use Rattle.hidlink.proofs.SoFar.{packets-append}
use Rattle.hidlink.proofs.Shows.{carries_now, dies_now, ended_holds, holds-step, holds_ended, one_shown}

-- one packet more
pub got-step : (c : ℕ) (ps : List Packet) (p : Packet) (s t : Shown) → IsPacket p → t ≡ step c s (fields p) → Got c ps s → Got c (ps ++ p ∷ []) t
got-step c ps p s t whole is g = record {
  channel = g.channel;
  packets = packets-append ps (p ∷ []) g.packets (whole, tt);
  holds = let P : Shown → Type 0 = Holds c (ps ++ p ∷ []) in
      subst P (sym is) (holds-step c ps p s g.channel (packets-append ps (p ∷ []) g.packets (whole, tt)) g.holds);
}

-- of a collector that took a packet
pub got_taken : (old new : Collected) (p : Packet) → IsPacket p → new ≡ record old { shown = step old.cid old.shown (fields p) }
    → (new.cid ≡ old.cid) × ((ps : List Packet) → Got old.cid ps old.shown → Got old.cid (ps ++ p ∷ []) new.shown)
got_taken old new p whole e = (ap (λ k. k.cid) e, λ ps g. got-step old.cid ps p old.shown new.shown whole (ap (λ k. k.shown) e) g)

-- ---- what is so with the packet before which the list had not ended

here : (c : ℕ) (ps : List Packet) (p : Packet) (X : List Packet → Type 0) → ((qs : List Packet) → IsBeginning qs ps → X qs → HasEnded c ps)
    → (HasEnded c ps → ⊥)
    → (qs : List Packet) × IsBeginning qs (ps ++ p ∷ []) × X qs → X (ps ++ p ∷ [])
here c ps p X ends before h = elim (beginning_cases h.0 ps p h.1) [ inl b ↦ absurd (before (ends h.0 b h.2)) | inr e ↦ subst X e h.2 ]

pub record Now (c : ℕ) (ps : List Packet) (t : Shown) : Type 0 where
  pub reply : (m : List ℕ) → Carries c ps 16 m ↔ (t ≡ Replied m)
  pub device_error : (code : ℕ) → Carries c ps 63 (code ∷ []) ↔ (t ≡ Failed code)
  pub dead : (kind : DeadKind) → Dies c ps kind ↔ (t ≡ Died kind)

pub now : (c : ℕ) (ps : List Packet) (p : Packet) (t : Shown) → (HasEnded c ps → ⊥) → Got c (ps ++ p ∷ []) t → Now c (ps ++ p ∷ []) t
now c ps p t before g =
    let P : Shown → Type 0 = Holds c (ps ++ p ∷ []) in
    let one = λ (s : Shown) (h : Holds c (ps ++ p ∷ []) s). one_shown c (ps ++ p ∷ []) t s g.channel g.packets g.holds h in
    let carried = λ (cmd : ℕ) (m : List ℕ). here c ps p (λ qs. Carries c qs cmd m) (λ qs b h. inl (qs, cmd, m, b, h)) before in
    record {
      reply = λ m. (λ h. one (Replied m) (ps ++ p ∷ [], begins_itself (ps ++ p ∷ []), h), λ e. carried 16 m (subst P e g.holds));
      device_error = λ code. (λ h. one (Failed code) (ps ++ p ∷ [], begins_itself (ps ++ p ∷ []), h), λ e. carried 63 (code ∷ []) (subst P e g.holds));
      dead = λ kind. (
        λ h. one (Died kind) (ps ++ p ∷ [], begins_itself (ps ++ p ∷ []), h),
        λ e. here c ps p (λ qs. Dies c qs kind) (λ qs b h. inr (qs, b, h.dead)) before (subst P e g.holds),
      );
    }

-- ---- the answers that a state allows

reply : (t : Shown) (outcome : Outcome) (m : List ℕ) → TellsOutcome t outcome → IsReply (Ok outcome) m ↔ (t ≡ Replied m)
reply t (Reply bytes) m h = (λ e. h ∙ ap Replied e, λ e. cc)
reply t More m h = (λ e. absurd e, λ e. h (rw e tt))
reply t _ m h = (λ e. absurd e, λ e. absurd (cc))

device_error : (t : Shown) (outcome : Outcome) (code : ℕ) → TellsOutcome t outcome → IsDeviceError (Ok outcome) code ↔ (t ≡ Failed code)
device_error t (DeviceError code') code h = (λ e. h ∙ ap Failed e, λ e. cc)
device_error t More code h = (λ e. absurd e, λ e. h (rw e tt))
device_error t _ code h = (λ e. absurd e, λ e. absurd (cc))

death : (t : Shown) (outcome : Outcome) (kind : DeadKind) → TellsOutcome t outcome → IsDeath (Ok outcome) kind ↔ (t ≡ Died kind)
death t (Dead kind') kind h = (λ e. h ∙ ap Died e, λ e. cc)
death t More kind h = (λ e. absurd e, λ e. h (rw e tt))
death t _ kind h = (λ e. absurd e, λ e. absurd (cc))

more : (t : Shown) (outcome : Outcome) → TellsOutcome t outcome → IsMore (Ok outcome) ↔ (IsEnded t → ⊥)
more t More h = (λ _. h, λ _. tt)
more t (Reply bytes) h = (λ e. absurd e, λ e. e (rw h tt))
more t (DeviceError code) h = (λ e. absurd e, λ e. e (rw h tt))
more t (Dead kind) h = (λ e. absurd e, λ e. e (rw h tt))

pub by_way : {A B C : Type 0} → A ↔ B → B ↔ C → A ↔ C
by_way e f = (λ a. f.0 (e.0 a), λ c. e.1 (f.1 c))

pub back : {A B : Type 0} → A ↔ B → B ↔ A
back e = (e.1, e.0)

-- what an outcome says of the packets that a collector got
pub outcome_gives : (c : ℕ) (ps : List Packet) (s : Shown) (outcome : Outcome) → TellsOutcome s outcome → Got c ps s → Gives c ps outcome
outcome_gives c ps s outcome told g =
    let P : Shown → Type 0 = Holds c ps in
    let shown : (t : Shown) → (s ≡ t) ↔ Holds c ps t = λ t. (λ e. subst P e g.holds, λ h. one_shown c ps s t g.channel g.packets g.holds h) in
    record {
      reply = λ m. by_way (reply s outcome m told) (shown (Replied m));
      device_error = λ code. by_way (device_error s outcome code told) (shown (Failed code));
      dead = λ kind. by_way (death s outcome kind told) (shown (Died kind));
      more = by_way (more s outcome told) (λ n e. n (holds_ended c ps s g.channel g.packets g.holds e), λ n e. n (ended_holds c ps s e g.holds));
    }

pub answers-ok : (c : ℕ) (ps : List Packet) (p : Packet) (s t : Shown) (outcome : Outcome) → IsPacket p → (IsEnded s → ⊥) → t ≡ step c s (fields p)
    → TellsOutcome t outcome → Got c ps s → CollectorAnswers c ps p (Ok outcome)
answers-ok c ps p s t outcome whole alive is told g =
    let before : HasEnded c ps → ⊥ = λ h. alive (holds_ended c ps s g.channel g.packets g.holds h) in
    let g' : Got c (ps ++ p ∷ []) t = got-step c ps p s t whole is g in
    let n = now c ps p t before g' in
    record {
      reply = λ m. by_way (reply t outcome m told) (back (n.reply m));
      device_error = λ code. by_way (device_error t outcome code told) (back (n.device_error code));
      dead = λ kind. by_way (death t outcome kind told) (back (n.dead kind));
      ended = (λ h. absurd h, before);
      more = (outcome_gives c (ps ++ p ∷ []) t outcome told g').more;
    }

pub answers-err : (c : ℕ) (ps : List Packet) (p : Packet) (s : Shown) (e : Ended) → IsEnded s → Got c ps s → CollectorAnswers c ps p (Err e)
answers-err c ps p s e ended g =
    let now : HasEnded c ps = ended_holds c ps s ended g.holds in
    record {
      reply = λ m. (λ h. absurd h, λ h. carries_now c ps p 16 m h now);
      device_error = λ code. (λ h. absurd h, λ h. carries_now c ps p 63 (code ∷ []) h now);
      dead = λ kind. (λ h. absurd h, λ h. dies_now c ps p kind h now);
      ended = (λ h. now, λ h. tt);
      more = (λ h. absurd h, λ h. h (has_ended_later ps (ps ++ p ∷ []) (p ∷ [], refl) now));
    }
