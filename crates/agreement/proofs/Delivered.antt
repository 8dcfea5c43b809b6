-- Keepalives and then a reply carry the reply.
use Rattle.std.proofs.Common.{◌≡◌, ℕ, ◌+◌, ◌<◌, ◌^◌, ◌==◌, inl, List, [], ◌∷◌, ◌++◌, length, map, refl, sym, ◌∙◌, ap, subst, arith, append_assoc}
use Rattle.std.specs.List.{AllByRecursion}
use Rattle.std.proofs.lemmas.Bool.{eq-eqb}
use Rattle.refusal_order.proofs.Laws.{each_joined}
use Rattle.hidframe.specs.declared.Packet.{Packet}
use Rattle.hidframe.specs.Packets.{Fields, fields}
use Rattle.hidframe.specs.Frames.{Frames, continuations}
use Rattle.hidframe.specs.Pieces.{frame_list}
use Rattle.hidlink.specs.Wire.{Carries, channel_of, on}
use Rattle.security_key.specs.Serving.{IsPayload}
use Rattle.ceremony.specs.Verdict.{Delivers}
use Rattle.agreement.specs.Links.{Links}
use Rattle.authenticator.proofs.Stored.{each_weaker}
use Rattle.agreement.proofs.Lists.{Last, all_mapped, all_pass, all_taken, last_of}
use Rattle.agreement.proofs.Keepalives.{AreWaits}

on_all : (c : ℕ) (ps : List Packet) → AllByRecursion (λ p. channel_of (fields p) ≡ c) ps → on c ps ≡ ps
on_all c ps h = all_pass (λ p. channel_of (fields p) == c) ps (each_weaker _ _ (λ p e. rw e (eq-eqb c c refl)) ps h)

continuations_on : (c k : ℕ) (areas : List (List ℕ)) → AllByRecursion (λ f. channel_of f ≡ c) (continuations c k areas)
continuations_on c k [] = tt
continuations_on c k (area ∷ areas) = (refl, continuations_on c (k + 1) areas)

frames_on : (c cmd : ℕ) (m : List ℕ) (ps : List Packet) → Frames c cmd m ps → AllByRecursion (λ p. channel_of (fields p) ≡ c) ps
frames_on c cmd m ps x =
    let fs : AllByRecursion (λ f. channel_of f ≡ c) (map fields ps) =
    subst (λ (l : List Fields). AllByRecursion (λ f. channel_of f ≡ c) l) (sym x.packets) (refl, continuations_on c 0 x.later) in
    all_mapped fields (λ f. channel_of f ≡ c) ps fs

last_frame : (c cmd : ℕ) (m : List ℕ) (ps : List Packet) → Frames c cmd m ps → Last (λ p. channel_of (fields p) ≡ c) ps
last_frame c cmd m [] x = let bad = x.packets in absurd cc
last_frame c cmd m (p ∷ ps) x = last_of _ p ps (frames_on c cmd m (p ∷ ps) x)

pub carries : Links → (c : ℕ) (reply : List ℕ) (waits sent : List Packet) → c < 2 ^ 32 → IsPayload reply → AreWaits c waits
    → sent ≡ waits ++ frame_list c 16 reply → Carries c sent 16 reply
carries links c reply waits sent low payload are all =
    let z = links.frames c 16 reply low (omega arith) payload.0 payload.1 in
    let x = z.frames.frames in
    let l = last_frame c 16 reply (frame_list c 16 reply) x in
    let all_on : AllByRecursion (λ p. channel_of (fields p) ≡ c) sent =
    subst (λ (ps : List Packet). AllByRecursion (λ p. channel_of (fields p) ≡ c) ps) (sym all)
    (each_joined _ waits (frame_list c 16 reply) (each_weaker _ _ (λ p h. h.1) waits are) (frames_on c 16 reply (frame_list c 16 reply) x)) in
    record {
      before = waits ++ l.before;
      last = l.last;
      ends = all ∙ ap (λ ps. waits ++ ps) l.ends ∙ sym (append_assoc waits l.before (l.last ∷ []));
      last_on = l.has;
      waits = waits;
      message = frame_list c 16 reply;
      split = on_all c sent all_on ∙ all;
      keepalives = each_weaker _ _ (λ p h. h.0) waits are;
      frames = x;
      kind = inl refl;
    }

pub delivers : Links → (c : ℕ) (reply : List ℕ) (waits sent : List Packet) → c < 2 ^ 32 → IsPayload reply → AreWaits c waits
    → sent ≡ waits ++ frame_list c 16 reply
    → Delivers c sent (length sent) reply
delivers links c reply waits sent low payload are all =
    (omega arith, subst (λ (ps : List Packet). Carries c ps 16 reply) (sym (all_taken sent)) (carries links c reply waits sent low payload are all))
