-- What comes of a client's packets, of waiting and of a decision, at an authenticator's end that is idle.
use Rattle.std.proofs.Common.{◌≡◌, ◌≢◌, ℕ, zero, suc, ◌<◌, ◌≤◌, ◌^◌, inl, inr, List, [], ◌∷◌, ◌++◌, map, replicate, Some, None, refl, sym, ◌∙◌, ap}
use Rattle.std.proofs.Common.{subst, arith, append_assoc, append-nil}
use Rattle.std.proofs.lemmas.List.{map-append}
use Rattle.refusal_order.proofs.Laws.{each_joined}
use Rattle.hidframe.specs.declared.Packet.{Packet}
use Rattle.hidframe.specs.Packets.{fields}
use Rattle.hidframe.specs.Frames.{ZeroFrames}
use Rattle.hidframe.specs.Pieces.{frame_list}
use Rattle.hidlink.specs.History.{Answered, DeviceCall, Kept, Leaves, Took}
use Rattle.hidlink.specs.Ranks.{Idle, Working, Response, on_working, packets_of, response}
use Rattle.hidlink.specs.Ranks as device
use Rattle.hidlink.specs.Told.{IsOut, told_before, work}
use Rattle.hidlink.specs.declared.transaction.DeviceEvent.TheVariants as step
use Rattle.cose.specs.Schemes.{Validity}
use Rattle.cose.specs.declared.key.CoseKey.{CoseKey}
use Rattle.authenticator.specs.State.{AuthenticatorState}
use Rattle.authenticator.specs.Steps.{Entry, Keys, Step, Steps}
use Rattle.authenticator.specs.declared.consent.Consent.{Consent}
use Rattle.authenticator.specs.declared.consent.Words.{Words}
use Rattle.security_key.specs.declared.serving.Act.{Act}
use Rattle.security_key.specs.declared.serving.Act.TheVariants as act
use Rattle.security_key.specs.Serving.{Done, IsPayload}
use Rattle.agreement.specs.Ends.{AuthenticatorEnd, Exchange, Follows, IsIdleOn}
use Rattle.agreement.specs.Links.{Links}
use Rattle.agreement.proofs.Keepalives.{AreWaits, one_keepalive}

-- ---- packets

pub not_cancelled : (c : ℕ) (after : List Packet) → (told_before c after).step ≢ step.Cancelled
not_cancelled c [] e = cc
not_cancelled c (p ∷ after) e = cc

pub silent : (c : ℕ) (after : List Packet) → (told_before c after).sent ≡ None
silent c [] = refl
silent c (p ∷ after) = refl

-- a packet that is taken quietly
record Quiet (e f : AuthenticatorEnd) (p : Packet) (sent : List Packet) : Type 0 where
  pub authenticator : f.authenticator ≡ e.authenticator
  pub history : f.history ≡ e.history ++ Took p ∷ []
  pub nothing : sent ≡ []

taken : (valid : Validity) (public : Keys) (e f : AuthenticatorEnd) (p : Packet) (sent : List Packet) (r : Response)
    → response e.channels e.device (fields p) ≡ r → r.step ≢ step.Cancelled → r.sent ≡ None
    → Follows valid public e (act.Packet p) sent f → Quiet e f p sent
taken valid public e f p sent r is apart none x = elim x.serves [
  | inl k ↦ absurd (apart (sym (ap (λ (q : Response). q.step) is) ∙ k.0))
  | inr k ↦ record {
    authenticator = x.authenticator ∙ ap (λ (d : Done). d.authenticator) k.1;
    history = x.history ∙ ap (λ (d : Done). e.history ++ d.calls) k.1;
    nothing = x.packets ∙ ap (λ (d : Done). packets_of d.sent) k.1 ∙ ap (λ (q : Response). packets_of q.sent) is ∙ ap packets_of none;
  }
]

-- the end at which the packets are there, and the rest of the exchange
record Fed (valid : Validity) (public : Keys) (h : List DeviceCall) (ps : List Packet) (e : AuthenticatorEnd) (rest : List Act) (sent : List Packet)
    (f : AuthenticatorEnd) : Type 0 where
  pub there : AuthenticatorEnd
  pub history : there.history ≡ h ++ map Took ps
  pub reading : Leaves there.history there.channels there.device
  pub authenticator : there.authenticator ≡ e.authenticator
  pub onward : Exchange valid public there rest sent f

fed : Links → (valid : Validity) (public : Keys) (h : List DeviceCall) (n c : ℕ) (m : List ℕ) (before after : List Packet) (e f : AuthenticatorEnd)
    (rest : List Act) (sent : List Packet)
    → Leaves h n Idle → IsOut n c → m ≢ [] → ZeroFrames c 16 m (before ++ after) → e.history ≡ h ++ map Took before → Leaves e.history e.channels e.device
    → Exchange valid public e (map act.Packet after ++ rest) sent f → Fed valid public h (before ++ after) e rest sent f
fed links valid public h n c m before [] e f rest sent idle out some frames is reading x = record {
  there = e;
  history = is ∙ ap (λ ps. h ++ map Took ps) (sym (append-nil before));
  reading = reading;
  authenticator = refl;
  onward = x;
}
fed links valid public h n c m before (p ∷ after) e f rest sent idle out some frames is reading x =
    let g = x.0 in
    let q = links.quiet h n c m before p after idle out some frames in
    let same = links.one_state e.history e.channels n e.device q.0 reading (subst (λ (k : List DeviceCall). Leaves k n q.0) (sym is) q.1) in
    let told : response e.channels e.device (fields p) ≡ told_before c after =
    ap (λ k. response k e.device (fields p)) same.0 ∙ ap (λ s. response n s (fields p)) same.1 ∙ q.2 in
    let t = taken valid public e g p x.1 (told_before c after) told (not_cancelled c after) (silent c after) x.3 in
    let there : g.history ≡ h ++ map Took (before ++ p ∷ []) =
    t.history ∙ ap (λ k. k ++ Took p ∷ []) is ∙ append_assoc h (map Took before) (Took p ∷ []) ∙ ap (λ k. h ++ k) (sym (map-append Took before (p ∷ []))) in
    let split : (before ++ p ∷ []) ++ after ≡ before ++ p ∷ after = append_assoc before (p ∷ []) after in
    let behind = fed links valid public h n c m (before ++ p ∷ []) after g f rest x.2 idle out some
    (subst (λ (ps : List Packet). ZeroFrames c 16 m ps) (sym split) frames) there x.3.reading x.4 in
    record {
      there = behind.there;
      history = behind.history ∙ ap (λ ps. h ++ map Took ps) split;
      reading = behind.reading;
      authenticator = behind.authenticator ∙ t.authenticator;
      onward = subst (λ (ps : List Packet). Exchange valid public behind.there rest ps f) (sym (x.5 ∙ ap (λ ps. ps ++ x.2) t.nothing)) behind.onward;
    }

-- ---- waiting

record Waited (valid : Validity) (public : Keys) (c : ℕ) (m : List ℕ) (e : AuthenticatorEnd) (rest : List Act) (sent : List Packet)
    (f : AuthenticatorEnd) : Type 0 where
  pub there : AuthenticatorEnd
  pub waits : List Packet
  pub later : List Packet
  pub are_waits : AreWaits c waits
  pub all : sent ≡ waits ++ later
  pub works : there.device ≡ Working c m
  pub reading : Leaves there.history there.channels there.device
  pub channels : there.channels ≡ e.channels
  pub authenticator : there.authenticator ≡ e.authenticator
  pub onward : Exchange valid public there rest later f

waited : Links → (valid : Validity) (public : Keys) (k c : ℕ) (m : List ℕ) (e f : AuthenticatorEnd) (rest : List Act) (sent : List Packet) → c < 2 ^ 32
    → e.device ≡ Working c m
    → Leaves e.history e.channels e.device → Exchange valid public e (replicate k act.Wait ++ rest) sent f → Waited valid public c m e rest sent f
waited links valid public zero c m e f rest sent low works reading x = record {
  there = e;
  waits = [];
  later = sent;
  are_waits = tt;
  all = refl;
  works = works;
  reading = reading;
  channels = refl;
  authenticator = refl;
  onward = x;
}
waited links valid public (suc k) c m e f rest sent low works reading x =
    let g = x.0 in
    let done_is = x.3.serves.1 in
    let history : g.history ≡ e.history ++ Kept 2 ∷ [] = x.3.history ∙ ap (λ (d : Done). e.history ++ d.calls) done_is in
    let on : Leaves g.history e.channels (Working c m) =
    subst (λ (h : List DeviceCall). Leaves h e.channels (Working c m)) (sym history)
    (links.kept e.history e.channels c 2 m (subst (λ (s : device.TransactionState). Leaves e.history e.channels s) works reading)) in
    let same = links.one_state g.history g.channels e.channels g.device (Working c m) x.3.reading on in
    let now : x.1 ≡ frame_list c 59 (2 ∷ []) =
    x.3.packets ∙ ap (λ (d : Done). packets_of d.sent) done_is ∙ ap (λ s. packets_of (on_working s 59 (2 ∷ []))) works in
    let behind = waited links valid public k c m g f rest x.2 low same.1 x.3.reading x.4 in
    record {
      there = behind.there;
      waits = x.1 ++ behind.waits;
      later = behind.later;
      are_waits = each_joined _ x.1 behind.waits (subst (AreWaits c) (sym now) (one_keepalive links c low)) behind.are_waits;
      all = x.5 ∙ ap (λ ps. x.1 ++ ps) behind.all ∙ sym (append_assoc x.1 behind.waits behind.later);
      works = behind.works;
      reading = behind.reading;
      channels = behind.channels ∙ same.0;
      authenticator = behind.authenticator ∙ x.3.authenticator ∙ ap (λ (d : Done). d.authenticator) done_is;
      onward = behind.onward;
    }

-- ---- a decision

-- the authenticator's reply to the message, and what is sent with it
pub record Replied (valid : Validity) (public : Keys) (c : ℕ) (m : List ℕ) (consent : Consent) (words : Words) (e : AuthenticatorEnd) (sent : List Packet)
    (f : AuthenticatorEnd) : Type 0 where
  pub low : c < 2 ^ 32
  pub reply : List ℕ
  pub payload : IsPayload reply
  pub steps : Steps valid public e.authenticator c m consent words reply f.authenticator
  pub waits : List Packet
  pub are_waits : AreWaits c waits
  pub all : sent ≡ waits ++ frame_list c 16 reply
  pub idle : IsIdleOn c f

one_work : (c d : ℕ) (m l : List ℕ) → work (Working c m) ≡ Some (d, l) → (d ≡ c) × (l ≡ m)
one_work c d m l e = let same : ◌≡◌ {A = ℕ × List ℕ} (c, m) (d, l) = cc in (ap (λ p. p.0) (sym same), ap (λ p. p.1) (sym same))

pub replied : Links → (valid : Validity) (public : Keys) (c : ℕ) (m : List ℕ) (ps : List Packet) (waits : ℕ) (consent : Consent) (words : Words)
    (e f : AuthenticatorEnd) (sent : List Packet)
    → IsIdleOn c e → m ≢ [] → ZeroFrames c 16 m ps
    → Exchange valid public e (map act.Packet ps ++ (replicate waits act.Wait ++ act.Decide consent words ∷ [])) sent f
    → Replied valid public c m consent words e sent f
replied links valid public c m ps waits consent words e f sent idle some frames x =
    let reading : Leaves e.history e.channels Idle = subst (λ (s : device.TransactionState). Leaves e.history e.channels s) idle.idle idle.reading in
    let few : e.channels ≤ 65535 = links.most e.history e.channels Idle reading in
    let within : c ≤ e.channels = idle.out.1 in
    let low : c < 2 ^ 32 = omega (arith, few, within) in
    let a = fed links valid public e.history e.channels c m [] ps e f
    (replicate waits act.Wait ++ act.Decide consent words ∷ []) sent reading idle.out some frames
    (sym (append-nil e.history)) idle.reading x in
    let on : Leaves a.there.history e.channels (Working c m) =
    subst (λ (h : List DeviceCall). Leaves h e.channels (Working c m)) (sym a.history) (links.comes e.history e.channels c m ps reading idle.out some frames) in
    let works = links.one_state a.there.history a.there.channels e.channels a.there.device (Working c m) a.reading on in
    let b = waited links valid public waits c m a.there f (act.Decide consent words ∷ []) sent low works.1 a.reading a.onward in
    let k = b.onward in
    let s = k.3.serves in
    let one = one_work c s.0 m s.1 (sym (ap work b.works) ∙ s.3) in
    let reply = s.2 in
    let end : f ≡ k.0 = k.4.1 in
    let same_device : b.there.authenticator ≡ e.authenticator = b.authenticator ∙ a.authenticator in
    let steps : Steps valid public b.there.authenticator s.0 s.1 consent words reply k.3.done.authenticator = s.5 in
    let now : k.1 ≡ frame_list c 16 reply = k.3.packets ∙ ap packets_of s.7 ∙ ap (λ d. packets_of (on_working d 16 reply)) b.works in
    let history : k.0.history ≡ b.there.history ++ Answered reply ∷ [] = k.3.history ∙ ap (λ l. b.there.history ++ l) s.6 in
    let ends : Leaves k.0.history b.there.channels Idle =
    subst (λ (h : List DeviceCall). Leaves h b.there.channels Idle) (sym history)
    (links.answered b.there.history b.there.channels c m reply
    (subst (λ (d : device.TransactionState). Leaves b.there.history b.there.channels d) b.works b.reading) s.4.0) in
    let is_idle = links.one_state k.0.history k.0.channels b.there.channels k.0.device Idle k.3.reading ends in
    let channels : k.0.channels ≡ e.channels = is_idle.0 ∙ b.channels ∙ works.0 in
    record {
      low = low;
      reply = reply;
      payload = s.4;
      steps =
          subst (λ (st : AuthenticatorState). Steps valid public e.authenticator c m consent words reply st)
          (sym (ap (λ (g : AuthenticatorEnd). g.authenticator) end ∙ k.3.authenticator))
          (subst (λ (st : AuthenticatorState). Steps valid public st c m consent words reply k.3.done.authenticator) same_device
          (subst (λ (l : List ℕ). Steps valid public b.there.authenticator c l consent words reply k.3.done.authenticator) one.1
          (subst (λ (d : ℕ). Steps valid public b.there.authenticator d s.1 consent words reply k.3.done.authenticator) one.0 steps)));
      waits = b.waits;
      are_waits = b.are_waits;
      all = b.all ∙ ap (λ ps. b.waits ++ ps) (k.5 ∙ ap (λ ps. k.1 ++ ps) k.4.0 ∙ append-nil k.1 ∙ now);
      idle = subst (λ (g : AuthenticatorEnd). IsIdleOn c g) (sym end)
          (record { idle = is_idle.1; reading = k.3.reading; out = subst (λ (n : ℕ). IsOut n c) (sym channels) idle.out });
    }

-- ---- one step, with what is signed and made

abbrev pub IsStep : Validity → Keys → AuthenticatorState → ℕ → List ℕ → Consent → Words → List ℕ → AuthenticatorState → List Entry → List CoseKey → Type 0
IsStep valid public old channel bs consent words reply new signed made =
    Step valid public old channel bs consent words (record { reply = reply; state = new; signed = signed; made = made })

pub record Stepped (valid : Validity) (public : Keys) (old : AuthenticatorState) (channel : ℕ) (bs : List ℕ) (consent : Consent) (words : Words)
    (new : AuthenticatorState) (signed : List Entry) (made : List CoseKey) : Type 0 where
  pub reply : List ℕ
  pub step : IsStep valid public old channel bs consent words reply new signed made
