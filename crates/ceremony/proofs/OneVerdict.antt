-- The verdict on packets is one: what the packets give is one thing, and what a message is refused for.
use Rattle.std.proofs.Common.{◌≡◌, ◌≢◌, ◌+◌, ◌<◌, ◌≤◌, ◌^◌, ◌⊎◌, ℕ, List, [], ◌∷◌, length, take, inl, inr, refl, sym, ◌∙◌, ap, subst, arith}
use Rattle.hidframe.specs.declared.Packet.{Packet}
use Rattle.hidlink.specs.declared.collection.DeadKind.{DeadKind}
use Rattle.hidlink.specs.Wire.{Carries, Dies, HasEnded}
use Rattle.hidlink.proofs.Beginnings.{taken}
use Rattle.hidlink.proofs.Laws.{one_carried, one_death, not_both, packets_taken}
use Rattle.hidlink.proofs.SoFar.{ArePackets}
use Rattle.refusal_order.proofs.Laws.{none_first, one_first}
use Rattle.ccbor.specs.Item.{Item}
use Rattle.ccbor.specs.Canon.{Canon}
use Rattle.ctap_replies.specs.Replies.{HasOtherShape, ReplyRefused}
use Rattle.ctap_replies.specs.declared.reply.Kind.{Kind}
use Rattle.ctap_replies.specs.declared.reply.Kind.TheVariants as kinds
use Rattle.ctap_replies.proofs.Laws.{creation_never_both, never_both, one_assertion_reply, one_creation_reply}
use Rattle.ctap_encoding.specs.declared.error.Error.{Error as ReplyError}
use Rattle.ctap_encoding.specs.declared.error.Error.TheVariants as replies
use Rattle.cose.specs.Schemes.{Validity}
use Rattle.verification.specs.SignIn as authentication
use Rattle.verification.specs.Registration as registration_steps
use Rattle.site.specs.State.{SiteState}
use Rattle.ceremony.specs.SignIn as sign_in
use Rattle.ceremony.specs.Registration as registration
use Rattle.ceremony.specs.Verdict.{Ceremony, RefusedMessage, Refused, Succeeds}
use Rattle.ceremony.specs.declared.error.Error.{Error}
use Rattle.ceremony.specs.declared.error.Error.TheVariants as errors

-- ---- packets

-- what packets give: a message of a command after so many, a death, or nothing yet
data Given : Type 0 where
  message : (n cmd : ℕ) (m : List ℕ) → Given
  death : (index : ℕ) (kind : DeadKind) → Given
  nothing : Given

Gives : ℕ → List Packet → Given → Type 0
Gives c ps (message n cmd m) = (n ≤ length ps) × Carries c (take n ps) cmd m
Gives c ps (death index kind) = (index < length ps) × Dies c (take (index + 1) ps) kind
Gives c ps nothing = HasEnded c ps → ⊥

-- a message excludes a death; each of them excludes that nothing has come
one_given : (c : ℕ) (ps : List Packet) → c < 2 ^ 32 → ArePackets ps → (x y : Given) → Gives c ps x → Gives c ps y → x ≡ y
unfolding Gives
one_given c ps low all (message n cmd m) (message k other l) a b = let o = one_carried c n k ps cmd other m l a.0 b.0 a.1 b.1 in cc (o.0, o.1, o.2)
one_given c ps low all (message n cmd m) (death index kind) a b = absurd (not_both c n (index + 1) ps cmd m kind a.1 b.1)
one_given c ps low all (message n cmd m) nothing a b = absurd (b (inl (take n ps, cmd, m, taken n ps, a.1)))
one_given c ps low all (death index kind) (message k cmd l) a b = absurd (not_both c k (index + 1) ps cmd l kind b.1 a.1)
one_given c ps low all (death index kind) (death i k) a b =
    let here : index < length ps = a.0 in let there : i < length ps = b.0 in
    let o = one_death c (index + 1) (i + 1) ps kind k low (packets_taken (index + 1) ps all) (omega arith) (omega arith) a.1 b.1 in
    let same : index + 1 ≡ i + 1 = o.0 in let e : index ≡ i = omega arith in
    ap (λ n. death n kind) e ∙ ap (death i) o.1
one_given c ps low all (death index kind) nothing a b = absurd (b (inr (take (index + 1) ps, taken (index + 1) ps, a.1.dead)))
one_given c ps low all nothing (message k cmd l) a b = absurd (a (inl (take k ps, cmd, l, taken k ps, b.1)))
one_given c ps low all nothing (death i k) a b = absurd (a (inr (take (i + 1) ps, taken (i + 1) ps, b.1.dead)))
one_given c ps low all nothing nothing a b = refl

-- ---- a message that is no reply

-- a value of another shape is one
shape_value : (kind : Kind) (rest : List ℕ) → kind ≢ kinds.Reset → HasOtherShape kind rest → (v : Item) × Canon v rest
shape_value kinds.MakeCredential rest some h = (h.0, h.1)
shape_value kinds.GetAssertion rest some h = (h.0, h.1)
shape_value kinds.GetNextAssertion rest some h = (h.0, h.1)
shape_value kinds.GetInfo rest some h = (h.0, h.1)
shape_value kinds.Reset rest some h = absurd (some refl)

value_and_none : (kind : Kind) (a b : List ℕ) → kind ≢ kinds.Reset → a ≡ b → ((v : Item) → Canon v a → ⊥) → HasOtherShape kind b → ⊥
value_and_none kind a b some e none h = let v = shape_value kind b some h in none v.0 (subst (λ (l : List ℕ). Canon v.0 l) (sym e) v.1)

one_unread : (kind : Kind) (m : List ℕ) (e f : ReplyError) → kind ≢ kinds.Reset → e ≢ replies.Memory → f ≢ replies.Memory → ReplyRefused kind m e
    → ReplyRefused kind m f → e ≡ f
one_unread kind m replies.Empty replies.Empty some se sf a b = refl
one_unread kind m (replies.Refused s) (replies.Refused t) some se sf a b = ap (λ x. replies.Refused x) (let g = a.1 in let h = b.1 in cc)
one_unread kind m replies.NotCanonical replies.NotCanonical some se sf a b = refl
one_unread kind m replies.NotCanonical replies.Shape some se sf a b = absurd (value_and_none kind a.0 b.0 some (let g = a.1 in let h = b.1 in cc) a.2.1 b.2)
one_unread kind m replies.Shape replies.NotCanonical some se sf a b = absurd (value_and_none kind b.0 a.0 some (let g = a.1 in let h = b.1 in cc) b.2.1 a.2)
one_unread kind m replies.Shape replies.Shape some se sf a b = refl
one_unread kind m _ _ some se sf a b = absurd (grind arith)

-- ---- ceremonies whose replies and steps are one

pub record IsOne {R W : Type 0} (k : Ceremony R W) : Type 0 where
  pub command : k.command ≢ kinds.Reset
  pub one_reply : (r q : R) (m : List ℕ) → k.IsReply r m → k.IsReply q m → r ≡ q
  pub read : (r : R) (m : List ℕ) (e : ReplyError) → k.IsReply r m → ReplyRefused k.command m e → e ≢ replies.Memory → ⊥
  pub one_step : (r : R) (w v : W) → k.FailsSite r w → k.FailsSite r v → w ≡ v
  pub passed : (r : R) (w : W) → k.PassesSite r → k.FailsSite r w → ⊥

pub sign_in_one : (valid : Validity) (s : SiteState) (session : ℕ) (t : List ℕ) → IsOne (sign_in.sign_in valid s session t)
sign_in_one valid s session t = record {
  command = λ e. cc;
  one_reply = one_assertion_reply;
  read = λ r m e spelled refused some. never_both m e refused some r spelled;
  one_step = λ r w v a b. one_first (λ x passed fails. fails passed) authentication.steps w v a b;
  passed = λ r w all fails. none_first (λ x passed failed. failed passed) authentication.steps w all fails;
}

pub registration_one : (valid : Validity) (s : SiteState) (session : ℕ) (t : List ℕ) → IsOne (registration.registration valid s session t)
registration_one valid s session t = record {
  command = λ e. cc;
  one_reply = one_creation_reply;
  read = λ r m e spelled refused some. creation_never_both m e refused some r spelled;
  one_step = λ r w v a b. one_first (λ x passed fails. fails passed) registration_steps.steps w v a b;
  passed = λ r w all fails. none_first (λ x passed failed. failed passed) registration_steps.steps w all fails;
}

-- ---- the verdict

module _ {R W : Type 0} (k : Ceremony R W) (one : IsOne k) where
  one_message : (m : List ℕ) (e f : Error W) → e ≢ errors.Memory → f ≢ errors.Memory → RefusedMessage k m e → RefusedMessage k m f → e ≡ f
  one_message m (errors.Reply x) (errors.Reply y) se sf a b = ap (λ z. errors.Reply z) (one_unread k.command m x y one.command a.1 b.1 a.0 b.0)
  one_message m (errors.Reply x) (errors.Refused w) se sf a b = absurd (one.read b.0 m x b.1 a.0 a.1)
  one_message m (errors.Refused w) (errors.Reply y) se sf a b = absurd (one.read a.0 m y a.1 b.0 b.1)
  one_message m (errors.Refused w) (errors.Refused v) se sf a b =
      ap (λ z. errors.Refused z) (one.one_step b.0 w v (subst (λ (r : R). k.FailsSite r w) (one.one_reply a.0 b.0 m a.1 b.1) a.2) b.2)
  one_message m _ _ se sf a b = absurd (grind arith)

  Says : Given → Error W → Type 0
  Says (message n cmd m) e = ((cmd ≡ 16) × RefusedMessage k m e) ⊎ ((code : ℕ) × (cmd ≡ 63) × (m ≡ code ∷ []) × (e ≡ errors.DeviceError code))
  Says (death index kind) e = e ≡ errors.Dead index kind
  Says nothing e = e ≡ errors.Incomplete

  given_of : (c : ℕ) (ps : List Packet) (e : Error W) → e ≢ errors.Memory → Refused k c ps e → (x : Given) × Gives c ps x × Says x e
  unfolding Gives Says
  given_of c ps errors.Incomplete some h = (nothing, h, refl)
  given_of c ps (errors.Dead index kind) some h = (death index kind, h, refl)
  given_of c ps (errors.DeviceError code) some h = (message h.0 63 (code ∷ []), (h.1, h.2), inr (code, refl, refl, refl))
  given_of c ps (errors.Reply e) some h = (message h.0 16 h.1, h.2, inl (refl, h.3))
  given_of c ps (errors.Refused w) some h = (message h.0 16 h.1, h.2, inl (refl, h.3))
  given_of c ps errors.Memory some h = absurd (some refl)

  one_said : (x : Given) (e f : Error W) → e ≢ errors.Memory → f ≢ errors.Memory → Says x e → Says x f → e ≡ f
  unfolding Says
  one_said (message n cmd m) e f se sf (inl a) (inl b) = one_message m e f se sf a.1 b.1
  one_said (message n cmd m) e f se sf (inr a) (inr b) = let code : a.0 ≡ b.0 = cc in a.3 ∙ ap (λ i. errors.DeviceError i) code ∙ sym b.3
  one_said (message n cmd m) e f se sf (inl a) (inr b) = absurd (omega arith)
  one_said (message n cmd m) e f se sf (inr a) (inl b) = absurd (omega arith)
  one_said (death index kind) e f se sf a b = a ∙ sym b
  one_said nothing e f se sf a b = a ∙ sym b

  pub one_refusal : (c : ℕ) (ps : List Packet) → c < 2 ^ 32 → ArePackets ps → (e f : Error W) → e ≢ errors.Memory → f ≢ errors.Memory → Refused k c ps e
      → Refused k c ps f → e ≡ f
  one_refusal c ps low all e f se sf a b =
      let x = given_of c ps e se a in
      let y = given_of c ps f sf b in
      let same : x.0 ≡ y.0 = one_given c ps low all x.0 y.0 x.1 y.1 in
      one_said y.0 e f se sf (subst (λ (g : Given). Says g e) same x.2) y.2

  pub one_acceptance : (c : ℕ) (ps : List Packet) (n j : ℕ) (r q : R) → Succeeds k c ps n r → Succeeds k c ps j q → (n ≡ j) × (r ≡ q)
  one_acceptance c ps n j r q a b =
      let o = one_carried c n j ps 16 16 a.0 b.0 a.1.0 b.1.0 a.1.1 b.1.1 in
      (o.0, one.one_reply r q b.0 (subst (λ (m : List ℕ). k.IsReply r m) o.2 a.2) b.2)

  -- a message that succeeds is refused only if memory runs out
  good_message : (m : List ℕ) (r : R) (e : Error W) → e ≢ errors.Memory → k.IsReply r m → k.PassesSite r → RefusedMessage k m e → ⊥
  good_message m r errors.Memory some spelled passes h = some refl
  good_message m r (errors.Reply x) some spelled passes h = one.read r m x spelled h.0 h.1
  good_message m r (errors.Refused w) some spelled passes h = one.passed r w passes (subst (λ (q : R). k.FailsSite q w) (one.one_reply h.0 r m h.1 spelled) h.2)
  good_message m r _ some spelled passes h = h

  pub not_both_verdicts : (c : ℕ) (ps : List Packet) → c < 2 ^ 32 → ArePackets ps → (n : ℕ) (r : R) (e : Error W) → e ≢ errors.Memory → Succeeds k c ps n r
      → Refused k c ps e → ⊥
  unfolding Gives Says
  not_both_verdicts c ps low all n r e some a b =
      let x = given_of c ps e some b in
      let same : x.0 ≡ message n 16 a.0 = one_given c ps low all x.0 (message n 16 a.0) x.1 a.1 in
      elim (subst (λ (g : Given). Says g e) same x.2) [ inl h ↦ good_message a.0 r e some a.2 a.3 h.1 | inr h ↦ absurd (omega (arith, h.1)) ]
