-- An idle authenticator's end takes a request's packets and a decision on it, and replies.
use Rattle.std.proofs.Common.{◌≡◌, ◌≢◌, ℕ, inr, List, [], ◌∷◌, ◌++◌, map, Some, None, refl, sym, ◌∙◌, ap, subst, append_assoc, append-nil}
use Rattle.std.proofs.lemmas.List.{map-append}
use Rattle.hidframe.specs.declared.Packet.{Packet}
use Rattle.hidframe.specs.Packets.{fields}
use Rattle.hidframe.specs.Frames.{ZeroFrames}
use Rattle.hidframe.specs.Pieces.{frame_list}
use Rattle.hidlink.specs.History.{Answered, DeviceCall, Leaves, Took}
use Rattle.hidlink.specs.Ranks.{Idle, Response, Working, packets_of, response}
use Rattle.hidlink.specs.Ranks as device
use Rattle.hidlink.specs.Told.{IsOut, told_before}
use Rattle.hidlink.specs.declared.transaction.DeviceEvent.TheVariants as step
use Rattle.cose.specs.Schemes.{Validity}
use Rattle.authenticator.specs.State.{AuthenticatorState}
use Rattle.authenticator.specs.Steps.{Keys, Steps}
use Rattle.authenticator.specs.declared.consent.Consent.{Consent}
use Rattle.authenticator.specs.declared.consent.Words.{Words}
use Rattle.security_key.specs.declared.serving.Act.{Act}
use Rattle.security_key.specs.declared.serving.Act.TheVariants as act
use Rattle.security_key.specs.Serving.{IsPayload}
use Rattle.agreement.specs.Ends.{AuthenticatorEnd, Exchange, Follows}
use Rattle.agreement.specs.Links.{Links}
use Rattle.agreement.proofs.Exchanges.{not_cancelled, silent}

module _ (links : Links) (valid : Validity) (public : Keys) (h : List DeviceCall) (n c : ℕ) (m : List ℕ) (a : AuthenticatorState)
    (idle : Leaves h n Idle) (out : IsOut n c) (some : m ≢ []) where
  -- the end once these packets have come
  abbrev came : List Packet → device.TransactionState → AuthenticatorEnd
  came ps s = record { history = h ++ map Took ps; channels = n; device = s; authenticator = a }

  -- what its device is doing then, before these others of the request
  record Here (before after : List Packet) : Type 0 where
    pub state : device.TransactionState
    pub reading : Leaves (h ++ map Took before) n state

  abbrev here : (before after : List Packet) → ZeroFrames c 16 m (before ++ after) → Here before after
  here before [] z = record {
    state = Working c m;
    reading = links.comes h n c m before idle out some (subst (λ (ps : List Packet). ZeroFrames c 16 m ps) (append-nil before) z);
  }
  here before (p ∷ after) z =
      let q = links.quiet h n c m before p after idle out some z in record { state = q.0; reading = q.1 }

  told : (before : List Packet) (p : Packet) (after : List Packet) (z : ZeroFrames c 16 m (before ++ p ∷ after))
      → response n (here before (p ∷ after) z).state (fields p) ≡ told_before c after
  told before p after z = (links.quiet h n c m before p after idle out some z).2

  follows : (before : List Packet) (p : Packet) (s t : device.TransactionState) (after : List Packet) → response n s (fields p) ≡ told_before c after
      → Leaves (h ++ map Took (before ++ p ∷ [])) n t
      → Follows valid public (came before s) (act.Packet p) [] (came (before ++ p ∷ []) t)
  follows before p s t after is reading =
      let apart : (response n s (fields p)).step ≢ step.Cancelled = λ e. not_cancelled c after (sym (ap (λ (q : Response). q.step) is) ∙ e) in
      let none : (response n s (fields p)).sent ≡ None = ap (λ (q : Response). q.sent) is ∙ silent c after in
      record {
        done = record { calls = Took p ∷ []; sent = (response n s (fields p)).sent; authenticator = a };
        serves = inr (apart, refl);
        authenticator = refl;
        history = ap (λ k. h ++ k) (map-append Took before (p ∷ [])) ∙ sym (append_assoc h (map Took before) (Took p ∷ []));
        reading = reading;
        packets = sym (ap packets_of none);
      }

  fed : (before after : List Packet) (z : ZeroFrames c 16 m (before ++ after)) (rest : List Act) (sent : List Packet) (f : AuthenticatorEnd)
      → Exchange valid public (came (before ++ after) (Working c m)) rest sent f
      → Exchange valid public (came before (here before after z).state) (map act.Packet after ++ rest) sent f
  fed before [] z rest sent f x =
      subst (λ (ps : List Packet). Exchange valid public (came ps (Working c m)) rest sent f) (append-nil before) x
  fed before (p ∷ after) z rest sent f x =
      let split : (before ++ p ∷ []) ++ after ≡ before ++ p ∷ after = append_assoc before (p ∷ []) after in
      let w : ZeroFrames c 16 m ((before ++ p ∷ []) ++ after) = subst (λ (ps : List Packet). ZeroFrames c 16 m ps) (sym split) z in
      let next = here (before ++ p ∷ []) after w in (
        came (before ++ p ∷ []) next.state,
        [],
        sent,
        follows before p (here before (p ∷ after) z).state next.state after (told before p after z) next.reading,
        fed (before ++ p ∷ []) after w rest sent f
            (subst (λ (ps : List Packet). Exchange valid public (came ps (Working c m)) rest sent f) (sym split) x),
        refl,
      )

  -- the end after the reply
  abbrev pub after_reply : List Packet → List ℕ → AuthenticatorState → AuthenticatorEnd
  after_reply ps reply new = record { history = (h ++ map Took ps) ++ Answered reply ∷ []; channels = n; device = Idle; authenticator = new }

  decided : (ps : List Packet) (reply : List ℕ) (new : AuthenticatorState) (consent : Consent) (words : Words) → ZeroFrames c 16 m ps
      → IsPayload reply → Steps valid public a c m consent words reply new
      → Follows valid public (came ps (Working c m)) (act.Decide consent words) (frame_list c 16 reply) (after_reply ps reply new)
  decided ps reply new consent words z payload steps = record {
    done = record { calls = Answered reply ∷ []; sent = Some (record { cid = c; cmd = 16; payload = reply }); authenticator = new };
    serves = (c, m, reply, refl, payload, steps, refl, refl);
    authenticator = refl;
    history = refl;
    reading = links.answered (h ++ map Took ps) n c m reply (links.comes h n c m ps idle out some z) payload.0;
    packets = refl;
  }

  -- nothing has come yet
  start_is : (ps : List Packet) (z : ZeroFrames c 16 m ps) → Leaves h n (here [] ps z).state
  start_is ps z = subst (λ (k : List DeviceCall). Leaves k n (here [] ps z).state) (append-nil h) (here [] ps z).reading

  pub exchanged : (ps : List Packet) (reply : List ℕ) (new : AuthenticatorState) (consent : Consent) (words : Words) → ZeroFrames c 16 m ps
      → IsPayload reply → Steps valid public a c m consent words reply new
      → Exchange valid public (record { history = h; channels = n; device = Idle; authenticator = a }) (map act.Packet ps ++ act.Decide consent words ∷ [])
      (frame_list c 16 reply) (after_reply ps reply new)
  exchanged ps reply new consent words z payload steps =
      let same = links.one_state h n n (here [] ps z).state Idle (start_is ps z) idle in
      let begins : came [] (here [] ps z).state ≡ record { history = h; channels = n; device = Idle; authenticator = a } =
      ap (λ k. record { history = k; channels = n; device = (here [] ps z).state; authenticator = a }) (append-nil h)
      ∙ ap (λ s. record { history = h; channels = n; device = s; authenticator = a }) same.1 in
      subst (λ (e : AuthenticatorEnd). Exchange valid public e (map act.Packet ps ++ act.Decide consent words ∷ []) (frame_list c 16 reply)
      (after_reply ps reply new)) begins
      (fed [] ps z (act.Decide consent words ∷ []) (frame_list c 16 reply) (after_reply ps reply new) (
        after_reply ps reply new,
        frame_list c 16 reply,
        [],
        decided ps reply new consent words z payload steps,
        (refl, refl),
        sym (append-nil (frame_list c 16 reply)),
      ))
