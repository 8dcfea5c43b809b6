-- Runs of a key, act after act.
use Rattle.std.proofs.Common.{◌≡◌, ℕ, List, [], ◌∷◌, ◌++◌, true, false, Option, Some, None, refl, sym, ap, subst, ◌∙◌, inl, inr, append_assoc, append-nil}
use Rattle.std.specs.List.{AllByRecursion}
use Rattle.hidlink.specs.Ranks.{Idle, Receiving, TransactionState, Working}
use Rattle.authenticator.specs.declared.consent.Consent.{Consent}
use Rattle.key_pin.specs.Calls.{Call, next, nexts}
use Rattle.key_pin.specs.Laws.{PinLaws}
use Rattle.key_pin.specs.State.{PinState}
use Rattle.key_device.specs.Computing.{claim_of}
use Rattle.key_device.specs.Deciding.{Handed, as_it_is, handed}
use Rattle.key_device.specs.Key.{Fits, KeyDeviceState, unread}
use Rattle.key_device.specs.declared.stage.GrantedRequest.{GrantedRequest}
use Rattle.key_device.specs.declared.stage.Stage.{Stage}
use Rattle.key_device.specs.declared.stage.Stage.TheVariants as stages
use Rattle.key_runs.specs.Runs.{Acts, AreCalls, IsKeyRun, KeyMoment, MayCall, key_after}
use Rattle.key_runs.specs.Vouched.{Holds, IsUngranted, IsVouched, KeyRuns, LoadedRuns}
use Rattle.key_runs.proofs.Steps.{GrantsNow, acts}

-- calls after calls
nexts-append : (a b : List Call) (s : PinState) → nexts (a ++ b) s ≡ nexts b (nexts a s)
nexts-append [] b s = refl
nexts-append (c ∷ a) b s = nexts-append a b (next c s)

calls-snoc : (past : List KeyMoment) (m : KeyMoment) (calls now : List Call) → AreCalls past calls → MayCall m.act m.old.stage now
    → AreCalls (past ++ m ∷ []) (calls ++ now)
calls-snoc [] m calls now are may = (now, [], ap (λ (l : List Call). l ++ now) are ∙ sym (append-nil now), may, refl)
calls-snoc (x ∷ past) m calls now are may =
    (are.0, are.1 ++ now, ap (λ (l : List Call). l ++ now) are.2 ∙ append_assoc are.0 are.1 now, are.3, calls-snoc past m are.1 now are.4 may)

all-snoc : (P : KeyMoment → Type 0) (ms : List KeyMoment) (m : KeyMoment) → AllByRecursion P ms → P m → AllByRecursion P (ms ++ m ∷ [])
all-snoc P [] m all h = (h, tt)
all-snoc P (x ∷ ms) m all h = (all.0, all-snoc P ms m all.1 h)

-- so far
pub record Held (s : PinState) (past : List KeyMoment) (k : KeyDeviceState) : Type 0 where
  pub calls : List Call
  pub are_calls : AreCalls past calls
  pub pin : k.pin ≡ Some (nexts calls s)
  pub granted : (g : GrantedRequest) → k.stage ≡ stages.Granted g → IsVouched s past g

module _ (laws : PinLaws) (s : PinState) (none : s.token ≡ None) where
  -- it waits on
  waits_on : (past : List KeyMoment) (m : KeyMoment) (g : GrantedRequest) → IsVouched s past g → m.new.stage ≡ stages.Granted g → IsVouched s (past ++ m ∷ []) g
  waits_on past m g v now = record {
    before = v.before;
    moment = v.moment;
    later = v.later ++ m ∷ [];
    here = ap (λ (l : List KeyMoment). l ++ m ∷ []) v.here ∙ append_assoc v.before (v.moment ∷ v.later) (m ∷ []);
    calls = v.calls;
    are_calls = v.are_calls;
    asked = v.asked;
    same = v.same;
    answers = v.answers;
    vouched = v.vouched;
    waits = (v.waits.0, all-snoc (λ (x : KeyMoment). x.new.stage ≡ stages.Granted g) v.later m v.waits.1 now);
  }

  -- it is granted now
  grants_now : (past : List KeyMoment) (m : KeyMoment) (calls : List Call) (g : GrantedRequest) → AreCalls past calls → GrantsNow (nexts calls s) g
      → m.new.stage ≡ stages.Granted g → IsVouched s (past ++ m ∷ []) g
  grants_now past m calls g are x now = record {
    before = past;
    moment = m;
    later = [];
    here = refl;
    calls = calls;
    are_calls = are;
    asked = x.asked;
    same = x.same;
    answers = x.answers;
    vouched = laws.vouched calls s x.answers (claim_of x.asked) none x.grants;
    waits = (now, tt);
  }

  pub step : (past : List KeyMoment) (m : KeyMoment) → Held s past m.old → Acts m.old m.act m.new → Held s (past ++ m ∷ []) m.new
  step past m h does =
      let x = acts (nexts h.calls s) m.old m.new h.pin m.act does in
      record {
        calls = h.calls ++ x.calls;
        are_calls = calls-snoc past m h.calls x.calls h.are_calls x.may;
        pin = x.pin ∙ ap (λ (z : PinState). Some z) (sym (nexts-append h.calls x.calls s));
        granted = λ g now. elim (x.granted g now) [
          | inl was ↦ waits_on past m g (h.granted g was) now
          | inr new ↦ grants_now past m h.calls g h.are_calls new now
        ];
      }

  over : (past : List KeyMoment) (k : KeyDeviceState) (run : List KeyMoment) → Held s past k → IsKeyRun k run → Held s (past ++ run) (key_after k run)
  over past k [] h is = subst (λ (l : List KeyMoment). Held s l k) (sym (append-nil past)) h
  over past k (m ∷ run) h is =
      subst (λ (l : List KeyMoment). Held s l (key_after m.new run)) (append_assoc past (m ∷ []) run)
      (over (past ++ m ∷ []) m.new run (step past m (subst (λ (z : KeyDeviceState). Held s past z) (sym is.0) h) is.1) is.2)

  -- a user who is verified
  pub handed_granted : (u : PinState) (stage : Stage) (bs : List ℕ) (consent : Consent) (h : Handed) → handed (Some u) stage bs consent ≡ Some h
      → h.consent.verified ≡ true → (g : GrantedRequest) × (stage ≡ stages.Granted g)
  handed_granted u (stages.Granted g) bs consent h is verified = (g, refl)
  handed_granted u stages.User bs consent h is verified =
      let same : record { request = bs; consent = as_it_is (Some u) consent } ≡ h = cc in
      let bad : false ≡ true = ap (λ (x : Handed). x.consent.verified) same ∙ verified in absurd cc
  handed_granted u stages.Nothing bs consent h is verified = absurd cc
  handed_granted u stages.Unread bs consent h is verified = absurd cc
  handed_granted u (stages.Words r) bs consent h is verified = absurd cc
  handed_granted u (stages.Answer r c) bs consent h is verified = absurd cc
  handed_granted u stages.Touch bs consent h is verified = absurd cc

  pub held : (k : KeyDeviceState) (run : List KeyMoment) → k.pin ≡ Some s → IsUngranted k.stage → IsKeyRun k run → Holds s run (key_after k run)
  held k run pin ungranted is =
      let h = over [] k run (record { calls = []; are_calls = refl; pin = pin; granted = λ g e. absurd (ungranted g e) }) is in
      record {
        calls = h.calls;
        are_calls = h.are_calls;
        pin = h.pin;
        granted = h.granted;
        verified = λ bs consent x hands verified.
            let g = handed_granted (nexts h.calls s) (key_after k run).stage bs consent x
            (subst (λ (p : Option PinState). handed p (key_after k run).stage bs consent ≡ Some x) h.pin hands) verified in
            (g.0, g.1, h.granted g.0 g.1);
      }

pub key_runs : PinLaws → KeyRuns
key_runs laws k s run pin none ungranted is = held laws s none k run pin ungranted is

-- where a PIN is loaded nothing was granted by it
anew : (pin : Option PinState) (t : TransactionState) (stage : Stage) → Fits pin t stage → IsUngranted (unread t stage)
anew pin Idle stage fits g now = let bad : stages.Nothing ≡ stages.Granted g = sym fits ∙ now in absurd cc
anew pin (Receiving cid cmd len next bytes) stage fits g now = let bad : stages.Nothing ≡ stages.Granted g = sym fits ∙ now in absurd cc
anew pin (Working cid payload) stage fits g now = let bad : stages.Unread ≡ stages.Granted g = now in absurd cc

pub loaded_runs : PinLaws → LoadedRuns
loaded_runs laws old k bytes run sound loads is =
    let stage : k.stage ≡ unread old.device.state old.stage = ap (λ (z : KeyDeviceState). z.stage) loads.4 in
    key_runs laws k loads.0 run (ap (λ (z : KeyDeviceState). z.pin) loads.4) (ap (λ (z : PinState). z.token) loads.3)
    (subst IsUngranted (sym stage) (anew old.pin old.device.state old.stage sound.stage)) is
