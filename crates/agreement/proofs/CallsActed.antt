-- What each call does is an event.
use Rattle.std.proofs.Common.{◌≡◌, refl, ap, sym, ◌∙◌, ℕ, List}
use Rattle.site_state.specs.Sessions.{OpenSessions}
use Rattle.site.specs.Saved.{TableOf, version_of}
use Rattle.site.specs.State.{IsLoaded, SiteState, judged_registration, none_open, saved_of}
use Rattle.verification.specs.Records.{RelyingParty}
use Rattle.verification.specs.declared.party.Policy.{Policy}
use Rattle.cose.specs.Schemes.{Validity}
use Rattle.authenticator.specs.Steps.{Keys}
use Rattle.agreement.specs.Calls.{CallsAct}
use Rattle.agreement.specs.World.{Loads, after_call, after_restart}
use Rattle.agreement.proofs.Lived.{changes_holder}
use Rattle.agreement.proofs.Sites.{passes_with_room, succeeds_with_room}

-- a site that was saved, loaded with whatever pages and policy
pub loaded_as : (s t : SiteState) (rp : RelyingParty) (policy : Policy) (bytes : List ℕ) → rp.rp_id ≡ s.rp.rp_id → TableOf (version_of s.rows) (saved_of s) bytes
    → IsLoaded rp policy bytes t → Loads s t
loaded_as s t rp policy bytes same saved loaded = record {
  bytes = bytes;
  saved = saved;
  version = loaded.0.0;
  loaded = loaded.0.1;
  rp_id = ap (λ (x : SiteState). x.rp.rp_id) loaded.1 ∙ same;
  none_open =
      let e : t.sessions ≡ none_open 1024 t.sessions.next = ap (λ (x : SiteState). x.sessions) loaded.1 in
      let m : t.sessions.max_open ≡ 1024 = ap (λ (x : OpenSessions). x.max_open) e in
      e ∙ ap (λ (n : ℕ). none_open n t.sessions.next) (sym m);
}

pub calls_act : (valid : Validity) (public : Keys) → CallsAct valid public
calls_act valid public = record {
  begins = λ s o bytes below. (bytes, below, refl);
  abandons = λ s n. refl;
  retires = λ s id. refl;
  signs_in = λ s t n r passes after. (passes, after);
  registers = λ s t n r passes after. (passes_with_room valid (judged_registration s n r) passes, after);
  signs_in_by = λ s t n c used ps d r succeeds after. ((used, r, succeeds), after);
  registers_by = λ s t n c used ps d r succeeds after. (succeeds_with_room valid s n c used ps d r succeeds, after);
  restarts = loaded_as;
  expires = λ s expected left. record { left = left; same = refl };
  bounds = λ s n. refl;
  restores = λ s fresh n same. record { rp_id = same; rows = refl; sessions = refl };
  asks = λ w k c bs consent words out size step. (out, size, step, changes_holder k (after_call (w.holder k) out) (after_call (w.holder k) out) w refl);
  reloads = λ w k bytes state saved loaded. (
    state,
    record { bytes = bytes; saved = saved; loaded = loaded },
    changes_holder k (after_restart (w.holder k) state) (after_restart (w.holder k) state) w refl,
  );
}
