-- A site of a run that stands for a stored one: each text that may still be accepted is that of an open session.
use Rattle.std.proofs.Common.{◌≡◌, ◌≤◌, ◌<◌, ◌⊎◌, inl, inr, ℕ, Bool, true, false, List, refl, sym, ap, ◌∙◌, subst, arith}
use Rattle.std.proofs.lemmas.Grind.{common_steps}
use Rattle.std.proofs.lemmas.Option.{same_Some}
use Rattle.std.specs.Prelude.{◌==◌, Contains, Some}
use Rattle.std.specs.FinMap.{gets}
use Rattle.std.specs.FinMap as finite
use Rattle.site_rows.specs.Endings.{Endings}
use Rattle.site_rows.specs.Held.{rows_of}
use Rattle.site_rows.specs.declared.ending.Ending.{Ending}
use Rattle.site_state.specs.Sessions.{OpenSessions, expected_of}
use Rattle.site.specs.State as site
use Rattle.site_stored.specs.Sessions.{Ends}
use Rattle.stored_runs.specs.History.{Begun, Kept}

-- its session is open
abbrev pub IsGoing : OpenSessions → Begun → Type 0
IsGoing open_sessions b = finite.get open_sessions.expected b.number ≡ Some (expected_of b.number b.opening)

-- its time is over, or it has ended as long as it is not
abbrev pub IsOver : Endings → ℕ → Begun → Type 0
IsOver ended second b = (b.ends ≤ second) ⊎ ((e : Ending) × (finite.get ended b.number ≡ Some e) × (b.ends ≤ e.until))

-- a site of a run at this number, by what is kept
pub record Stands {S : Type 0} (k : Kept S) (number : ℕ) (bs : List Begun) (second : ℕ) (t : site.SiteState) : Type 0 where
  pub rp : t.rp ≡ k.state.rp
  pub policy : t.policy ≡ k.state.policy
  pub rows : t.rows ≡ rows_of k.placed
  pub next : t.sessions.next ≡ number
  pub each : (b : Begun) → Contains bs b → b.number < number → IsGoing t.sessions b ⊎ IsOver k.ended second b

pub over_later : (ended : Endings) (second now : ℕ) (b : Begun) → second ≤ now → IsOver ended second b → IsOver ended now b
over_later ended second now b le (inl over) = inl (omega arith)
over_later ended second now b le (inr is) = inr is

pub same_number : (n m : ℕ) → (n ≡ m) ⊎ (n ≡ m → ⊥)
same_number n m = go (n == m) refl
  where
    go : (b : Bool) → (n == m) ≡ b → (n ≡ m) ⊎ (n ≡ m → ⊥)
    go true t = inl (grind (arith, common_steps, t))
    go false t = inr (λ same. grind (arith, common_steps, t, same))

-- where a session ends, its text is over, and each that was over is
module _ (now number : ℕ) (ending : Ending) (before after : Endings) (ends : Ends now number ending before after) where
  ended_at : finite.get after number ≡ Some ending
  ended_at = ap (λ (m : Endings). finite.get m number) ends.2 ∙ grind (arith, gets, common_steps)

  others : (n : ℕ) → (n ≡ number → ⊥) → finite.get after n ≡ finite.get ends.0 n
  others n apart = ap (λ (m : Endings). finite.get m n) ends.2 ∙ grind (arith, gets, common_steps, apart)

  pub now_over : (b : Begun) → b.number ≡ number → b.ends ≤ ending.until → IsOver after now b
  now_over b same le = inr (ending, ap (finite.get after) same ∙ ended_at, le)

  pub still_over : (b : Begun) → (b.number ≡ number → ⊥) → IsOver before now b → IsOver after now b
  still_over b apart (inl over) = inl over
  still_over b apart (inr (e, is, le)) = elim (ends.1 b.number) [
    | inl same ↦ inr (e, others b.number apart ∙ same ∙ is, le)
    | inr gone ↦
        let mine : e ≡ gone.0 = same_Some e gone.0 (sym is ∙ gone.1) in
        let past = gone.2 in
        let till = ap (λ (x : Ending). x.until) mine in
        inl (omega arith)
  ]

-- by what is kept alike, and of fewer texts
module _ {S : Type 0} (k l : Kept S) (next more : ℕ) (bs cs : List Begun) (second now : ℕ) (t : site.SiteState) (stands : Stands k next bs second t) where
  pub alike : l.state.rp ≡ k.state.rp → l.state.policy ≡ k.state.policy → l.placed ≡ k.placed → l.ended ≡ k.ended → next ≡ more → second ≤ now
      → ((b : Begun) → Contains cs b → b.number < more → Contains bs b) → Stands l more cs now t
  alike rp policy placed ended same le among = record {
    rp = stands.rp ∙ sym rp;
    policy = stands.policy ∙ sym policy;
    rows = stands.rows ∙ ap rows_of (sym placed);
    next = stands.next ∙ same;
    each = λ b there below. still b (stands.each b (among b there below) (omega (arith, below, same)));
  } where
    still : (b : Begun) → IsGoing t.sessions b ⊎ IsOver k.ended second b → IsGoing t.sessions b ⊎ IsOver l.ended now b
    still b (inl going) = inl going
    still b (inr over) = inr (subst (λ (m : Endings). IsOver m now b) (sym ended) (over_later k.ended second now b le over))
