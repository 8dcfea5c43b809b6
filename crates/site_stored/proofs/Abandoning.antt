-- A session that is abandoned, or not.
use Rattle.std.proofs.Common.{◌≡◌, ℕ, List, true, false, refl, sym, ap, subst}
use Rattle.std.specs.Prelude.{IsErrAnd, IsErrOf, Ok, Err, Result, Option, Some, None}
use Rattle.sqlite_trees.specs.View.{View}
use Rattle.verification.specs.Records.{RelyingParty}
use Rattle.verification.specs.declared.party.Policy.{Policy}
use Rattle.site_rows.specs.Endings.{Endings, HoldsEndings}
use Rattle.site_seal.specs.Views.{session_view}
use Rattle.site_stored.specs.Calls.{TellsAbandoned}
use Rattle.site_stored.specs.Private.{EndsIn, IsOpenIn, IsUntold, KeepsNumbers}
use Rattle.site_stored.specs.State.{FitsColumn, IsSound, StoredState}
use Rattle.site_stored.specs.declared.session.Given.{Given}
use Rattle.site_stored.specs.declared.session.SessionFailure.{SessionFailure}
use Rattle.site_stored.specs.declared.session.SessionFailure.TheVariants as sessions
use Rattle.site_stored.specs.declared.site_store.SiteStore.{SiteStore}

-- the site over this store
abbrev pub site_over : {S : Type 0} → RelyingParty → Policy → List ℕ → ℕ → ℕ → ℕ → ℕ → ℕ → ℕ → ℕ → SiteStore S → StoredState S
site_over rp policy key lifetime next mark next_mark count last most held = record {
  rp = rp;
  policy = policy;
  key = key;
  lifetime = lifetime;
  next = next;
  reserved = held.reserved;
  durable = held.durable;
  mark = mark;
  next_mark = next_mark;
  count = count;
  last = last;
  most = most;
  store = held.store;
  is_shut = held.is_shut;
  is_pending = held.is_pending;
}

-- where no session is answered, the site is sound as it was
pub untold_sound : {S : Type 0} (view : S → View) (rp : RelyingParty) (policy : Policy) (key : List ℕ) (lifetime next mark next_mark count last most : ℕ)
    (old new : SiteStore S) (e : SessionFailure) → IsSound view (site_over rp policy key lifetime next mark next_mark count last most old)
    → KeepsNumbers old new → IsUntold old new e → IsSound view (site_over rp policy key lifetime next mark next_mark count last most new)
untold_sound view rp policy key lifetime next mark next_mark count last most old new sessions.Memory sound keeps same =
    subst (λ held. IsSound view (site_over rp policy key lifetime next mark next_mark count last most held)) (sym same) sound
untold_sound view rp policy key lifetime next mark next_mark count last most old new (sessions.Store why) sound keeps (shut, other) = record {
  ready = λ no. absurd cc;
  given = λ no. absurd cc;
  durable = λ no. absurd cc;
  reserved = subst FitsColumn (sym keeps.0) sound.reserved;
  key = sound.key;
}

-- where there was no memory, nothing has changed
pub untold_same : {S A : Type 0} (old new : SiteStore S) (r : Result A SessionFailure) (e : SessionFailure) → IsErrAnd r (λ y. y ≡ e) → IsUntold old new e
    → IsErrOf r sessions.Memory → new ≡ old
untold_same old new (Ok x) e is untold memory = absurd is
untold_same old new (Err y) e is untold memory = let named : e ≡ sessions.Memory = cc in subst (IsUntold old new) named untold

pub same_site : {S : Type 0} (rp : RelyingParty) (policy : Policy) (key : List ℕ) (lifetime next mark next_mark count last most : ℕ) (old new : SiteStore S)
    → new ≡ old → site_over rp policy key lifetime next mark next_mark count last most new ≡ site_over rp policy key lifetime next mark next_mark count last most old
same_site rp policy key lifetime next mark next_mark count last most old new same = ap (site_over rp policy key lifetime next mark next_mark count last most) same

-- what is answered where the text is not that of an open session
pub tells_none : {S : Type 0} (s : StoredState S) (now : ℕ) (text : List ℕ) (ended : Endings) (given : Option Given) (old new : View) → given ≡ None
    → IsOpenIn s.key s.rp.rp_id s.next ended now text given → new.trees ≡ old.trees → HoldsEndings 8 ended old.trees
    → (after : Endings) × TellsAbandoned s now text false ended after × HoldsEndings 8 after new.trees
tells_none s now text ended None old new none is same h = (ended, (refl, λ n x going. is n x going.0 going.1), subst (HoldsEndings 8 ended) (sym same) h)
tells_none s now text ended (Some g) old new none is same h = absurd cc

-- and where it is
pub tells_ended : {S : Type 0} (s : StoredState S) (now : ℕ) (text : List ℕ) (ended : Endings) (given : Option Given) (g : Given) (old mid new : View)
    → given ≡ Some g → IsOpenIn s.key s.rp.rp_id s.next ended now text given → mid.trees ≡ old.trees
    → EndsIn 8 now g.number (record { said = 2; until = (session_view g.opened).ends }) mid new → HoldsEndings 8 ended old.trees
    → (after : Endings) × TellsAbandoned s now text true ended after × HoldsEndings 8 after new.trees
tells_ended s now text ended given g old mid new some is same w h =
    let x = w.holds ended (subst (HoldsEndings 8 ended) (sym same) h) in
    (x.0, (g.number, session_view g.opened, subst (IsOpenIn s.key s.rp.rp_id s.next ended now text) some is, x.1), x.2)
