-- What an act that is not carried out leaves, and what one look after another leaves.
use Rattle.std.specs.Prelude.{IfErr, IfOk, Ok, Err}
use Rattle.std.specs.declared.result.Result.{Result}
use Rattle.std.proofs.Common.{◌≡◌, ℕ, arith, Bool, List, Option, ap, refl, sym, subst, ◌∙◌, false, true≢false}
use Rattle.sqlite_trees.specs.View.{IsClean, View}
use Rattle.sqlite_trees.specs.declared.store.Store.{Ghosts}
use Rattle.cose.specs.declared.key.Alg.{Alg}
use Rattle.site_state.specs.Sessions.{Opening, OpensRegistration, OpensSignIn}
use Rattle.site_state.specs.declared.session.Asks.{Asks}
use Rattle.site_rows.specs.Calls.{IsQuiet}
use Rattle.site_rows.specs.Held.{Placed}
use Rattle.site_stored.specs.State.{IsHeld, StoredState}
use Rattle.site_stored.specs.Calls.{IsFailure, IsNotBegun, IsSame}
use Rattle.site_stored.specs.Calls as calls
use Rattle.site_stored.specs.Sessions.{begun_text}
use Rattle.site_stored.specs.declared.session.Begun.{Begun}
use Rattle.site_stored.specs.declared.failure.Failure.{Failure}
use Rattle.site_stored.specs.declared.failure.Failure.TheVariants as failures
use Rattle.site_stored.specs.declared.failure.BeginFailure.{BeginFailure}
use Rattle.site_lines.specs.Answers.{Begins}

pub same_site : {S : Type 0} (view : S → View) (old new : StoredState S) → new ≡ old → IsSame view old new
same_site view old new is = subst (IsSame view old) (sym is) (record { is = refl; clean = λ c. c; store = λ _. refl })

-- the credentials are held by a site that has not changed
pub held_on : {S : Type 0} (view : S → View) (placed : Placed) (old new : StoredState S) → IsSame view old new → IsClean (view new.store)
    → IsHeld placed old (view old.store).trees → IsHeld placed new (view new.store).trees
held_on view placed old new same clean h =
    let trees = ap (λ v. v.trees) (same.store clean) in
    subst (IsHeld placed new) (sym trees) (subst (λ (s : StoredState _). IsHeld placed s (view old.store).trees) (sym same.is) (record {
      holds = h.holds;
      count = h.count;
      last = h.last;
    }))

pub same_then : {S : Type 0} (view : S → View) (old mid new : StoredState S) → IsSame view old mid → IsSame view mid new → IsSame view old new
same_then view old mid new one two = record {
  is = two.is ∙ ap (λ (s : StoredState _). record s { store = new.store }) one.is;
  clean = λ c. one.clean (two.clean c);
  store = λ c. two.store c ∙ ap {A = View} (λ v. record v { cursors = (view new.store).cursors }) (one.store (two.clean c));
}

pub quiet_then : {S : Type 0} (g : Ghosts S) (old mid new : S) → IsQuiet g old mid → IsQuiet g mid new → IsQuiet g old new
quiet_then g old mid new one two = record {
  clean = λ c. one.clean (two.clean c);
  counts = omega (arith, one.counts, two.counts);
  crash = λ db r. one.crash db (two.crash db r);
}

pub failure_then : {S : Type 0} (view : S → View) (old mid new : StoredState S) (why : Failure) → old.is_shut ≡ false → IsSame view old mid
    → IsFailure mid new why → IsFailure old new why
failure_then view old mid new failures.Shut live same f = absurd (true≢false (sym f.0 ∙ ap (λ (s : StoredState _). s.is_shut) same.is ∙ live))
failure_then view old mid new (failures.Failed e) live same f = (live, f.1)

-- where the site's call begins one
pub session_begins : {S : Type 0} (g : Ghosts S) (p o : Opening) (words : List ℕ) (now : ℕ) (old new : StoredState S) (result : Result Begun BeginFailure)
    → p ≡ o → calls.Begins g old new p words now result → IfOk result (λ b. Begins g.view o words now b old new)
session_begins g p o words now old new (Ok b) same h = (
  h.begun.0,
  h.begun.1,
  h.begun.2 ∙ ap (λ q. begun_text old q now) same,
  h.next,
  h.one.0,
  λ clean placed was. (placed, refl, h.held clean placed was),
)
session_begins g p o words now old new (Err why) same h = tt

pub same_sign_in : (u v : Option (List ℕ)) (a b : List (List ℕ)) (uv : Bool) (words : List ℕ) → u ≡ v → a ≡ b
    → OpensSignIn u a uv words ≡ OpensSignIn v b uv words
same_sign_in u v a b uv words user allow = rw (user, allow) refl

pub same_registration : (u v : List ℕ) (a b : List Alg) (uv : Bool) (words : List ℕ) (asks : Asks) → u ≡ v → a ≡ b
    → OpensRegistration u a uv words asks ≡ OpensRegistration v b uv words asks
same_registration u v a b uv words asks user algorithms = rw (user, algorithms) refl

-- where the site's call begins no session
pub begins_none : {S T : Type 0} (p o : Opening) (old new : StoredState S) (result : Result T BeginFailure) → p ≡ o
    → IfErr result (IsNotBegun old new p) → IfErr result (IsNotBegun old new o)
begins_none p o old new (Ok s) same refused = tt
begins_none p o old new (Err why) same refused = subst (λ q. IsNotBegun old new q why) same refused
