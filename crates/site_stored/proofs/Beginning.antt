-- A session that begins, or does not.
use Rattle.std.proofs.Common.{◌≡◌, ℕ, List, [], Bool, true, false, refl, sym, ap, subst, ◌∙◌, arith, inl, inr}
use Rattle.std.specs.Prelude.{◌≤◌, Option, Some, None, IfSome, IsErrAnd, Ok, Err, Result, length}
use Rattle.std.specs.Option.{ForSome}
use Rattle.sqlite_trees.specs.declared.store.Store.{Ghosts}
use Rattle.sqlite_trees.proofs.ListLemmas.{all_weaker}
use Rattle.authdata.specs.declared.profile.Profile.{Profile}
use Rattle.authdata.specs.declared.profile.Profile.TheVariants.{Strict, Open, Level3}
use Rattle.authdata.specs.Profiles.{max_id}
use Rattle.sqlite_trees.specs.View.{View}
use Rattle.site_state.specs.Sessions.{IsInput, IsNotExpected, Opening, OpensSignIn, max_listed, sign_in_of}
use Rattle.site_state.specs.declared.error.BeginError.{BeginError}
use Rattle.site_state.specs.declared.error.BeginError.TheVariants.{BadInput, SessionsFull, Exhausted, Memory}
use Rattle.site_seal.specs.Seal.{Ceremony, IsSignIn, IsWithin, sealed_text}
use Rattle.site_seal.specs.declared.error.SealError.{SealError}
use Rattle.site_seal.specs.declared.error.SealError.TheVariants as seals
use Rattle.site_stored.specs.Calls.{Begins, IsNotBegun}
use Rattle.site_stored.specs.Causes.{IfBeginStore, IsCaused}
use Rattle.site_stored.specs.Private.{seal_refusal}
use Rattle.site_stored.specs.State.{StoredState}
use Rattle.site_stored.specs.declared.failure.BeginFailure.{BeginFailure}
use Rattle.site_stored.specs.declared.failure.BeginFailure.TheVariants as begins
use Rattle.site_stored.specs.declared.failure.Failure.TheVariants as failures
use Rattle.site_stored.specs.declared.session.Begun.{Begun}

-- none begins, and nothing has changed
pub not_begun : {S : Type 0} (g : Ghosts S) (s : StoredState S) (o : Opening) (words : List ℕ) (now : ℕ) (r : Result Begun BeginFailure) (e : BeginFailure)
    → IsErrAnd r (λ y. y ≡ e) → IsNotBegun s s o e → (s.is_shut ≡ true → e ≡ begins.Store failures.Shut) → Begins g s s o words now r
not_begun g s o words now (Ok x) e is n shut = absurd is
not_begun g s o words now (Err y) e is n shut = record {
  begun = tt;
  input = tt;
  next = tt;
  given = tt;
  refused = subst (IsNotBegun s s o) (sym is) n;
  held = tt;
  beside = tt;
  one = tt;
  shut = λ t. ap Err (is ∙ shut t);
  quiet = record { clean = λ c. c; counts = omega arith; crash = λ db k. k };
}

-- what is asked is out of its limits, or there was no memory
pub site_not_begun : {S : Type 0} (s : StoredState S) (o : Opening) (e : BeginError) → IsNotExpected (IsInput s.rp.profile o) e → IsNotBegun s s o (begins.Site e)
site_not_begun s o BadInput wrong = (refl, inl (refl, wrong))
site_not_begun s o SessionsFull wrong = absurd wrong
site_not_begun s o Exhausted wrong = absurd wrong
site_not_begun s o Memory wrong = (refl, inr refl)

pub seal_not_begun : {S : Type 0} (s : StoredState S) (o : Opening) (e : SealError) → (e ≡ seals.BadInput → ⊥) → IsNotBegun s s o (begins.Site (seal_refusal e))
seal_not_begun s o seals.BadInput never = absurd (never refl)
seal_not_begun s o seals.Memory never = (refl, inr refl)

few : (profile : Profile) (n : ℕ) → n ≤ max_listed profile → n ≤ 64
few Strict n le = omega (arith, le)
few Open n le = le
few Level3 n le = le

short : (profile : Profile) (id : List ℕ) → IsWithin (max_id profile) id → IsWithin 1023 id
short Strict id w = (w.0, omega (arith, w.1))
short Open id w = w
short Level3 id w = w

named : (user : Option (List ℕ)) → ForSome user (IsWithin 64) → IfSome user (IsWithin 64)
named None f = tt
named (Some u) f = f u refl

-- what a profile takes a text can hold
pub sealable : (profile : Profile) (n : ℕ) (user : Option (List ℕ)) (allow : List (List ℕ)) (uv : Bool) (words : List ℕ)
    → IsInput profile (OpensSignIn user allow uv words) → IsSignIn (sign_in_of n user allow uv words)
sealable profile n user allow uv words i = record {
  user = named user i.0;
  count = few profile (length allow) i.1;
  allow = all_weaker _ _ (short profile) allow i.2;
}

not_begun_cause : {S : Type 0} (s : StoredState S) (o : Opening) (old : View) (before after : ℕ) (refused damage : Type 0) (e : BeginFailure)
    → IsNotBegun s s o e → IfBeginStore (IsCaused old before after refused damage) e
not_begun_cause s o old before after refused damage (begins.Site why) n = tt
not_begun_cause s o old before after refused damage begins.NoNumber n = tt
not_begun_cause s o old before after refused damage (begins.Store failures.Shut) n = tt
not_begun_cause s o old before after refused damage (begins.Store (failures.Failed why)) n = let shut = n.0 in let other = n.1 in absurd cc

-- where nothing has changed the store is not why
pub no_number_cause : {S : Type 0} (s : StoredState S) (old : View) (before after : ℕ) (refused damage : Type 0) (e : BeginFailure)
    → ((o : Opening) → IsNotBegun s s o e) → IfBeginStore (IsCaused old before after refused damage) e
no_number_cause s old before after refused damage e not = not_begun_cause s (OpensSignIn None [] false []) old before after refused damage e (not (OpensSignIn None [] false []))

-- the text of what a session expects, and of when it ends
pub same_text : {E : Type 0} (key : List ℕ) (ends at : ℕ) (ceremony : E → Ceremony) (text h hash : List ℕ) (e f : E)
    → text ≡ sealed_text key h (record { ends = ends; ceremony = ceremony e }) → ends ≡ at → h ≡ hash → e ≡ f
    → text ≡ sealed_text key hash (record { ends = at; ceremony = ceremony f })
same_text key ends at ceremony text h hash e f is time hashes same =
    is ∙ ap (λ n. sealed_text key h (record { ends = n; ceremony = ceremony e })) time
    ∙ ap (λ (l : List ℕ). sealed_text key l (record { ends = at; ceremony = ceremony e })) hashes
    ∙ ap (λ x. sealed_text key hash (record { ends = at; ceremony = ceremony x })) same
