-- The session that a text opens as.
use Rattle.std.proofs.Common.{◌≡◌, ℕ, List, refl, sym, ap, subst, ◌∙◌}
use Rattle.std.specs.Prelude.{IfNone, IfSome, IsSome, Option, Some, None, option_map}
use Rattle.std.specs.Borrow.{Bor}
use Rattle.std.specs.Option.{option_copied}
use Rattle.authdata.specs.Responses.{AuthenticatorAssertionResponse}
use Rattle.verification.specs.Records.{Credential, ExpectedSignIn}
use Rattle.sqlite_trees.specs.View.{View}
use Rattle.site_rows.specs.Endings.{Endings, HoldsEndings}
use Rattle.site_seal.specs.Seal.{Ceremony, Session, sign_in}
use Rattle.site_seal.specs.Views.{session_view}
use Rattle.site_seal.proofs.Texts.{one_text_of}
use Rattle.site_stored.specs.Private.{EndsIn, ExpectsAs, IsOpenIn}
use Rattle.site_stored.specs.Sessions.{EndsSession, ExpectsSignIn, IsGiven, user_of}
use Rattle.site_stored.specs.State.{StoredState}
use Rattle.site_stored.specs.declared.session.Given.{Given}

-- a text is that of one session
pub one_session : (key rp_id : List ℕ) (next now other_now : ℕ) (text : List ℕ) (m n : ℕ) (x y : Session) → IsGiven key rp_id next now text m x
    → IsGiven key rp_id next other_now text n y → x ≡ y
one_session key rp_id next now other_now text m n x y a b = one_text_of key _ key _ x y a.is b.is (sym a.sealed ∙ b.sealed)

-- what the session of a text expects of a credential, by what it says
pub expects : {S : Type 0} (s : StoredState S) (ended : Endings) (now : ℕ) (text : List ℕ) (found : Option Credential) (r : AuthenticatorAssertionResponse)
    (given : Option Given) (e : Option ExpectedSignIn) → IsOpenIn s.key s.rp.rp_id s.next ended now text given
    → ExpectsAs s.key given (user_of found) r.credential e → ExpectsSignIn s ended now text found r e
expects s ended now text found r None e is told =
    subst (ExpectsSignIn s ended now text found r) (sym told) (λ n ends x going. is n (record { ends = ends; ceremony = sign_in x }) going.0 going.1)
expects s ended now text found r (Some g) (Some e) is told = (
  g.number,
  g.opened.ends,
  told.0,
  (
    subst (λ (c : Ceremony). IsGiven s.key s.rp.rp_id s.next now text g.number (record { ends = g.opened.ends; ceremony = c })) told.1 is.0,
    is.1,
  ),
  told.2,
)
expects s ended now text found r (Some g) None is told = λ n ends x going.
    told x (ap (λ (s : Session). s.ceremony)
    (one_session s.key s.rp.rp_id s.next now now text g.number n (session_view g.opened) (record { ends = ends; ceremony = sign_in x }) is.0 going.0))

pub if_none : {A : Type 0} (o : Option A) (P : Type 0) → o ≡ None → IfNone o P → P
if_none None P is p = p
if_none (Some x) P is p = absurd cc

-- what is lent, seen
pub map_copied : {A B : Type 0} (f : A → B) (o : Option (Bor A)) → option_map (λ e. f e.now) o ≡ option_map f (option_copied o)
map_copied f None = refl
map_copied f (Some e) = refl

pub if_lent : {A : Type 0} (P : Type 0) (o : Option (Bor A)) → IfSome (option_copied o) (λ _. P) → IfSome o (λ _. P)
if_lent P None p = tt
if_lent P (Some e) p = p

pub if_seen : {A B : Type 0} (f : A → B) (P : Type 0) (o : Option A) → IfSome (option_map f o) (λ _. P) → IfSome o (λ _. P)
if_seen f P None p = tt
if_seen f P (Some e) p = p

pub some_seen : {A B : Type 0} (f : A → B) (P : Type 0) (o : Option A) → IfSome o (λ _. P) → IsSome (option_map f o) → P
some_seen f P None p is = absurd cc
some_seen f P (Some e) p is = p

-- where something is expected there is a session
pub expected_some : (key : List ℕ) (given : Option Given) (user id : List ℕ) (e : Option ExpectedSignIn) (P : Type 0) → ExpectsAs key given user id e
    → IfSome given (λ _. P) → IfSome e (λ _. P)
expected_some key None user id e P none p = subst (λ x. IfSome x (λ _. P)) (sym none) tt
expected_some key (Some g) user id None P is p = tt
expected_some key (Some g) user id (Some e) P is p = p

-- the session of a text ends
pub ends_open : {S : Type 0} (s : StoredState S) (how now : ℕ) (text : List ℕ) (ended : Endings) (given : Option Given) (g : Given) (old new : View)
    → given ≡ Some g → IsOpenIn s.key s.rp.rp_id s.next ended now text given
    → EndsIn 8 now g.number (record { said = how; until = (session_view g.opened).ends }) old new → HoldsEndings 8 ended old.trees
    → (after : Endings) × EndsSession s how now text ended after × HoldsEndings 8 after new.trees
ends_open s how now text ended given g old new some is w h =
    let x = w.holds ended h in
    (x.0, (g.number, session_view g.opened, subst (IsOpenIn s.key s.rp.rp_id s.next ended now text) some is, x.1), x.2)
