-- What a store holds is one site.
use Rattle.std.specs.Prelude.{◌≡◌, ◌<◌, ◌≤◌, ◌+◌, ◌^◌, ℕ, List, [], ◌∷◌, min}
use Rattle.std.specs.List.{AllByRecursion}
use Rattle.sqlite_trees.specs.Tree.{Trees}
use Rattle.verification.specs.Records.{ExpectedRegistration}
use Rattle.site_rows.specs.Endings.{Endings}
use Rattle.site_rows.specs.Held.{Placed}
use Rattle.site_seal.specs.Seal.{registration, user_number}
use Rattle.site_stored.specs.Sessions.{Ends, IsCutOff, IsGiven, longest, until}
use Rattle.site_stored.specs.State.{HoldsSite, known, to_commit}

-- trees that hold a site hold no other
pub record IsOne (p q : Placed) (id id' : List ℕ) (m n : ℕ) : Type 0 where
  pub placed : p ≡ q
  pub rp_id : id ≡ id'
  pub next : m ≡ n

-- where a store had this number committed, and then that one: a copy with no more than the first is refused by what is known then, and
-- the store itself is not
pub record TellsCopies (before after : ℕ) : Type 0 where
  pub copies : (next : ℕ) → next ≤ before → next ≤ known after
  pub itself : known after < after

-- an act that ended the registrations of a user: at which second, and the number of the session that was to begin next
pub record Act : Type 0 where
  pub user : List ℕ
  pub at : ℕ
  pub next : ℕ

-- what acts, one after another, make of the table of users whose registrations have ended
abbrev pub EndsUsers : List ℕ → List Act → Endings → Endings → Type 0
EndsUsers key [] before after = after ≡ before
EndsUsers key (a ∷ acts) before after =
    (mid : Endings) × Ends a.at (user_number key a.user) (record { said = a.next; until = until a.at longest }) before mid × EndsUsers key acts mid after

-- no text of a session with a lower number that began before registers the user as long as its time is not over, whichever users' registrations
-- have ended since
abbrev pub ShutsOut : List ℕ → List ℕ → ℕ → ℕ → Endings → Type 0
ShutsOut key user next now users =
    (acts : List Act) (later : Endings) (rp_id text : List ℕ) (given at n began lifetime : ℕ) (e : ExpectedRegistration) → EndsUsers key acts users later
    → AllByRecursion (λ a. (next ≤ a.next) × (now ≤ a.at) × (a.at ≤ at)) acts
    → IsGiven key rp_id given at text n (record { ends = until began (min lifetime longest); ceremony = registration e }) → n < next → began ≤ now
    → e.user ≡ user → IsCutOff key later n e.user

pub record KeptLaws : Type 0 where
  pub copies : (durable reserved : ℕ) → durable ≤ reserved → durable + 1000 < 2 ^ 63 → TellsCopies durable (to_commit durable reserved)
  pub one_site : (p q : Placed) (id id' : List ℕ) (m n : ℕ) (db : Trees) → HoldsSite p id m db → HoldsSite q id' n db → IsOne p q id id' m n
  -- after a user was erased, or one of the user's credentials ended
  pub shut_out : (key : List ℕ) (next now : ℕ) (user : List ℕ) (before users : Endings)
      → Ends now (user_number key user) (record { said = next; until = until now longest }) before users → ShutsOut key user next now users
