-- Why an act is answered by a failure.
use Rattle.std.specs.Prelude.{◌≡◌, ◌⊎◌, ◌≤◌, ◌+◌, ◌-◌, ◌^◌, ℕ, List, Option, length, option_map, pos, ⊤}
use Rattle.sqlite_trees.specs.View.{View, IsClean}
use Rattle.authdata.specs.Responses.{assertion_response_view}
use Rattle.site_lines.specs.Named.{named_response}
use Rattle.site_state.specs.Table.{retired}
use Rattle.site_rows.specs.Held.{Holds, Placed}
use Rattle.site_stored.specs.State.{StoredState, ended_session_tree, ended_user_tree}
use Rattle.site_stored.specs.Causes.{AreUnknownEndings, IsCaused, IsDamaged, IsUnknownEnding, RefusesAllRetired, RefusesChange, RefusesEnding, RefusesNumber, RefusesRegistered, RefusesSignedIn}
use Rattle.site_stored.specs.Causes as stored
use Rattle.site_stored.specs.declared.failure.Failure.{Failure}
use Rattle.site_stored.specs.declared.failure.Failure.TheVariants as failures
use Rattle.site_acts.specs.declared.act.Act.{Act}
use Rattle.site_acts.specs.declared.act.Act.TheVariants as acts
use Rattle.site_acts.specs.declared.act.FinishRegistration.{FinishRegistration}
use Rattle.site_lines.specs.Answers.{asked_rows}
use Rattle.site_lines.specs.Details.{new_detail}
use Rattle.site_lines.specs.declared.answer.Answer.{Answer}
use Rattle.site_lines.specs.declared.answer.Answer.TheVariants as answers

-- what is said of a failure, where an answer is one
abbrev pub IfFailed : (Failure → Type 0) → Answer → Type 0
IfFailed P (answers.Failed why) = P why
IfFailed P _ = ⊤

-- a failure has its cause between an old site and a new one: running out of memory, a fault of the disk that the store counted in between, a row that
-- no store takes, or damage
abbrev pub IsCausedIn : {S : Type 0} → (S → View) → (S → ℕ) → StoredState S → StoredState S → Type 0 → Type 0 → Failure → Type 0
IsCausedIn view faults old new refused damage why = IsCaused (view old.store) (faults old.store) (faults new.store) refused damage why

-- so it is with an answer, where it is one
abbrev pub FailsBy : {S : Type 0} → (S → View) → (S → ℕ) → StoredState S → StoredState S → Type 0 → Type 0 → Answer → Type 0
FailsBy view faults old new refused damage answer = IsClean (view new.store) → IfFailed (IsCausedIn view faults old new refused damage) answer

-- ---- rows that no store takes

-- the row of the relying party, with the numbers that a session that begins may reserve
abbrev pub RefusesBegin : {S : Type 0} → View → StoredState S → Type 0
RefusesBegin old s = RefusesNumber old.reals s.rp.rp_id (s.next + 1000)

-- what is written of the credential that a line's response attests, of its detail, and of the session
abbrev pub RefusesFinish : {S : Type 0} → View → StoredState S → ℕ → FinishRegistration → Type 0
RefusesFinish old s now f = RefusesRegistered old s (named_response f) (new_detail now f) ⊎ RefusesEnding ended_session_tree old

-- what is written of a credential that is retired, and of its user's registrations
abbrev pub RefusesRetire : View → List ℕ → Type 0
RefusesRetire old id = RefusesChange old id retired ⊎ RefusesEnding ended_user_tree old

abbrev pub RefusesRetireAll : View → List ℕ → Type 0
RefusesRetireAll old user = RefusesAllRetired old user ⊎ RefusesEnding ended_user_tree old

-- what an act may write
abbrev pub RefusesAct : {S : Type 0} → View → StoredState S → ℕ → Act → Type 0
RefusesAct old s now (acts.BeginRegistration b) = RefusesBegin old s
RefusesAct old s now (acts.BeginSignIn b) = RefusesBegin old s
RefusesAct old s now (acts.FinishRegistration f) = RefusesFinish old s now f
RefusesAct old s now (acts.FinishSignIn f) = RefusesSignedIn old s.rp.profile (assertion_response_view f.response) (pos now) ⊎ RefusesEnding ended_session_tree old
RefusesAct old s now (acts.Retire id) = RefusesRetire old id.items
RefusesAct old s now (acts.Delete id) = RefusesEnding ended_user_tree old
RefusesAct old s now (acts.RetireAll user) = RefusesRetireAll old user.items
RefusesAct old s now (acts.Erase user) = RefusesEnding ended_user_tree old
RefusesAct old s now (acts.Abandon session) = RefusesEnding ended_session_tree old
RefusesAct old s now _ = ⊥

-- ---- damage

-- the rows that are asked for are more than any site holds, or the trees hold no credentials
abbrev pub AreTooMany : Option (List ℕ) → View → Type 0
AreTooMany user old = (placed : Placed) → Holds placed old.trees → 2 ^ 32 - 1 ≤ length (asked_rows user placed)

-- what an act may find
abbrev pub FindsDamage : View → Act → Type 0
FindsDamage old (acts.Rows user) = AreTooMany (option_map (λ u. u.items) user) old
FindsDamage old (acts.FinishSignIn f) = IsDamaged old.trees ⊎ IsUnknownEnding ended_session_tree old.trees
FindsDamage old (acts.FinishRegistration f) = IsDamaged old.trees ⊎ AreUnknownEndings old.trees
FindsDamage old (acts.RetireAll user) = stored.AreTooMany user.items old.trees
FindsDamage old (acts.Erase user) = stored.AreTooMany user.items old.trees
FindsDamage old (acts.Abandon session) = IsUnknownEnding ended_session_tree old.trees
FindsDamage old _ = IsDamaged old.trees

-- ---- an act

-- it fails only where the site was shut before
abbrev pub FailsShut : Answer → Type 0
FailsShut answer = IfFailed (λ why. why ≡ failures.Shut) answer

-- a failure of an act has its cause in it; one that asks nothing of the store fails only where the site was shut before
abbrev pub FailsIn : {S : Type 0} → (S → View) → (S → ℕ) → ℕ → Act → StoredState S → StoredState S → Answer → Type 0
FailsIn view faults now acts.Status old new answer = FailsShut answer
FailsIn view faults now (acts.Backup path) old new answer = FailsShut answer
FailsIn view faults now act old new answer = FailsBy view faults old new (RefusesAct (view old.store) old now act) (FindsDamage (view old.store) act) answer
