-- What lines tell and keep of credentials beside what verdicts ask for.
use Rattle.std.specs.Prelude.{◌≡◌, ◌+◌, ◌⊎◌, ℕ, ℤ, pos, min, List, [], Option, Some, None, map, option_map, string_bytes}
use Rattle.std.specs.FinMap as finite
use Rattle.std.specs.List.{AllByRecursion}
use Rattle.sqlite_trees.specs.View.{View, IsClean}
use Rattle.site_stored.specs.Summaries.{with_aaguid}
use Rattle.site_rows.specs.Held.{Placed}
use Rattle.site_state.specs.Details.{Detail, detail_view, told}
use Rattle.site_rows.specs.Details.{Details, HoldsDetails}
use Rattle.site_stored.specs.State.{IsHeld, StoredState}
use Rattle.site_stored.specs.Calls.{TellsDetail, TellsForgotten, TellsAllForgotten, TellsUsed}
use Rattle.site_acts.specs.Joined.{joined}
use Rattle.site_acts.specs.declared.act.Act.{Act}
use Rattle.site_acts.specs.declared.act.Act.TheVariants as acts
use Rattle.site_acts.specs.declared.act.BeginRegistration.{BeginRegistration}
use Rattle.site_acts.specs.declared.act.BeginSignIn.{BeginSignIn}
use Rattle.site_acts.specs.declared.act.FinishRegistration.{FinishRegistration}
use Rattle.site_acts.specs.declared.act.FinishSignIn.{FinishSignIn}
use Rattle.site_lines.specs.declared.answer.Answer.{Answer}
use Rattle.site_lines.specs.declared.answer.Answer.TheVariants as answers
use Rattle.site_acts.specs.declared.known.Known.{Known}

-- a second of the host's clock, as a column holds it: at most 2^63 - 1
abbrev pub second : ℕ → ℤ
second now = pos (min now 9223372036854775807)

-- the detail of a credential that a line registers, but for the aaguid: this second, and the transports that the line tells
abbrev pub new_detail : ℕ → FinishRegistration → Detail
new_detail now f = told (Some (second now)) None (joined (map string_bytes f.transports.items)) None

-- of each map of credentials and of details that the store held before it
abbrev pub OfDetails : {S : Type 0} → (S → View) → StoredState S → StoredState S → (Placed → Details → Type 0) → Type 0
OfDetails view old new Of =
    IsClean (view new.store) → (placed : Placed) → IsHeld placed old (view old.store).trees
    → (details : Details) → HoldsDetails details (view old.store).trees → Of placed details

-- transports that are answered are those that are kept, or none are
abbrev pub AreTransports : List (List ℕ) → Option Detail → Type 0
AreTransports ts None = ts ≡ []
AreTransports ts (Some d) = (ts ≡ []) ⊎ (joined ts ≡ d.transports)

-- what is answered of a credential is what is held
abbrev pub IsKnown : Placed → Details → Known → Type 0
IsKnown placed details k =
    TellsDetail placed k.id.items details (option_map detail_view k.detail) × AreTransports (map string_bytes k.transports.items) (option_map detail_view k.detail)

abbrev pub AreKnown : {S : Type 0} → (S → View) → StoredState S → StoredState S → List (List ℕ) → List Known → Type 0
AreKnown view old new ids known = (map (λ k. k.id.items) known ≡ ids) × OfDetails view old new (λ placed details. AllByRecursion (IsKnown placed details) known)

-- a credential that is registered has this detail, and the aaguid that is answered
abbrev pub RegistersDetail : {S : Type 0} → (S → View) → Detail → StoredState S → StoredState S → Answer → Type 0
RegistersDetail view d old new (answers.Registered x) =
    OfDetails view old new (λ placed details. HoldsDetails (finite.insert details (old.last + 1) (with_aaguid x.aaguid d)) (view new.store).trees)
RegistersDetail view d old new _ = Unit {0}

-- the detail of a credential that signs in tells this second
abbrev pub UsesDetail : {S : Type 0} → (S → View) → ℕ → FinishSignIn → StoredState S → StoredState S → Answer → Type 0
UsesDetail view now f old new (answers.SignedIn x) =
    OfDetails view old new (λ placed details. TellsUsed placed f.response.credential.items (pos now) details (view new.store).trees)
UsesDetail view now f old new _ = Unit {0}

-- with a credential its detail is deleted
abbrev pub ForgetsDetail : {S : Type 0} → (S → View) → List ℕ → StoredState S → StoredState S → Answer → Type 0
ForgetsDetail view id old new (answers.Deleted was) = OfDetails view old new (λ placed details. TellsForgotten placed id was details (view new.store).trees)
ForgetsDetail view id old new _ = Unit {0}

-- with each credential of a user its detail is deleted
abbrev pub ForgetsDetails : {S : Type 0} → (S → View) → List ℕ → StoredState S → StoredState S → Answer → Type 0
ForgetsDetails view user old new (answers.Erased count) = OfDetails view old new (λ placed details. TellsAllForgotten placed user details (view new.store).trees)
ForgetsDetails view user old new _ = Unit {0}

-- the rows are answered with what is known of each
abbrev pub TellsRowDetails : {S : Type 0} → (S → View) → StoredState S → StoredState S → Answer → Type 0
TellsRowDetails view old new (answers.Rows rows known) = AreKnown view old new (map (λ r. r.id.items) rows.items) known.items
TellsRowDetails view old new _ = Unit {0}

-- the options tell what is known of the credentials that are named
abbrev pub TellsAllowed : {S : Type 0} → (S → View) → BeginSignIn → StoredState S → StoredState S → Answer → Type 0
TellsAllowed view b old new (answers.SignInBegun x asked known) = AreKnown view old new (map (λ id. id.items) b.allow.items) known.items
TellsAllowed view b old new _ = Unit {0}

abbrev pub TellsExcluded : {S : Type 0} → (S → View) → BeginRegistration → StoredState S → StoredState S → Answer → Type 0
TellsExcluded view b old new (answers.RegistrationBegun x asked known) = AreKnown view old new (map (λ id. id.items) b.exclude.items) known.items
TellsExcluded view b old new _ = Unit {0}

-- what the answer to an act says of details
abbrev pub TellsDetails : {S : Type 0} → (S → View) → ℕ → Act → StoredState S → StoredState S → Answer → Type 0
TellsDetails view now (acts.BeginRegistration b) old new answer = TellsExcluded view b old new answer
TellsDetails view now (acts.FinishRegistration f) old new answer = RegistersDetail view (new_detail now f) old new answer
TellsDetails view now (acts.BeginSignIn b) old new answer = TellsAllowed view b old new answer
TellsDetails view now (acts.FinishSignIn f) old new answer = UsesDetail view now f old new answer
TellsDetails view now (acts.Delete id) old new answer = ForgetsDetail view id.items old new answer
TellsDetails view now (acts.Erase user) old new answer = ForgetsDetails view user.items old new answer
TellsDetails view now (acts.Rows user) old new answer = TellsRowDetails view old new answer
TellsDetails view now _ old new answer = Unit {0}
