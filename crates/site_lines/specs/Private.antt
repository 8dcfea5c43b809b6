-- What private functions are proved against; no public clause cites it.
use Rattle.std.specs.Prelude.{◌≡◌, ◌⊎◌, ◌≤◌, ◌+◌, ◌^◌, ℕ, ⊤, List, [], ◌∷◌, Option, None, Some, Vec, map}
use Rattle.serde_json.specs.Data.{Data, string}
use Rattle.sqlite_trees.specs.View.{View}
use Rattle.authdata.specs.declared.profile.Profile.{Profile}
use Rattle.authdata.specs.Responses.{assertion_response_view, registration_response_view}
use Rattle.verification.specs.declared.refusal.SignInRefusal.{SignInRefusal}
use Rattle.verification.specs.declared.refusal.SignInRefusal.TheVariants as sign_in
use Rattle.verification.specs.declared.refusal.RegistrationRefusal.{RegistrationRefusal}
use Rattle.verification.specs.declared.refusal.RegistrationRefusal.TheVariants as register
use Rattle.site_state.specs.Sessions.{IsInput, Opening}
use Rattle.site_state.specs.declared.error.BeginError.TheVariants as full
use Rattle.site_stored.specs.State.{StoredState}
use Rattle.site_stored.specs.Calls.{IsFailure, IsSame}
use Rattle.site_lines.specs.declared.knowing.Unknown.{Unknown}
use Rattle.site_lines.specs.declared.knowing.Unknown.TheVariants as unknowns
use Rattle.site_stored.specs.declared.failure.Failure.{Failure}
use Rattle.site_stored.specs.declared.failure.BeginFailure.{BeginFailure}
use Rattle.site_stored.specs.declared.failure.BeginFailure.TheVariants as begins
use Rattle.site_acts.specs.declared.act.FinishRegistration.{FinishRegistration}
use Rattle.site_acts.specs.declared.act.FinishSignIn.{FinishSignIn}
use Rattle.site_lines.specs.declared.answer.Answer.{Answer}
use Rattle.site_lines.specs.declared.answer.Answer.TheVariants as answers
use Rattle.json_lines.specs.declared.error.LineError.TheVariants as errors
use Rattle.site_lines.specs.declared.answer.NotBegun.TheVariants as none
use Rattle.site_acts.specs.declared.verified.Verified.TheVariants as found
use Rattle.site_lines.specs.Written.{answered, step, whole_row}
use Rattle.site_acts.specs.declared.known.Known.{Known}
use Rattle.site_acts.specs.Asked.{RegistrationAsks}
use Rattle.site_lines.specs.Answers.{OfHeld, SignInAsks}
use Rattle.site_lines.specs.Details.{AreKnown}
use Rattle.std.specs.Global.{Global}
use Rattle.site_state.specs.declared.row.Row.{Row}

-- what is answered where no session begins
abbrev pub not_begun : BeginFailure → Answer
not_begun (begins.Site why) = answers.NotBegun (none.Refused why)
not_begun begins.NoNumber = answers.NotBegun none.NoNumber
not_begun (begins.Store why) = answers.Failed why

-- why no session begins, after a look at the credentials that are named
abbrev pub IsNotBegunAfter : {S : Type 0} → (S → View) → StoredState S → StoredState S → Opening → BeginFailure → Type 0
IsNotBegunAfter view old new o (begins.Site why) =
    IsSame view old new × (((why ≡ full.BadInput) × (IsInput old.rp.profile o → ⊥)) ⊎ (why ≡ full.Memory))
IsNotBegunAfter view old new o begins.NoNumber = IsSame view old new × (2 ^ 63 ≤ old.next + 1001)
IsNotBegunAfter view old new o (begins.Store why) = IsFailure old new why

-- what is answered where a step refuses a sign-in: the step, a question, or that memory ran out
abbrev pub IsRefusedSignIn : {S : Type 0} → (S → View) → SignInRefusal → FinishSignIn → StoredState S → StoredState S → Answer → Type 0
IsRefusedSignIn view step f old new (answers.SignInRefused told id) = (told ≡ step) × (id.items ≡ f.response.credential.items)
IsRefusedSignIn view step f old new (answers.Verify t) =
    (step ≡ sign_in.BadSignature) × (f.verified ≡ found.Nothing) × OfHeld view old new (λ placed. SignInAsks placed (assertion_response_view f.response) t)
IsRefusedSignIn view step f old new (answers.Error why) = why ≡ errors.Memory
IsRefusedSignIn view step f old new (answers.Failed why) = Unit {0}
IsRefusedSignIn view step f old new _ = ⊥

-- the same for a registration
abbrev pub IsRefusedRegistration : Profile → RegistrationRefusal → FinishRegistration → Answer → Type 0
IsRefusedRegistration profile step f (answers.RegistrationRefused told id) = (told ≡ step) × (id.items ≡ f.credential.items)
IsRefusedRegistration profile step f (answers.Verify t) =
    (step ≡ register.BadStatement) × (f.verified ≡ found.Nothing) × RegistrationAsks profile (registration_response_view f.response) t
IsRefusedRegistration profile step f (answers.Error why) = why ≡ errors.Memory
IsRefusedRegistration profile step f _ = ⊥

-- what is said of a failure, where it is why nothing is answered of credentials
abbrev pub IfUnknown : (Failure → Type 0) → Unknown → Type 0
IfUnknown P unknowns.Memory = ⊤
IfUnknown P (unknowns.Failed why) = P why

-- why nothing is answered of credentials: running out of memory, and nothing has changed; or a failure
abbrev pub IsUnknown : {S : Type 0} → (S → View) → StoredState S → StoredState S → Unknown → Type 0
IsUnknown view old new unknowns.Memory = IsSame view old new
IsUnknown view old new (unknowns.Failed why) = IsFailure old new why

-- what is answered where nothing is answered of credentials
abbrev pub unknown : Unknown → Answer
unknown unknowns.Memory = answers.Error errors.Memory
unknown (unknowns.Failed why) = answers.Failed why

-- rows are answered with what is known of each; or nothing is
abbrev pub IsWithKnown : {S : Type 0} → (S → View) → Vec Row Global → StoredState S → StoredState S → Answer → Type 0
IsWithKnown view rows old new (answers.Rows told known) =
    (told ≡ rows) × AreKnown view old new (map (λ r. r.id.items) rows.items) known.items × IsSame view old new
IsWithKnown view rows old new (answers.Error why) = (why ≡ errors.Memory) × IsSame view old new
IsWithKnown view rows old new (answers.Failed why) = IsFailure old new why
IsWithKnown view rows old new _ = ⊥

-- ---- lines out

-- a row with what is known of it; none where nothing is answered of it
abbrev pub row_at : Row → Option Known → List Data
row_at row None = []
row_at row (Some k) = whole_row row k ∷ []

-- a text, whichever
abbrev pub IsText : Data → Type 0
IsText d = (text : List ℕ) × (d ≡ string text)

abbrev pub IsStep : List ℕ → ℕ → Data → Type 0
IsStep letter n d = (text : List ℕ) × (d ≡ step letter n text)

abbrev pub SaysWhy : Option ℕ → List ℕ → Data → Type 0
SaysWhy id name d = (text : List ℕ) × (d ≡ answered id name (string text))

-- an answer to a line that is no ceremony's, or that is refused
abbrev pub IsOther : Answer → Type 0
IsOther (answers.RegistrationBegun started b known) = ⊥
IsOther (answers.SignInBegun started b known) = ⊥
IsOther (answers.Registered x) = ⊥
IsOther (answers.SignedIn x) = ⊥
IsOther (answers.Verify t) = ⊥
IsOther (answers.RegistrationRefused step id) = ⊥
IsOther (answers.SignInRefused step id) = ⊥
IsOther _ = ⊤
