-- A verdict: nothing was counted and nothing depends on a PIN, or a try was begun and counted.
use Rattle.std.proofs.Common.{◌≡◌, ◌⊎◌, ℕ, List, length, Bool, true, false, cond, eqb, None, Result, Ok, Err, refl, ap, inl, inr}
use Rattle.std.proofs.lemmas.Bool.{eqb-true}
use Rattle.pin_protocols.specs.Asks.{Asked}
use Rattle.key_pin.specs.declared.state.KeyPair.{KeyPair}
use Rattle.key_pin.specs.declared.words.PinWords.{PinWords}
use Rattle.key_pin.specs.Host.{Ending, asks}
use Rattle.key_pin.specs.Outcomes.{Outcome, Verdict, retries_told, key_told, pin_set, pin_refused, token_told, mismatch}
use Rattle.key_pin.specs.Query.{Query}
use Rattle.key_pin.specs.State.{PinState, counted}
use Rattle.key_pin.specs.Steps.{Try, counting, judged, judged_by, key_agreement, needed, known_protocol, set_pin}
use Rattle.key_pin.proofs.Binds.{Asking, asking_ok, asking_refused}
use Rattle.key_pin.proofs.Asked.{New, Plain, new_plain, agreement_asks, set_asks, change_begun_asks, changed_asks, pin_token_asks, token_begun_asks, token_asks}
use Rattle.key_pin.proofs.Free.{Giving, giving_ok, giving_err, giving_then, Begins, Sets, Comes, change_begins, pin_token_begins, token_begins, set_gives, changed_gives, token_gives}

-- what is answered, or a PIN that is set where there was none
abbrev pub Mild : PinState → Outcome → Type 0
Mild s retries_told = Unit {0}
Mild s key_told = Unit {0}
Mild s (pin_set hash) = (s.pin ≡ None) × (length hash ≡ 16)
Mild s _ = ⊥

pub record Uncounted (es : List (Asked × List ℕ)) (q : Query) (s : PinState) (v : Verdict) : Type 0 where
  pub state : v.state ≡ s
  pub mild : Giving (Mild s) v.outcome
  pub asks : Asking (New es) v.outcome
  pub plain : (q.subcommand ≡ 3 → ⊥) → Asking (Plain es) v.outcome

pub record Counted (es : List (Asked × List ℕ)) (words : PinWords) (s : PinState) (v : Verdict) : Type 0 where
  pub attempt : Try
  pub begins : Begins s attempt
  pub state : v.state ≡ counted s
  pub comes : Giving (Comes es words attempt) v.outcome
  pub asks : Asking (New es) v.outcome

abbrev pub Way : List (Asked × List ℕ) → PinWords → Query → PinState → Verdict → Type 0
Way es words q s v = Uncounted es q s v ⊎ Counted es words s v

sets_mild : (s : PinState) (o : Outcome) → Sets s o → Mild s o
sets_mild s retries_told h = absurd h
sets_mild s key_told h = absurd h
sets_mild s (pin_set hash) h = h
sets_mild s (pin_refused status) h = absurd h
sets_mild s (token_told token sealed) h = absurd h
sets_mild s mismatch h = absurd h

err_asks : {A B : Type 0} (P : Asked → Type 0) (e : Ending) → Asking {A = A} P (Err e) → Asking {A = B} P (Err e)
err_asks P e h = record { so = λ a is. let same : e ≡ asks a = cc in h.so a (ap (λ (x : Ending). Err x) same) }

agreement_mild : (q : Query) (s : PinState) → Giving (Mild s) (key_agreement q)
unfolding key_agreement
agreement_mild q s = giving_then _ (needed q.protocol) _ (λ number _. giving_then _ (known_protocol number) _ (λ protocol _. giving_ok (Mild s) key_told tt))

set_mild : (es : List (Asked × List ℕ)) (pair : KeyPair) (q : Query) (s : PinState) → Giving (Mild s) (set_pin es pair q s)
set_mild es pair q s = record { so = λ o is. sets_mild s o ((set_gives es pair q s).so o is) }

module _ (es : List (Asked × List ℕ)) (words : PinWords) (pair : KeyPair) (q : Query) (s : PinState) where
  counting_way : {A : Type 0} (r : Result A Ending) (compared : A → Result Outcome Ending) (of : A → Try) → Giving (λ x. Begins s (of x)) r → Asking (Plain es) r
      → ((x : A) → Giving (Comes es words (of x)) (compared x)) → ((x : A) → Asking (New es) (compared x)) → Way es words q s (counting r compared s)
  counting_way (Ok x) compared of b p c n = inr (record { attempt = of x; begins = b.so x refl; state = refl; comes = c x; asks = n x })
  counting_way (Err e) compared of b p c n =
      let plain = err_asks (Plain es) e p in
      inl (record { state = refl; mild = giving_err _ e; asks = new_plain es _ plain; plain = λ _. plain })

  way_if : (b : Bool) (v w : Verdict) → (b ≡ true → Way es words q s v) → (b ≡ false → Way es words q s w) → Way es words q s (cond b v w)
  way_if true v w h k = h refl
  way_if false v w h k = k refl

  pub judged_way : Way es words q s (judged es words pair q s)
  unfolding judged_by
  judged_way =
      way_if (eqb q.subcommand 1) _ _ (λ _. inl (record { state = refl; mild = giving_ok (Mild s) retries_told tt; asks = asking_ok _ _; plain = λ _. asking_ok _ _ })) (λ _.
      way_if (eqb q.subcommand 2) _ _ (λ _. inl (record { state = refl; mild = agreement_mild q s; asks = agreement_asks (New es) q; plain = λ _. agreement_asks (Plain es) q })) (λ _.
      way_if (eqb q.subcommand 3) _ _ (λ three. inl (record { state = refl; mild = set_mild es pair q s; asks = set_asks es pair q s; plain = λ other. absurd (other (eqb-true q.subcommand 3 three)) })) (λ _.
      way_if (eqb q.subcommand 4) _ _ (λ _. counting_way _ _ (λ x. x.0) (change_begins es pair q s) (change_begun_asks es pair q s) (changed_gives es words) (changed_asks es)) (λ _.
      way_if (eqb q.subcommand 5) _ _ (λ _. counting_way _ _ (λ x. x.0) (pin_token_begins es pair q s) (pin_token_asks es pair q s) (token_gives es words) (token_asks es words)) (λ _.
      way_if (eqb q.subcommand 9) _ _ (λ _. counting_way _ _ (λ x. x.0) (token_begins es pair q s) (token_begun_asks es pair q s) (token_gives es words) (token_asks es words)) (λ _.
      inl (record { state = refl; mild = giving_err _ _; asks = asking_refused _ _; plain = λ _. asking_refused _ _ })))))))
