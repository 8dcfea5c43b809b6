-- Steps in order.
use Rattle.std.proofs.Common.{◌≡◌, ℕ, List, length, Bool, true, false, cond, eqb, Some, None, Result, Ok, Err, refl, ap, subst}
use Rattle.std.specs.Prelude.{Option}
use Rattle.pin_protocols.specs.Asks.{Asked, answer_of, answer_size}
use Rattle.key_pin.specs.Host.{Ending, asks, refused, ◌>>=◌, answer, sized_answer}

abbrev failed : {A : Type 0} → Ending → Result A Ending
failed e = Err e

-- the value of a step that goes on
pub bind_ok : {A B : Type 0} (r : Result A Ending) (f : A → Result B Ending) (y : B) → (r >>= f) ≡ Ok y → (x : A) × (r ≡ Ok x) × (f x ≡ Ok y)
bind_ok (Ok x) f y e = (x, refl, e)
bind_ok (Err d) f y e = absurd cc

-- what a step asks is so
pub record Asking {A : Type 0} (P : Asked → Type 0) (r : Result A Ending) : Type 0 where
  pub so : (a : Asked) → r ≡ Err (asks a) → P a

pub asking_ok : {A : Type 0} (P : Asked → Type 0) (x : A) → Asking P (Ok x)
asking_ok P x = record { so = λ a is. absurd cc }

pub asking_refused : {A : Type 0} (P : Asked → Type 0) (status : ℕ) → Asking {A = A} P (Err (refused status))
asking_refused P status = record { so = λ a is. absurd cc }

pub asking_then : {A B : Type 0} (P : Asked → Type 0) (r : Result A Ending) (f : A → Result B Ending) → Asking P r → ((x : A) → Asking P (f x)) → Asking P (r >>= f)
asking_then P (Ok x) f h k = k x
asking_then P (Err e) f h k = record { so = λ a is. let same : e ≡ asks a = cc in h.so a (ap failed same) }

pub asking_more : {A : Type 0} (P Q : Asked → Type 0) (r : Result A Ending) → ((a : Asked) → P a → Q a) → Asking P r → Asking Q r
asking_more P Q r more h = record { so = λ a is. more a (h.so a is) }

pub asking_if : {A : Type 0} (P : Asked → Type 0) (b : Bool) (r s : Result A Ending) → Asking P r → Asking P s → Asking P (cond b r s)
asking_if P true r s h k = h
asking_if P false r s h k = k

pub sized_asks : (es : List (Asked × List ℕ)) (size status : ℕ) (b : Asked) (o : Option (List ℕ)) → answer_of es b ≡ o
    → Asking (λ a. (b ≡ a) × (answer_of es a ≡ None)) (sized_answer size status b o)
sized_asks es size status b None e = record { so = λ a is. let same : b ≡ a = cc in (same, subst (λ (x : Asked). answer_of es x ≡ None) same e) }
sized_asks es size status b (Some x) e = asking_if _ (eqb (length x) size) (Ok x) (Err (refused status)) (asking_ok _ x) (asking_refused _ status)

pub answer_asks : (es : List (Asked × List ℕ)) (b : Asked) → Asking (λ a. (b ≡ a) × (answer_of es a ≡ None)) (answer es b)
unfolding answer
answer_asks es b = sized_asks es (answer_size b.operation (length b.text)) 0x7f b (answer_of es b) refl
