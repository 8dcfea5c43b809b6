-- The clauses of the public calls, from what their private functions ensure.
use Rattle.std.proofs.Common.{◌≡◌, ℕ, ◌<◌, List, ◌++◌, IsTrue, Option, Some, None, Result, Ok, Err, Bor, subst, inl, inr, ◌⊎◌}
use Rattle.std.specs.Prelude.{IfOk, IfErr, IfSome, IfNone, IsErr, IsErrOf, IsFalse, option_map}
use Rattle.der.specs.declared.error.Error.{Error}
use Rattle.der.specs.declared.error.Error.TheVariants as errors
use Rattle.der.specs.declared.tag.Tag.{Tag}
use Rattle.der.specs.declared.element.Element.{Element}
use Rattle.der.specs.Encoding.{element, IsElement, begins_with}
use Rattle.der.specs.Refusals.{Refused, RefusedAs, BeginsWith}
use Rattle.der.specs.Reading.{Gives, element_at, tagged_at, optional_at, whole_at}
use Rattle.der.proofs.Steps.{IsBytes, err_is}
use Rattle.der.proofs.Elements.{TakesOptional, optional_takes, tagged_takes, element_takes, whole_takes, no_element, no_element_at_all, not_whole, no_optional}
use Rattle.der.proofs.Refusing.{element_fails, tagged_fails, optional_fails, whole_fails, not_trailing}

abbrev Lent : Type 0
Lent = Bor (List ℕ)

module _ (bs : List ℕ) where
  pub element_found : (r : Result (Element × Lent) Error) → IsBytes bs → Gives (λ x. ((x.0.tag, x.0.content.now), x.1.now)) r (element_at bs)
      → IfOk r (λ x. IsElement x.0.tag x.0.content.now × (bs ≡ element x.0.tag x.0.content.now ++ x.1.now))
  element_found (Ok x) fits h = let t = element_takes bs ((x.0.tag, x.0.content.now), x.1.now) fits h in (t.fits, t.takes.parts)
  element_found (Err e) fits h = tt

  pub element_none : (r : Result (Element × Lent) Error) → Gives (λ x. ((x.0.tag, x.0.content.now), x.1.now)) r (element_at bs)
      → IsErr r → (t : Tag) (content rest : List ℕ) → IsElement t content → bs ≡ element t content ++ rest → ⊥
  element_none (Ok x) h err = absurd cc
  element_none (Err e) h err = no_element_at_all bs e h

  pub element_refused : (r : Result (Element × Lent) Error) → IsBytes bs → Gives (λ x. ((x.0.tag, x.0.content.now), x.1.now)) r (element_at bs)
      → IfErr r (λ e. Refused e bs)
  element_refused (Ok x) fits h = tt
  element_refused (Err e) fits h = element_fails bs e fits h

module _ (t : Tag) (bs : List ℕ) where
  pub tagged_found : (r : Result (Lent × Lent) Error) → t.number < 31 → IsBytes bs → Gives (λ x. (x.0.now, x.1.now)) r (tagged_at t bs)
      → IfOk r (λ x. IsElement t x.0.now × (bs ≡ element t x.0.now ++ x.1.now))
  tagged_found (Ok x) lt fits h = let k = tagged_takes t bs (x.0.now, x.1.now) lt fits h in (k.fits, k.takes.parts)
  tagged_found (Err e) lt fits h = tt

  pub tagged_none : (r : Result (Lent × Lent) Error) → Gives (λ x. (x.0.now, x.1.now)) r (tagged_at t bs)
      → IsErr r → (content rest : List ℕ) → IsElement t content → bs ≡ element t content ++ rest → ⊥
  tagged_none (Ok x) h err = absurd cc
  tagged_none (Err e) h err = no_element t bs e h

  pub tagged_refused : (r : Result (Lent × Lent) Error) → IsBytes bs → Gives (λ x. (x.0.now, x.1.now)) r (tagged_at t bs) → IfErr r (λ e. RefusedAs t e bs)
  tagged_refused (Ok x) fits h = tt
  tagged_refused (Err e) fits h = tagged_fails t bs e fits h

  -- an element that may be absent

  some_found : (o : Option Lent) (rest : List ℕ) → TakesOptional t bs (option_map (λ c. c.now) o) rest
      → IfSome o (λ c. IsElement t c.now × (bs ≡ element t c.now ++ rest))
  some_found (Some c) rest h = (h.fits, h.takes.parts)
  some_found None rest h = tt

  none_found : (o : Option Lent) (rest : List ℕ) → TakesOptional t bs (option_map (λ c. c.now) o) rest
      → IfNone o ((rest ≡ bs) × IsFalse (begins_with t bs))
  none_found (Some c) rest h = tt
  none_found None rest h = h

  pub optional_found : (r : Result (Option Lent × Lent) Error) → t.number < 31 → IsBytes bs
      → Gives (λ x. (option_map (λ c. c.now) x.0, x.1.now)) r (optional_at t bs)
      → IfOk r (λ x. IfSome x.0 (λ c. IsElement t c.now × (bs ≡ element t c.now ++ x.1.now)))
  optional_found (Ok x) lt fits h = some_found x.0 x.1.now (optional_takes t bs (option_map (λ c. c.now) x.0, x.1.now) lt fits h)
  optional_found (Err e) lt fits h = tt

  pub optional_absence : (r : Result (Option Lent × Lent) Error) → t.number < 31 → IsBytes bs
      → Gives (λ x. (option_map (λ c. c.now) x.0, x.1.now)) r (optional_at t bs)
      → IfOk r (λ x. IfNone x.0 ((x.1.now ≡ bs) × IsFalse (begins_with t bs)))
  optional_absence (Ok x) lt fits h = none_found x.0 x.1.now (optional_takes t bs (option_map (λ c. c.now) x.0, x.1.now) lt fits h)
  optional_absence (Err e) lt fits h = tt

  pub optional_none : (r : Result (Option Lent × Lent) Error) → Gives (λ x. (option_map (λ c. c.now) x.0, x.1.now)) r (optional_at t bs)
      → IsErr r → (content rest : List ℕ) → IsElement t content → bs ≡ element t content ++ rest → ⊥
  optional_none (Ok x) h err = absurd cc
  optional_none (Err e) h err = no_optional t bs e h

  pub optional_refused : (r : Result (Option Lent × Lent) Error) → IsBytes bs → Gives (λ x. (option_map (λ c. c.now) x.0, x.1.now)) r (optional_at t bs)
      → IfErr r (λ e. RefusedAs t e bs × IsTrue (begins_with t bs))
  optional_refused (Ok x) fits h = tt
  optional_refused (Err e) fits h = let k = optional_fails t bs e fits h in (k.why, k.begins)

  -- a whole element

  pub whole_found : (r : Result Lent Error) → t.number < 31 → IsBytes bs → Gives (λ c. c.now) r (whole_at t bs)
      → IfOk r (λ c. IsElement t c.now × (bs ≡ element t c.now))
  whole_found (Ok c) lt fits h = let k = whole_takes t bs c.now lt fits h in (k.fits, k.parts)
  whole_found (Err e) lt fits h = tt

  pub whole_none : (r : Result Lent Error) → Gives (λ c. c.now) r (whole_at t bs)
      → IsErr r → (content : List ℕ) → IsElement t content → bs ≡ element t content → ⊥
  whole_none (Ok c) h err = absurd cc
  whole_none (Err e) h err = not_whole t bs e h

  is_trailing : (e : Error) → ((e ≡ errors.Trailing) × BeginsWith t bs) ⊎ RefusedAs t e bs → e ≡ errors.Trailing → BeginsWith t bs
  is_trailing e (inl p) is = p.1
  is_trailing e (inr p) is = absurd (not_trailing t bs (subst (λ (d : Error). RefusedAs t d bs) is p))

  pub whole_trailing : (r : Result Lent Error) → t.number < 31 → IsBytes bs → Gives (λ c. c.now) r (whole_at t bs)
      → IsErrOf r errors.Trailing → BeginsWith t bs
  whole_trailing (Ok c) lt fits h err = absurd cc
  whole_trailing (Err e) lt fits h err = is_trailing e (whole_fails t bs e lt fits h) (err_is {A = Lent} e errors.Trailing err)

  either : (e : Error) → ((e ≡ errors.Trailing) × BeginsWith t bs) ⊎ RefusedAs t e bs → (e ≡ errors.Trailing) ⊎ RefusedAs t e bs
  either e (inl p) = inl p.0
  either e (inr p) = inr p

  pub whole_refused : (r : Result Lent Error) → t.number < 31 → IsBytes bs → Gives (λ c. c.now) r (whole_at t bs)
      → IfErr r (λ e. (e ≡ errors.Trailing) ⊎ RefusedAs t e bs)
  whole_refused (Ok c) lt fits h = tt
  whole_refused (Err e) lt fits h = either e (whole_fails t bs e lt fits h)
