-- Items that are read one after the other, up to the end of a content.
use Rattle.std.proofs.Common.{◌≡◌, ◌≢◌, ℕ, ◌<◌, List, [], ◌∷◌, ◌++◌, length, Ok, Err}
use Rattle.std.proofs.Common.{refl, sym, ap, ◌∙◌, append_assoc, arith}
use Rattle.std.specs.List.{AllByRecursion}
use Rattle.std.proofs.lemmas.List.{append-nil, length-append, nil_from_length}
use Rattle.der.proofs.Steps.{IsBytes}
use Rattle.certificates.specs.declared.error.Error.{Error}
use Rattle.certificates.specs.Items.{joined}
use Rattle.certificates.specs.Steps.{Read}
use Rattle.certificates.proofs.Chain.{ok_is}

-- what was read, as one item
pub record TakesItem {E : Type 0} (octets_of : E → List ℕ) (Is : E → Type 0) (bs : List ℕ) (e : E) (rest : List ℕ) : Type 0 where
  pub parts : bs ≡ octets_of e ++ rest
  pub is : Is e
  pub rest_fits : IsBytes rest

-- a way to read items that is exact
pub record ReadsItems {E : Type 0} (octets_of : E → List ℕ) (Is : E → Type 0) (read : List ℕ → Read E) : Type 0 where
  pub takes : (bs : List ℕ) (x : E × List ℕ) → IsBytes bs → read bs ≡ Ok x → TakesItem octets_of Is bs x.0 x.1
  pub again : (e : E) (rest : List ℕ) → Is e → read (octets_of e ++ rest) ≡ Ok (e, rest)
  pub some : (e : E) → 0 < length (octets_of e)

-- the items of a front, and what follows them
pub record Walked {E : Type 0} (octets_of : E → List ℕ) (Is : E → Type 0) (front : List E) (content rest : List ℕ) : Type 0 where
  pub parts : content ≡ joined octets_of front ++ rest
  pub are : AllByRecursion Is front
  pub rest_fits : IsBytes rest

module _ {E : Type 0} (octets_of : E → List ℕ) (Is : E → Type 0) (read : List ℕ → Read E) (exact : ReadsItems octets_of Is read) where
  joined_more : (front : List E) (e : E) → joined octets_of (front ++ e ∷ []) ≡ joined octets_of front ++ octets_of e
  joined_more [] e = append-nil (octets_of e)
  joined_more (f ∷ front) e =
      ap (λ (l : List ℕ). octets_of f ++ l) (joined_more front e) ∙ sym (append_assoc (octets_of f) (joined octets_of front) (octets_of e))

  are_more : (front : List E) (e : E) → AllByRecursion Is front → Is e → AllByRecursion Is (front ++ e ∷ [])
  are_more [] e h is = (is, tt)
  are_more (f ∷ front) e h is = (h.0, are_more front e h.1 is)

  pub walked_none : (content : List ℕ) → IsBytes content → Walked octets_of Is [] content content
  walked_none content fits = record { parts = refl; are = tt; rest_fits = fits }

  pub walked_more : (front : List E) (content rest : List ℕ) (e : E) (after : List ℕ) → Walked octets_of Is front content rest
      → read rest ≡ Ok (e, after) → Walked octets_of Is (front ++ e ∷ []) content after
  walked_more front content rest e after w h =
      let t = exact.takes rest (e, after) w.rest_fits h in
      record {
        parts = w.parts ∙ ap (λ (r : List ℕ). joined octets_of front ++ r) t.parts ∙ sym (append_assoc (joined octets_of front) (octets_of e) after)
            ∙ ap (λ (l : List ℕ). l ++ after) (sym (joined_more front e));
        are = are_more front e w.are t.is;
        rest_fits = t.rest_fits;
      }

  pub walked_shorter : (front : List E) (content rest : List ℕ) (e : E) (after : List ℕ) → Walked octets_of Is front content rest
      → read rest ≡ Ok (e, after) → length after < length rest
  walked_shorter front content rest e after w h =
      let t = exact.takes rest (e, after) w.rest_fits h in
      let some = exact.some e in
      let len = ap length t.parts in
      omega (arith, some, len, length-append (octets_of e) after)

  pub walked_all : (front : List E) (content rest : List ℕ) → Walked octets_of Is front content rest → length rest ≡ 0 → content ≡ joined octets_of front
  walked_all front content rest w none =
      w.parts ∙ ap (λ (r : List ℕ). joined octets_of front ++ r) (nil_from_length rest none) ∙ append-nil (joined octets_of front)

  -- where no item can be read and bytes are left, the content is no list of items
  stops : (front es : List E) (rest : List ℕ) (d : Error) → AllByRecursion Is front → AllByRecursion Is es
      → joined octets_of front ++ rest ≡ joined octets_of es → length rest ≢ 0 → read rest ≡ Err d → ⊥
  stops [] [] rest d h k e some at = some (ap length e)
  stops [] (g ∷ es) rest d h k e some at = let again = sym at ∙ ap read e ∙ exact.again g (joined octets_of es) k.0 in absurd cc
  stops (f ∷ front) [] rest d h k e some at =
      let one = exact.some f in
      let len = ap length e in
      absurd (omega (arith, one, len, length-append (octets_of f ++ joined octets_of front) rest, length-append (octets_of f) (joined octets_of front)))
  stops (f ∷ front) (g ∷ es) rest d h k e some at =
      let regrouped : octets_of f ++ (joined octets_of front ++ rest) ≡ octets_of g ++ joined octets_of es =
      sym (append_assoc (octets_of f) (joined octets_of front) rest) ∙ e in
      let a : E × List ℕ = (f, joined octets_of front ++ rest) in
      let b : E × List ℕ = (g, joined octets_of es) in
      let same : a ≡ b = ok_is a b (sym (exact.again f (joined octets_of front ++ rest) h.0) ∙ ap read regrouped ∙ exact.again g (joined octets_of es) k.0) in
      stops front es rest d h.1 k.1 (ap (λ (p : E × List ℕ). p.1) same) some at

  pub walked_stops : (front : List E) (content rest : List ℕ) (d : Error) → Walked octets_of Is front content rest → length rest ≢ 0
      → read rest ≡ Err d → (es : List E) → AllByRecursion Is es → content ≡ joined octets_of es → ⊥
  walked_stops front content rest d w some at es are parts = stops front es rest d w.are are (sym w.parts ∙ parts) some at

  -- what any list of the content has at the item that was read
  next : (front es : List E) (rest : List ℕ) (e : E) (after : List ℕ) → AllByRecursion Is front → AllByRecursion Is es
      → joined octets_of front ++ rest ≡ joined octets_of es → IsBytes rest → read rest ≡ Ok (e, after) → (more : List E) × (es ≡ front ++ (e ∷ more))
  next [] [] rest e after h k is fits at =
      let t = exact.takes rest (e, after) fits at in
      let one = exact.some e in
      let none = ap length is in
      let len = ap length t.parts in
      absurd (omega (arith, one, none, len, length-append (octets_of e) after))
  next [] (g ∷ es) rest e after h k is fits at =
      let a : E × List ℕ = (e, after) in
      let b : E × List ℕ = (g, joined octets_of es) in
      let same : a ≡ b = ok_is a b (sym at ∙ ap read is ∙ exact.again g (joined octets_of es) k.0) in
      (es, ap (λ (x : E). x ∷ es) (sym (ap (λ (p : E × List ℕ). p.0) same)))
  next (f ∷ front) [] rest e after h k is fits at =
      let one = exact.some f in
      let len = ap length is in
      absurd (omega (arith, one, len, length-append (octets_of f ++ joined octets_of front) rest, length-append (octets_of f) (joined octets_of front)))
  next (f ∷ front) (g ∷ es) rest e after h k is fits at =
      let regrouped : octets_of f ++ (joined octets_of front ++ rest) ≡ octets_of g ++ joined octets_of es =
      sym (append_assoc (octets_of f) (joined octets_of front) rest) ∙ is in
      let a : E × List ℕ = (f, joined octets_of front ++ rest) in
      let b : E × List ℕ = (g, joined octets_of es) in
      let same : a ≡ b = ok_is a b (sym (exact.again f (joined octets_of front ++ rest) h.0) ∙ ap read regrouped ∙ exact.again g (joined octets_of es) k.0) in
      let n = next front es rest e after h.1 k.1 (ap (λ (p : E × List ℕ). p.1) same) fits at in
      (n.0, ap (λ (x : E). x ∷ es) (sym (ap (λ (p : E × List ℕ). p.0) same)) ∙ ap (λ (xs : List E). f ∷ xs) n.1)

  pub walked_next : (front : List E) (content rest : List ℕ) (e : E) (after : List ℕ) → Walked octets_of Is front content rest
      → read rest ≡ Ok (e, after) → (es : List E) → AllByRecursion Is es → content ≡ joined octets_of es → (more : List E) × (es ≡ front ++ (e ∷ more))
  walked_next front content rest e after w at es are parts = next front es rest e after w.are are (sym w.parts ∙ parts) w.rest_fits at
