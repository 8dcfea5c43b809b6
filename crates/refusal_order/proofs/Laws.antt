-- What holds of the first line of a list. Proofs above cite these.
use Rattle.std.proofs.Common.{◌≡◌, ◌↔◌, ◌⊎◌, inl, inr, ℕ, zero, suc, Bool, true, false, cond, List, [], ◌∷◌, ◌++◌, ◌+◌, Some, map, arith, zero-add}
use Rattle.std.proofs.Common.{slice_get, take, refl, sym, ◌∙◌, ap, subst}
use Rattle.std.specs.Prelude.{find, not, option_map, unwrap_or}
use Rattle.std.specs.List.{position_or_len}
use Rattle.std.proofs.lemmas.Bool.{true≢false}
use Rattle.refusal_order.specs.Lines.{Each, NoneOf, FirstStop, here, later, First, first_true}

-- what the first line of a list is, by the list
abbrev Cases : {L : Type 0} → (L → Type 0) → (L → Type 0) → List L → L → Type 0
Cases Passed Stops [] line = ⊥
Cases Passed Stops (x ∷ more) line = ((line ≡ x) × Stops x) ⊎ (Passed x × FirstStop Passed Stops more line)

pub cases : {L : Type 0} {Passed : L → Type 0} {Stops : L → Type 0} (lines : List L) (line : L) → FirstStop Passed Stops lines line
    → Cases Passed Stops lines line
cases _ _ (here line more stops) = inl (refl, stops)
cases _ _ (later x more line passed first) = inr (passed, first)

-- one stops at it
pub stops_at : {L : Type 0} {Passed : L → Type 0} {Stops : L → Type 0} {lines : List L} {line : L} → FirstStop Passed Stops lines line → Stops line
stops_at (here line more stops) = stops
stops_at (later x more line passed first) = stops_at first

-- the line at this place, where each before it is passed
pub first_at : {L : Type 0} {Passed : L → Type 0} {Stops : L → Type 0} {lines : List L} {line : L} (place : ℕ) → slice_get lines place ≡ Some line
    → Each Passed (take place lines) → Stops line → FirstStop Passed Stops lines line
first_at {lines = []} place is passed stops = absurd cc
first_at {L} {Passed} {Stops} {lines = x ∷ more} {line} zero is passed stops =
    let same : x ≡ line = cc in
    subst (λ (y : L). FirstStop Passed Stops (y ∷ more) line) (sym same) (here line more stops)
first_at {lines = x ∷ more} {line} (suc place) is passed stops = later x more line passed.0 (first_at place is passed.1 stops)

-- at most one line is first, and none where each is passed
pub one_first : {L : Type 0} {Passed : L → Type 0} {Stops : L → Type 0} → ((x : L) → Passed x → Stops x → ⊥) → (lines : List L) (line other : L)
    → FirstStop Passed Stops lines line → FirstStop Passed Stops lines other → line ≡ other
one_first apart [] line other f g = absurd (cases [] line f)
one_first apart (x ∷ more) line other f g = elim (cases (x ∷ more) line f) [
  | inl p ↦ elim (cases (x ∷ more) other g) [ inl q ↦ p.0 ∙ sym q.0 | inr q ↦ absurd (apart x q.0 p.1) ]
  | inr p ↦ elim (cases (x ∷ more) other g) [ inl q ↦ absurd (apart x p.0 q.1) | inr q ↦ one_first apart more line other p.1 q.1 ]
]

pub none_first : {L : Type 0} {Passed : L → Type 0} {Stops : L → Type 0} → ((x : L) → Passed x → Stops x → ⊥) → (lines : List L) (line : L)
    → Each Passed lines → FirstStop Passed Stops lines line → ⊥
none_first apart [] line all f = cases [] line f
none_first apart (x ∷ more) line all f = elim (cases (x ∷ more) line f) [
  | inl p ↦ apart x all.0 p.1
  | inr p ↦ none_first apart more line all.1 p.1
]

-- of no line the property holds, where none is the first
pub none_holds : {L : Type 0} (P : L → Type 0) (lines : List L) → ((line : L) → First P lines line → ⊥) → NoneOf P lines
none_holds P [] none = tt
none_holds P (x ∷ more) none = (λ p. none x (here x more p), none_holds P more (λ line f. none line (later x more line (λ p. none x (here x more p)) f)))

-- lists joined
pub each_joined : {L : Type 0} (P : L → Type 0) (xs ys : List L) → Each P xs → Each P ys → Each P (xs ++ ys)
each_joined P [] ys a b = b
each_joined P (x ∷ xs) ys a b = (a.0, each_joined P xs ys a.1 b)

pub first_before : {L : Type 0} {Passed : L → Type 0} {Stops : L → Type 0} {xs : List L} {line : L} (ys : List L) → FirstStop Passed Stops xs line
    → FirstStop Passed Stops (xs ++ ys) line
first_before ys (here line more stops) = here line (more ++ ys) stops
first_before ys (later x more line passed first) = later x (more ++ ys) line passed (first_before ys first)

pub first_behind : {L : Type 0} {Passed : L → Type 0} {Stops : L → Type 0} {ys : List L} {line : L} (xs : List L) → Each Passed xs
    → FirstStop Passed Stops ys line → FirstStop Passed Stops (xs ++ ys) line
first_behind [] passed first = first
first_behind {ys} {line} (x ∷ xs) passed first = later x (xs ++ ys) line passed.0 (first_behind xs passed.1 first)

pub first_joined : {L : Type 0} {Passed : L → Type 0} {Stops : L → Type 0} (xs ys : List L) (line : L) → FirstStop Passed Stops (xs ++ ys) line
    → FirstStop Passed Stops xs line ⊎ (Each Passed xs × FirstStop Passed Stops ys line)
first_joined [] ys line f = inr (tt, f)
first_joined (x ∷ xs) ys line f = elim (cases (x ∷ (xs ++ ys)) line f) [
  | inl p ↦ inl (rw p.0 (here x xs p.1))
  | inr p ↦ elim (first_joined xs ys line p.1) [ inl q ↦ inl (later x xs line p.0 q) | inr q ↦ inr ((p.0, q.0), q.1) ]
]

-- the first of other lines that these stand for
pub first_image : {L M : Type 0} {Passed : L → Type 0} {Stops : L → Type 0} {More : M → Type 0} {Ends : M → Type 0} (f : L → M) {lines : List L} {line : L}
    → ((x : L) → Passed x → More (f x)) → ((x : L) → Stops x → Ends (f x)) → FirstStop Passed Stops lines line → FirstStop More Ends (map f lines) (f line)
first_image f p s (here line more stops) = here (f line) (map f more) (s line stops)
first_image f p s (later x more line passed first) = later (f x) (map f more) (f line) (p x passed) (first_image f p s first)

-- the first of the same lines, by what follows for each of them
pub first_along : {L : Type 0} {Passed : L → Type 0} {Stops : L → Type 0} {More : L → Type 0} {Ends : L → Type 0} {lines : List L} {line : L}
    → Each (λ x. (Passed x → More x) × (Stops x → Ends x)) lines → FirstStop Passed Stops lines line → FirstStop More Ends lines line
first_along by (here line more stops) = here line more (by.0.1 stops)
first_along by (later x more line passed first) = later x more line (by.0.0 passed) (first_along by.1 first)

-- ---- lines with a test

true_first : {X : Type 0} (lines : List (Bool × X)) (x : X) → first_true lines ≡ Some x → (line : Bool × X) × First (λ (l : Bool × X). l.0 ≡ true) lines line
    × (line.1 ≡ x)
true_first [] x e = absurd cc
true_first {X} (row ∷ more) x e = split row.0 refl e (true_first more x)
  where
    split : (b : Bool) → row.0 ≡ b → option_map (λ (l : Bool × X). l.1) (cond b (Some row) (find (λ (l : Bool × X). l.0) more)) ≡ Some x
        → (first_true more ≡ Some x → (line : Bool × X) × First (λ (l : Bool × X). l.0 ≡ true) more line × (line.1 ≡ x))
        → (line : Bool × X) × First (λ (l : Bool × X). l.0 ≡ true) (row ∷ more) line × (line.1 ≡ x)
    split true is e rest = (row, here row more is, cc)
    split false is e rest = let found = rest e in (found.0, later row more found.0 (λ on. true≢false (sym on ∙ is)) found.1, found.2)

first_true_of : {X : Type 0} (lines : List (Bool × X)) (x : X) → (line : Bool × X) × First (λ (l : Bool × X). l.0 ≡ true) lines line × (line.1 ≡ x)
    → first_true lines ≡ Some x
first_true_of _ x (_, here line more on, e) = rw on (ap Some e)
first_true_of _ x (_, later row more line off f, e) = split row.0 refl (first_true_of more x (line, f, e)) where
  split : (b : Bool) → row.0 ≡ b → first_true more ≡ Some x → option_map (λ l. l.1) (cond b (Some row) (find (λ l. l.0) more)) ≡ Some x
  split true is rest = absurd (off is)
  split false is rest = rest

pub tested : {X : Type 0} (lines : List (Bool × X)) (x : X) → (first_true lines ≡ Some x)
    ↔ ((line : Bool × X) × First (λ (l : Bool × X). l.0 ≡ true) lines line × (line.1 ≡ x))
tested lines x = (true_first lines x, first_true_of lines x)

-- a fact of each line, counted from k, where its test is true and those before it are not
abbrev pub EachTested : {X : Type 0} → (ℕ → X → Type 0) → ℕ → List (Bool × X) → X → Type 0
EachTested P k [] last = P k last
EachTested P k (row ∷ more) last = (row.0 ≡ true → P k row.1) × (row.0 ≡ false → EachTested P (k + 1) more last)

-- is one of the first line whose test is true, and of its place
pub by_lines : {X : Type 0} (P : ℕ → X → Type 0) (lines : List (Bool × X)) (last : X) (k : ℕ) → EachTested P k lines last
    → P (position_or_len (λ (line : Bool × X). line.0) lines + k) (unwrap_or (first_true lines) last)
by_lines P [] last k each = subst (λ n. P n last) (sym (zero-add k)) each
by_lines {X} P (row ∷ more) last k each = split row.0 refl (λ off. by_lines P more last (k + 1) (each.1 off))
  where
    split : (b : Bool) → row.0 ≡ b → (row.0 ≡ false → P (position_or_len (λ (line : Bool × X). line.0) more + (k + 1)) (unwrap_or (first_true more) last))
        → P (cond (not b) (1 + position_or_len (λ (line : Bool × X). line.0) more) 0 + k)
        (unwrap_or (option_map (λ (line : Bool × X). line.1) (cond b (Some row) (find (λ (line : Bool × X). line.0) more))) last)
    split true on rest = subst (λ n. P n row.1) (sym (zero-add k)) (each.0 on)
    split false off rest = subst (λ n. P n (unwrap_or (first_true more) last)) (omega arith) (rest off)
