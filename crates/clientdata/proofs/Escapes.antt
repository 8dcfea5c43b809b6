-- Each escape is read back as its code point, and the lexer passes over it.
use Rattle.std.proofs.Common.{◌≡◌, ℕ, zero, suc, ◌<◌, ◌≤◌, Bool, true, false, cond, List, [], ◌∷◌, ◌++◌, Option, Some, None, length, get_or, inl}
use Rattle.std.proofs.Common.{inr, ◌⊎◌, refl, sym, ap, ◌∙◌, subst, arith, append_assoc, append-nil}
use Rattle.std.proofs.lemmas.Bool.{cases_eq, cases_lt, ne_eqb, le-ltb}
use Rattle.std.proofs.lemmas.Str.{encode_ascii, inside_one}
use Rattle.std.specs.Prelude.{flat_map}
use lib.Utf8.{encode, encodes}
use Rattle.json.specs.Text.{content, plain, prepend, code_unit, short_escape}
use Rattle.json.specs.Word.{is_operator, is_space}
use Rattle.json.specs.Lex.{Lexeme, Mode, lex, lex_byte, between, in_string, operator, space, other}
use Rattle.clientdata.specs.Quoted.{escaped}

-- what both readers make of the text xs that stands for the bytes ys, before any text
record IsReadAs (xs ys : List ℕ) : Type 0 where
  content_of : (r : List ℕ) → content plain (xs ++ r) ≡ prepend ys (content plain r)
  lexemes_of : (r : List ℕ) → lex in_string (xs ++ r) ≡ lex in_string r

-- the escape of a code point is read as its UTF-8
abbrev IsRead : ℕ → Type 0
IsRead c = IsReadAs (escaped c) (encode c)

-- what both readers make of the escape of c, and what they are to make of it, before each text
abbrev Answer : Type 0
Answer = List ℕ → Option (List ℕ) × List Lexeme

abbrev got : ℕ → Answer
got c = λ r. (content plain (escaped c ++ r), lex in_string (escaped c ++ r))

abbrev wanted : ℕ → Answer
wanted c = λ r. (prepend (encode c) (content plain r), lex in_string r)

-- the answers below n, counted down from the top
abbrev below : (ℕ → Answer) → ℕ → List Answer
below f zero = []
below f (suc n) = f n ∷ below f n

same_below : (f g : ℕ → Answer) (n : ℕ) → below f n ≡ below g n → (c : ℕ) → c < n → f c ≡ g c
same_below f g zero e c lt = absurd (omega arith)
same_below f g (suc n) e c lt =
    let top : f n ≡ g n = cc e in
    let rest : below f n ≡ below g n = cc e in
    elim (cases_eq c n) [
      | inl is ↦ subst (λ (k : ℕ). f k ≡ g k) (sym is) top
      | inr differs ↦ same_below f g n rest c (omega arith)
    ]

controls : below got 32 ≡ below wanted 32
unfolding content lex code_unit short_escape encode
controls = refl

control_read : (c : ℕ) → c < 32 → IsRead c
control_read c low =
    let e = same_below got wanted 32 controls c low in
    record { content_of = λ r. ap (λ (f : Answer). (f r).0) e; lexemes_of = λ r. ap (λ (f : Answer). (f r).1) e }

quote_read : IsRead 34
unfolding content lex short_escape encode
quote_read = record { content_of = λ r. refl; lexemes_of = λ r. refl }

backslash_read : IsRead 92
unfolding content lex short_escape encode
backslash_read = record { content_of = λ r. refl; lexemes_of = λ r. refl }

-- ---- bytes that stand for themselves

abbrev ArePlain : List ℕ → Type 0
ArePlain [] = Unit {0}
ArePlain (x ∷ xs) = ((x ≡ 34 → ⊥) × (x ≡ 92 → ⊥) × (32 ≤ x)) × ArePlain xs

stays_inside : (o s : Bool) (x : ℕ) (r : List ℕ) (k : Mode → List Lexeme) → lex_byte in_string (cond o operator (cond s space other)) x r k ≡ k in_string
stays_inside true s x r k = refl
stays_inside false true x r k = refl
stays_inside false false x r k = refl

prepend_none : (o : Option (List ℕ)) → o ≡ prepend [] o
prepend_none None = refl
prepend_none (Some s) = refl

prepend_more : (x : ℕ) (xs : List ℕ) (o : Option (List ℕ)) → prepend (x ∷ []) (prepend xs o) ≡ prepend (x ∷ xs) o
prepend_more x xs None = refl
prepend_more x xs (Some s) = refl

plain_content : (xs r : List ℕ) → ArePlain xs → content plain (xs ++ r) ≡ prepend xs (content plain r)
unfolding content
plain_content [] r h = prepend_none (content plain r)
plain_content (x ∷ xs) r h =
    rw (ne_eqb x 34 h.0.0, ne_eqb x 92 h.0.1, le-ltb x 32 h.0.2, plain_content xs r h.1) (prepend_more x xs (content plain r))

plain_lexemes : (xs r : List ℕ) → ArePlain xs → lex in_string (xs ++ r) ≡ lex in_string r
unfolding lex
plain_lexemes [] r h = refl
plain_lexemes (x ∷ xs) r h =
    rw (ne_eqb x 34 h.0.0, ne_eqb x 92 h.0.1) (stays_inside (is_operator x) (is_space x) x (xs ++ r) (λ m. lex m (xs ++ r)) ∙ plain_lexemes xs r h.1)

plain_read : (xs : List ℕ) → ArePlain xs → IsReadAs xs xs
plain_read xs h = record { content_of = λ r. plain_content xs r h; lexemes_of = λ r. plain_lexemes xs r h }

high_plain : (xs : List ℕ) → ((k : ℕ) → k < length xs → 128 ≤ get_or xs k 0) → ArePlain xs
high_plain [] h = tt
high_plain (x ∷ xs) h =
    let high : 128 ≤ x = h 0 (omega arith) in
    (((λ e. omega arith), (λ e. omega arith), omega arith), high_plain xs (λ k below. h (suc k) (omega arith)))

encode_plain : (c : ℕ) → (c ≡ 34 → ⊥) → (c ≡ 92 → ⊥) → 32 ≤ c → ArePlain (encode c)
encode_plain c q b l = elim (cases_lt c 128) [
  | inl small ↦ rw (encode_ascii c small) ((q, b, l), tt)
  | inr big ↦ high_plain (encode c) (λ k below. elim (cases_lt (get_or (encode c) k 0) 128) [
    | inl low ↦ absurd (omega (arith, inside_one c [] (encode c) k (sym (append-nil _)) below low))
    | inr h ↦ h
  ])
]

escaped_plain : (c : ℕ) → (c ≡ 34 → ⊥) → (c ≡ 92 → ⊥) → 32 ≤ c → escaped c ≡ encode c
escaped_plain c q b l = rw (ne_eqb c 34 q, ne_eqb c 92 b, le-ltb c 32 l)

every_read : (c : ℕ) → IsRead c
every_read c = go (cases_eq c 34) (cases_eq c 92) (cases_lt c 32)
  where
    go : (c ≡ 34) ⊎ (c ≡ 34 → ⊥) → (c ≡ 92) ⊎ (c ≡ 92 → ⊥) → (c < 32) ⊎ (32 ≤ c) → IsRead c
    go (inl e) b l = subst IsRead (sym e) quote_read
    go (inr q) (inl e) l = subst IsRead (sym e) backslash_read
    go (inr q) (inr b) (inl low) = control_read c low
    go (inr q) (inr b) (inr l) = rw (escaped_plain c q b l) (plain_read (encode c) (encode_plain c q b l))

-- ---- whole texts

pub content-escaped : (cs r : List ℕ) → content plain (flat_map escaped cs ++ 34 ∷ r) ≡ Some (encodes cs)
unfolding content
content-escaped [] r = refl
content-escaped (c ∷ cs) r =
    ap (content plain) (append_assoc (escaped c) (flat_map escaped cs) (34 ∷ r)) ∙ (every_read c).content_of _ ∙ ap (prepend (encode c)) (content-escaped cs r)

pub lex-escaped : (cs r : List ℕ) → lex in_string (flat_map escaped cs ++ 34 ∷ r) ≡ lex between r
unfolding lex
lex-escaped [] r = refl
lex-escaped (c ∷ cs) r = ap (lex in_string) (append_assoc (escaped c) (flat_map escaped cs) (34 ∷ r)) ∙ (every_read c).lexemes_of _ ∙ lex-escaped cs r
