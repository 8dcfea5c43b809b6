-- Serialised client data are read as what was serialised.
use Rattle.std.proofs.Common.{◌≡◌, ℕ, Bool, true, false, List, [], ◌∷◌, ◌++◌, Option, Some, None, refl, sym, ap, ap₂, ◌∙◌, arith, append_assoc}
use Rattle.std.proofs.Common.{append-nil, option_and_then, IsUtf8}
use Rattle.std.specs.Prelude.{chars, codes, flat_map}
use Rattle.std.proofs.lemmas.List.{append_cancel_left}
use Rattle.std.proofs.lemmas.Str.{encodes-chars}
use Rattle.base64.specs.GeneralPurpose.{IsBytes}
use Rattle.json.specs.Token.{begin_object, end_object, string, boolean}
use Rattle.json.specs.Text.{content}
use Rattle.json.specs.Word.{word}
use Rattle.json.specs.Lex.{Lexeme, token, comma, colon, string_token, lex, between, fresh, punctuate}
use Rattle.json.specs.Json as json
use Rattle.json.specs.Tree.{json_tokens}
use Rattle.json.proofs.Printed.Trees.{value-json_tokens}
use Rattle.serde_json.specs.Read.{read, of_json, max_depth}
use Rattle.clientdata.specs.declared.record.CeremonyType.{CeremonyType}
use Rattle.clientdata.specs.declared.record.CeremonyType.TheVariants.{Create, Get}
use Rattle.clientdata.specs.declared.seen.Binding.TheVariants.{Absent}
use Rattle.clientdata.specs.declared.seen.TopOrigin.TheVariants as top
use Rattle.clientdata.specs.declared.seen.Seen.{Seen}
use Rattle.clientdata.specs.Quoted.{escaped, quoted}
use Rattle.clientdata.specs.Serialised.{type_of, challenge_text_of, truth_of, client_data_front, client_data_text}
use Rattle.clientdata.specs.Reading.{crossing_of, seen_in, seen_of}
use Rattle.clientdata.proofs.Escapes.{content-escaped, lex-escaped}
use Rattle.clientdata.proofs.OneText.{one_challenge}
use Rattle.clientdata.proofs.Texts.{IsUtf8-type_of, IsUtf8-challenge, is_text-text}

-- a quoted text is one lexeme
lex-quoted : (s r : List ℕ) → IsUtf8 s → lex between (quoted s ++ r) ≡ token (string s) ∷ lex between r
unfolding lex quoted
lex-quoted s r u =
    ap (λ l. lex between (34 ∷ l)) (append_assoc (flat_map escaped (chars s)) (34 ∷ []) r)
    ∙ ap₂ (λ o l. token (string_token o) ∷ l) (content-escaped (chars s) r ∙ ap Some (encodes-chars s u)) (lex-escaped (chars s) r)

-- ---- the pieces between the quoted texts

lex-type : (r : List ℕ) → lex between (codes "{\"type\":" ++ r) ≡ token begin_object ∷ token (string (codes "type")) ∷ colon ∷ lex between r
unfolding lex content
lex-type r = refl

lex-challenge : (r : List ℕ) → lex between (codes ",\"challenge\":" ++ r) ≡ comma ∷ token (string (codes "challenge")) ∷ colon ∷ lex between r
unfolding lex content
lex-challenge r = refl

lex-origin : (r : List ℕ) → lex between (codes ",\"origin\":" ++ r) ≡ comma ∷ token (string (codes "origin")) ∷ colon ∷ lex between r
unfolding lex content
lex-origin r = refl

lex-cross : (cross : Bool) → lex between (codes ",\"crossOrigin\":" ++ (truth_of cross ++ codes "}"))
    ≡ comma ∷ token (string (codes "crossOrigin")) ∷ colon ∷ token (boolean cross) ∷ token end_object ∷ []
unfolding lex content word
lex-cross true = refl
lex-cross false = refl

-- ---- the whole text

module _ (t c o : List ℕ) (cross : Bool) where
  abbrev lexemes : List Lexeme
  lexemes = token begin_object ∷ token (string (codes "type")) ∷ colon ∷ token (string t)
      ∷ comma ∷ token (string (codes "challenge")) ∷ colon ∷ token (string c)
      ∷ comma ∷ token (string (codes "origin")) ∷ colon ∷ token (string o)
      ∷ comma ∷ token (string (codes "crossOrigin")) ∷ colon ∷ token (boolean cross) ∷ token end_object ∷ []

  abbrev tree : json.Json
  tree = json.object (json.member (codes "type") (json.string t) (json.member (codes "challenge") (json.string c)
      (json.member (codes "origin") (json.string o) (json.member (codes "crossOrigin") (json.boolean cross) json.no_members))))

  abbrev pieces : List ℕ
  pieces = codes "{\"type\":" ++ (quoted t
      ++ (codes ",\"challenge\":" ++ (quoted c ++ (codes ",\"origin\":" ++ (quoted o ++ (codes ",\"crossOrigin\":" ++ (truth_of cross ++ codes "}")))))))

  lex-pieces : IsUtf8 t → IsUtf8 c → IsUtf8 o → lex between pieces ≡ lexemes
  lex-pieces ut uc uo =
      let after_origin = lex-quoted o _ uo ∙ ap (λ l. token (string o) ∷ l) (lex-cross cross) in
      let after_challenge = lex-quoted c _ uc
      ∙ ap (λ l. token (string c) ∷ l) (lex-origin _ ∙ ap (λ l. comma ∷ token (string (codes "origin")) ∷ colon ∷ l) after_origin) in
      let after_type = lex-quoted t _ ut
      ∙ ap (λ l. token (string t) ∷ l) (lex-challenge _ ∙ ap (λ l. comma ∷ token (string (codes "challenge")) ∷ colon ∷ l) after_challenge) in
      lex-type _ ∙ ap (λ l. token begin_object ∷ token (string (codes "type")) ∷ colon ∷ l) after_type

  punctuate-lexemes : punctuate fresh lexemes ≡ json_tokens tree
  unfolding punctuate
  punctuate-lexemes = refl

  read-pieces : IsUtf8 t → IsUtf8 c → IsUtf8 o → option_and_then seen_in (read pieces) ≡ Some
      (record { kind = t; challenge = c; origin = o; binding = Absent; cross_origin = crossing_of cross; top_origin = top.Absent })
  read-pieces ut uc uo =
      let same = ap (punctuate fresh) (lex-pieces ut uc uo) ∙ punctuate-lexemes ∙ sym (append-nil (json_tokens tree)) in
      let parsed = ap (json.value max_depth) same ∙ value-json_tokens tree max_depth [] (omega arith) in
      ap (λ p. option_and_then seen_in (option_and_then of_json (option_and_then (λ q. json.if_last q.0 q.1) p))) parsed

pieces-text : (kind : CeremonyType) (challenge origin : List ℕ) (cross : Bool)
    → client_data_text kind challenge origin cross ≡ pieces (type_of kind) (challenge_text_of challenge) origin cross
unfolding client_data_front
pieces-text kind challenge origin cross = simp append_assoc

pub seen_of-text : (kind : CeremonyType) (challenge origin : List ℕ) (cross : Bool) → IsUtf8 origin
    → seen_of (client_data_text kind challenge origin cross) ≡ Some
    (record { kind = type_of kind; challenge = challenge_text_of challenge; origin = origin; binding = Absent; cross_origin = crossing_of cross; top_origin = top.Absent })
unfolding seen_of
seen_of-text kind challenge origin cross u =
    rw (is_text-text kind challenge origin cross u)
    (ap (λ text. option_and_then seen_in (read text)) (pieces-text kind challenge origin cross)
    ∙ read-pieces (type_of kind) (challenge_text_of challenge) origin cross (IsUtf8-type_of kind) (IsUtf8-challenge challenge) u)

-- ---- two records with one text

one_kind : (k l : CeremonyType) → type_of k ≡ type_of l → k ≡ l
one_kind Create Create e = refl
one_kind Create Get e = absurd (cc)
one_kind Get Create e = absurd (cc)
one_kind Get Get e = refl

one_truth : (x y : Bool) → truth_of x ++ codes "}" ≡ truth_of y ++ codes "}" → x ≡ y
one_truth true true e = refl
one_truth true false e = absurd (cc)
one_truth false true e = absurd (cc)
one_truth false false e = refl

one_end : (front : List ℕ) (x y : Bool) → (front ++ truth_of x) ++ codes "}" ≡ (front ++ truth_of y) ++ codes "}" → x ≡ y
one_end front x y e = one_truth x y
    (append_cancel_left front _ _ (sym (append_assoc front (truth_of x) (codes "}")) ∙ e ∙ append_assoc front (truth_of y) (codes "}")))

one_cross : (kind : CeremonyType) (challenge origin : List ℕ) (x y : Bool) → client_data_text kind challenge origin x ≡ client_data_text kind challenge origin y
    → x ≡ y
unfolding client_data_front
one_cross kind challenge origin x y e =
    one_end (codes "{\"type\":" ++ quoted (type_of kind) ++ codes ",\"challenge\":" ++ quoted (challenge_text_of challenge)
    ++ codes ",\"origin\":" ++ quoted origin ++ codes ",\"crossOrigin\":") x y e

abbrev some_seen : Option Seen → Seen
some_seen None = record { kind = []; challenge = []; origin = []; binding = Absent; cross_origin = crossing_of false; top_origin = top.Absent }
some_seen (Some seen) = seen

pub one_record : (k l : CeremonyType) (a b o p : List ℕ) (x y : Bool) → IsBytes a → IsBytes b → IsUtf8 o → IsUtf8 p
    → client_data_text k a o x ≡ client_data_text l b p y → (k ≡ l) × (a ≡ b) × (o ≡ p) × (x ≡ y)
one_record k l a b o p x y a_bytes b_bytes uo up e =
    let seen = sym (seen_of-text k a o x uo) ∙ ap seen_of e ∙ seen_of-text l b p y up in
    let kinds : type_of k ≡ type_of l = ap (λ s. (some_seen s).kind) seen in
    let texts : challenge_text_of a ≡ challenge_text_of b = ap (λ s. (some_seen s).challenge) seen in
    let origins : o ≡ p = ap (λ s. (some_seen s).origin) seen in
    let kind = one_kind k l kinds in
    let challenge = one_challenge a b a_bytes b_bytes texts in
    (kind, challenge, origins, one_cross k a o x y (e ∙ sym (ap₃ kind challenge origins)))
  where
    ap₃ : {k l : CeremonyType} {a b o p : List ℕ} → k ≡ l → a ≡ b → o ≡ p → client_data_text k a o y ≡ client_data_text l b p y
    ap₃ kind challenge origins = cc
