-- Serialised client data are UTF-8 without a byte order mark.
use Rattle.std.proofs.Common.{◌≡◌, ℕ, zero, suc, ◌<◌, ◌≤◌, Bool, true, false, ◌&&◌, List, [], ◌∷◌, inl, inr, refl, arith, IsUtf8}
use Rattle.std.specs.Prelude.{chars, codes, flat_map}
use Rattle.std.proofs.lemmas.Bool.{and_parts, cases_eq, cases_lt, ne_eqb, le-ltb}
use Rattle.std.proofs.lemmas.Str.{IsUtf8-append, IsUtf8-nil, IsUtf8-encode, IsUtf8-from_ascii, is_utf8-from_IsUtf8, scalars-chars}
use lib.Utf8.{scalar, scalars, encode}
use Rattle.base64.specs.Engines.{url_safe_no_pad}
use Rattle.base64.proofs.EngineFacts.{IsAscii-encode_of}
use Rattle.json.proofs.Printed.Utf8.{IsUtf8-are_ascii, are_ascii}
use Rattle.clientdata.specs.declared.record.CeremonyType.{CeremonyType}
use Rattle.clientdata.specs.declared.record.CeremonyType.TheVariants.{Create, Get}
use Rattle.clientdata.specs.Quoted.{escaped, quoted}
use Rattle.clientdata.specs.Serialised.{type_of, challenge_text_of, truth_of, client_data_front, client_data_text}
use Rattle.clientdata.specs.Reading.{is_text}

-- the escapes of the code points below n are ASCII
abbrev escapes_below : ℕ → Bool
escapes_below zero = true
escapes_below (suc n) = are_ascii (escaped n) && escapes_below n

escape_below : (n : ℕ) → escapes_below n ≡ true → (c : ℕ) → c < n → are_ascii (escaped c) ≡ true
escape_below zero e c h = absurd (omega arith)
escape_below (suc n) e c h =
    let p = and_parts _ _ e in
    elim (cases_eq c n) [ inl same ↦ rw same p.0 | inr other ↦ escape_below n p.1 c (omega arith) ]

ascii_escapes : escapes_below 128 ≡ true
unfolding encode
ascii_escapes = refl

IsUtf8-escaped : (c : ℕ) → scalar c ≡ true → IsUtf8 (escaped c)
IsUtf8-escaped c ok = elim (cases_lt c 128) [
  | inl small ↦ IsUtf8-are_ascii _ (escape_below 128 ascii_escapes c small)
  | inr big ↦ rw (high c big) (IsUtf8-encode c ok)
]
  where
    high : (c : ℕ) → 128 ≤ c → escaped c ≡ encode c
    high c big = rw (ne_eqb c 34 (λ e. omega arith), ne_eqb c 92 (λ e. omega arith), le-ltb c 32 (omega arith))

IsUtf8-escapes : (cs : List ℕ) → scalars cs ≡ true → IsUtf8 (flat_map escaped cs)
IsUtf8-escapes [] e = IsUtf8-nil
IsUtf8-escapes (c ∷ cs) e = let p = and_parts _ _ e in IsUtf8-append _ _ (IsUtf8-escaped c p.0) (IsUtf8-escapes cs p.1)

IsUtf8-quoted : (s : List ℕ) → IsUtf8 s → IsUtf8 (quoted s)
unfolding quoted
IsUtf8-quoted s u =
    let quote : IsUtf8 (34 ∷ []) = IsUtf8-are_ascii (34 ∷ []) refl in
    IsUtf8-append _ _ (IsUtf8-append _ _ quote (IsUtf8-escapes (chars s) (scalars-chars s u))) quote

pub IsUtf8-type_of : (kind : CeremonyType) → IsUtf8 (type_of kind)
IsUtf8-type_of Create = IsUtf8-are_ascii _ refl
IsUtf8-type_of Get = IsUtf8-are_ascii _ refl

pub IsUtf8-challenge : (challenge : List ℕ) → IsUtf8 (challenge_text_of challenge)
unfolding challenge_text_of
IsUtf8-challenge challenge = IsUtf8-from_ascii _ (IsAscii-encode_of url_safe_no_pad challenge)

IsUtf8-truth : (value : Bool) → IsUtf8 (truth_of value)
IsUtf8-truth true = IsUtf8-are_ascii _ refl
IsUtf8-truth false = IsUtf8-are_ascii _ refl

IsUtf8-text : (kind : CeremonyType) (challenge origin : List ℕ) (cross : Bool) → IsUtf8 origin → IsUtf8 (client_data_text kind challenge origin cross)
unfolding client_data_front
IsUtf8-text kind challenge origin cross u =
    let ascii : (xs : List ℕ) → are_ascii xs ≡ true → IsUtf8 xs = IsUtf8-are_ascii in
    IsUtf8-append _ _
    (IsUtf8-append _ _
    (IsUtf8-append _ _
    (IsUtf8-append _ _
    (IsUtf8-append _ _
    (IsUtf8-append _ _
    (IsUtf8-append _ _
    (IsUtf8-append _ _ (ascii (codes "{\"type\":") refl) (IsUtf8-quoted (type_of kind) (IsUtf8-type_of kind)))
    (ascii (codes ",\"challenge\":") refl)) (IsUtf8-quoted (challenge_text_of challenge) (IsUtf8-challenge challenge)))
    (ascii (codes ",\"origin\":") refl)) (IsUtf8-quoted origin u))
    (ascii (codes ",\"crossOrigin\":") refl)) (IsUtf8-truth cross))
    (ascii (codes "}") refl)

pub is_text-text : (kind : CeremonyType) (challenge origin : List ℕ) (cross : Bool) → IsUtf8 origin
    → is_text (client_data_text kind challenge origin cross) ≡ true
unfolding client_data_front
is_text-text kind challenge origin cross u = is_utf8-from_IsUtf8 _ (IsUtf8-text kind challenge origin cross u)
