-- Lists that are answered, piece by piece.
use Rattle.std.proofs.Common.{◌≡◌, ◌<◌, ◌+◌, ◌++◌, ◌/◌, ◌%◌, ℕ, List, [], ◌∷◌, length, map, take, get_or, slice_index, refl, sym, ap, ◌∙◌}
use Rattle.std.specs.List.{concat}
use Rattle.std.proofs.lemmas.List.{append-nil, append_assoc, map_more}
use Rattle.hex.specs.Hex.{encode_lower, encode_with, lower_digits}
use Rattle.hidframe.specs.declared.Packet.{Packet}
use Rattle.key_program.specs.Told.{packet_line, packet_lines}

encode_joined : (t xs ys : List ℕ) → encode_with t (xs ++ ys) ≡ encode_with t xs ++ encode_with t ys
unfolding encode_with
encode_joined t [] ys = refl
encode_joined t (x ∷ xs) ys = ap (λ l. slice_index t (x / 16) ∷ slice_index t (x % 16) ∷ l) (encode_joined t xs ys)

pub lower_joined : (xs ys : List ℕ) → encode_lower (xs ++ ys) ≡ encode_lower xs ++ encode_lower ys
lower_joined xs ys = encode_joined lower_digits xs ys

pub lower_none : encode_lower [] ≡ []
unfolding encode_with
lower_none = refl

concat_push : (xss : List (List ℕ)) (xs : List ℕ) → concat (xss ++ xs ∷ []) ≡ concat xss ++ xs
concat_push [] xs = append-nil xs
concat_push (x ∷ xss) xs = ap (λ l. x ++ l) (concat_push xss xs) ∙ sym (append_assoc x (concat xss) xs)

pub one_more : (told0 told1 told2 : List ℕ) (ps : List Packet) (i : ℕ) (d : Packet) → i < length ps → told1 ≡ told0 ++ packet_lines (take i ps)
    → told2 ≡ told1 ++ packet_line (get_or ps i d) → told2 ≡ told0 ++ packet_lines (take (i + 1) ps)
one_more told0 told1 told2 ps i d within before more =
    let p = packet_line (get_or ps i d) in
    more ∙ ap (λ l. l ++ p) before ∙ append_assoc told0 (packet_lines (take i ps)) p
    ∙ ap (λ l. told0 ++ l) (sym (ap concat (map_more packet_line ps i d within) ∙ concat_push (map packet_line (take i ps)) p))
