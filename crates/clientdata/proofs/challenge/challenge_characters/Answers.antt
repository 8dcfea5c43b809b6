-- What is owed of `challenge_characters`.
use Rattle.std.proofs.Common.{◌≡◌, ◌++◌, ℕ, List, [], Result, Ok, Err, OnOk, drop, length, ap, ◌∙◌, append-nil, arith, refl, rules, subst, sym}
use Rattle.std.proofs.lemmas.List.{drop_all}
use Rattle.base64.specs.Engines.{url_safe_no_pad}
use Rattle.base64.specs.GeneralPurpose.{IsEncodedOver, encode_of, encoded_size_of}
use Rattle.base64.specs.declared.encode.EncodeSliceError.{EncodeSliceError}
use Rattle.clientdata.specs.Expected.{ArePlain}
use Rattle.clientdata.specs.Serialised.{challenge_text_of}
use Rattle.clientdata.proofs.Plain.{challenge_plain}
use Rattle.clientdata.proofs.challenge.challenge_characters.Goals as goal

-- 32 bytes are encoded over 43 whole
over : (r : Result ℕ EncodeSliceError) (n : ℕ) (m old new : List ℕ) → r ≡ Ok n → length m ≡ 32 → length old ≡ 43
    → OnOk r (IsEncodedOver url_safe_no_pad m old new) → new ≡ challenge_text_of m
unfolding challenge_text_of
over (Err e) n m old new is a b w = absurd (cc)
over (Ok k) n m old new is a b w =
    let none : drop 43 old ≡ [] = drop_all 43 old (omega (arith, b)) in
    w ∙ ap (λ (n : ℕ). encode_of url_safe_no_pad m ++ drop (encoded_size_of url_safe_no_pad n) old) a
    ∙ ap (λ (l : List ℕ). encode_of url_safe_no_pad m ++ l) none
    ∙ append-nil (encode_of url_safe_no_pad m)

pub returns : goal.returns
returns c =
    let len : length c.args.challenge.now ≡ 32 = search rules in
    let text : c.encode_slice.new.output ≡ challenge_text_of c.args.challenge.now =
    over c.encode_slice.result c.unwrap.result c.args.challenge.now _ c.encode_slice.new.output c.unwrap.ensures len refl c.encode_slice.ensures.written in
    record { text = text; plain = subst ArePlain (sym text) (challenge_plain c.args.challenge.now c.fits-challenge) }
