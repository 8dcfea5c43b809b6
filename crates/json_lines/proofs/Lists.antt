-- Members that are lists.
use Rattle.std.proofs.Common.{◌≡◌, ℕ, List, [], ◌∷◌, map, refl, sym, ap, ◌∙◌, inl, inr, Some}
use Rattle.std.specs.Prelude.{Vec}
use Rattle.std.specs.Global.{Global}
use Rattle.base64.specs.GeneralPurpose.{encode_of}
use Rattle.base64.specs.Engines.{url_safe_no_pad}
use Rattle.serde_json.specs.Data.{Data}
use Rattle.serde_json.specs.Find.{as_str}
use Rattle.serde_json.specs.View.{view}
use Rattle.serde_json.specs.declared.value.Value.{Value}
use Rattle.json_lines.specs.Faults.{AreItems}
use Rattle.json_lines.specs.Members.{HasList}

pub mapped : {A B C : Type 0} (g : B → C) (f : A → B) (xs : List A) → map g (map f xs) ≡ map (λ x. g (f x)) xs
mapped g f [] = refl
mapped g f (x ∷ xs) = ap (λ l. g (f x) ∷ l) (mapped g f xs)

pub none_of : {A B : Type 0} (f : A → B) (xs : List A) → map f xs ≡ [] → xs ≡ []
none_of f [] is = refl
none_of f (x ∷ xs) is = absurd cc

pub list_is : (name : List ℕ) (d : Data) (values : List Value) (list : List (Vec ℕ Global)) → AreItems name d values
    → map (λ bytes. Some (encode_of url_safe_no_pad bytes.items)) list ≡ map (λ value. as_str (view value)) values
    → HasList name d (map (λ bytes. bytes.items) list)
list_is name d values list (inl is) same =
    inl (map view values, is, mapped as_str view values ∙ sym same ∙ sym (mapped (λ bytes. Some (encode_of url_safe_no_pad bytes)) (λ bytes. bytes.items) list))
list_is name d values list (inr (none, empty)) same =
    inr (none, ap (map (λ bytes. bytes.items)) (none_of _ list (same ∙ ap (map (λ value. as_str (view value))) empty)))
