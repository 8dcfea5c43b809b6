-- Members that are lists.
use Rattle.std.proofs.Common.{◌≡◌, ℕ, List, codes, map, sym, ap, ◌∙◌, inl, inr, Some}
use Rattle.std.specs.Prelude.{option_and_then}
use Rattle.serde_json.specs.Data.{Data}
use Rattle.serde_json.specs.Find.{as_array, as_i64, as_number, as_str}
use Rattle.serde_json.specs.View.{items_view, view}
use Rattle.serde_json.specs.declared.value.Value.{Value}
use Rattle.cose.specs.declared.key.Alg.{Alg}
use Rattle.cose.specs.Keys.{number_of}
use Rattle.json_lines.proofs.Lists.{mapped, none_of}
use Rattle.json_lines.specs.Faults.{AreItems}
use Rattle.json_lines.specs.Members.{member}
use Rattle.site_acts.specs.Lines.{HasAlgorithms, HasTexts}

pub algorithms_are : (d m : Data) (values : List Value) (algs : List Alg) → member (codes "algorithms") d ≡ Some m → as_array m ≡ Some (items_view values)
    → map (λ value. option_and_then as_i64 (as_number (view value))) values ≡ map (λ alg. Some (number_of alg)) algs → HasAlgorithms d algs
algorithms_are d m values algs there list same =
    inl (map view values, ap (option_and_then as_array) there ∙ list, mapped (λ value. option_and_then as_i64 (as_number value)) view values ∙ same)

module _ {T : Type 0} (text_of : T → List ℕ) where
  pub texts_are : (name : List ℕ) (d : Data) (values : List Value) (list : List T) → AreItems name d values
      → map (λ value. as_str (view value)) values ≡ map (λ text. Some (text_of text)) list
      → HasTexts name d (map text_of list)
  texts_are name d values list (inl is) same =
      inl (map view values, is, mapped as_str view values ∙ same ∙ sym (mapped (λ text. Some text) text_of list))
  texts_are name d values list (inr (none, empty)) same =
      inr (none, ap (map text_of) (none_of _ list (sym same ∙ ap (map (λ value. as_str (view value))) empty)))
