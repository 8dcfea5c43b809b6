-- What is owed of `extensions_front`.
use Rattle.std.proofs.Common.{◌∙◌, ap, option_map, sym}
use Rattle.ccbor.specs.Viewing.{shown_pairs}
use Rattle.authdata.proofs.Fronts.{no_map, no_pairs_in, other_keys, other_map}
use Rattle.authdata.proofs.parts.extensions_front.Goals as goal

pub returns-in_default : goal.returns-in_default
returns-in_default c = no_map _ c.in_default.ensures.none

pub returns-in_default-as_map : goal.returns-in_default-as_map
returns-in_default-as_map c = other_map _ _ _ c.in-Ok.ensures.only (no_pairs_in _ (sym c.as_map.ensures ∙ ap (option_map shown_pairs) c.in_default-as_map.is))

pub returns-then-not-has_text_keys : goal.returns-then-not-has_text_keys
returns-then-not-has_text_keys c = other_map _ _ _ c.in-Ok.ensures.only (other_keys _ _ (sym c.as_map.ensures ∙ ap (option_map shown_pairs) c.in-Some.is)
    (λ keys. let t = c.has_text_keys.ensures.1 keys in let f = c.if-not-has_text_keys.true in absurd cc))
