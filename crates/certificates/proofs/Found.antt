-- What the loops over extensions keep.
use Rattle.std.proofs.Common.{◌≡◌, ℕ, ◌<◌, ◌≤◌, true, false, List, [], ◌∷◌, ◌++◌, length, Option, Some, None, Result, Ok, Err}
use Rattle.std.proofs.Common.{refl, sym, ap, ◌∙◌, arith}
use Rattle.std.specs.Prelude.{IfOk, is_some, option_map}
use Rattle.der.proofs.Steps.{IsBytes}
use Rattle.certificates.specs.declared.extension.Extension.{Extension}
use Rattle.certificates.specs.declared.error.Error.{Error}
use Rattle.certificates.specs.Extensions.{ExtensionForm, extension_view, found_in, AreListed, AreExtensions}
use Rattle.certificates.specs.ExtensionReading.{extension_at}
use Rattle.certificates.specs.Walks.{kept}
use Rattle.certificates.proofs.Listing.{extension_takes, Walked, walked_none, walked_more, walked_all, walked_stops, found_more, Apart, apart_none, apart_more, twice, next_is, distinct_all, same_list}

-- ---- the first with an identifier

pub record FirstSoFar (content rest identifier : List ℕ) (o : Option ExtensionForm) : Type 0 where
  pub front : List ExtensionForm
  pub walked : Walked front content rest
  pub is : o ≡ found_in identifier front

pub first_begins : (content identifier : List ℕ) → IsBytes content → FirstSoFar content content identifier None
first_begins content identifier fits = record { front = []; walked = walked_none content fits; is = refl }

pub first_goes_on : (content rest identifier : List ℕ) (o : Option ExtensionForm) (e : ExtensionForm) (after : List ℕ) (p : Option ExtensionForm)
    → FirstSoFar content rest identifier o → extension_at rest ≡ Ok (e, after) → p ≡ kept identifier o e → FirstSoFar content after identifier p
first_goes_on content rest identifier o e after p h at is =
    record {
      front = h.front ++ e ∷ [];
      walked = walked_more h.front content rest e after h.walked at;
      is = is ∙ ap (λ (x : Option ExtensionForm). kept identifier x e) h.is ∙ sym (found_more identifier h.front e);
    }

pub first_shorter : (content rest identifier : List ℕ) (o : Option ExtensionForm) (e : ExtensionForm) (after : List ℕ) → FirstSoFar content rest identifier o
    → extension_at rest ≡ Ok (e, after) → length after < length rest
first_shorter content rest identifier o e after h at = (extension_takes rest (e, after) h.walked.rest_fits at).shorter

pub first_stops : (content rest identifier : List ℕ) (o : Option ExtensionForm) (d : Error) → FirstSoFar content rest identifier o → 0 < length rest
    → extension_at rest ≡ Err d → (es : List ExtensionForm) → AreListed es content → ⊥
first_stops content rest identifier o d h some at = walked_stops h.front content rest d h.walked (λ is. omega (arith, is, some)) at

pub first_ends : (content rest identifier : List ℕ) (o : Option ExtensionForm) → FirstSoFar content rest identifier o → length rest ≤ 0
    → (es : List ExtensionForm) × AreListed es content × (o ≡ found_in identifier es)
first_ends content rest identifier o h none = (h.front, walked_all h.front content rest h.walked (omega (arith, none)), h.is)

-- ---- none twice

pub record DistinctSoFar (content rest : List ℕ) : Type 0 where
  pub front : List ExtensionForm
  pub walked : Walked front content rest
  pub apart : Apart front rest

pub distinct_begins : (content : List ℕ) → IsBytes content → DistinctSoFar content content
distinct_begins content fits = record { front = []; walked = walked_none content fits; apart = apart_none content }

-- what `first` found of the extensions after this one
abbrev pub Later : List ℕ → ExtensionForm → Option ExtensionForm → Type 0
Later after e o = (es : List ExtensionForm) × AreListed es after × (o ≡ found_in e.identifier es)

pub distinct_goes_on : (content rest : List ℕ) (e : ExtensionForm) (after : List ℕ) → DistinctSoFar content rest → extension_at rest ≡ Ok (e, after)
    → Later after e None → DistinctSoFar content after
distinct_goes_on content rest e after h at later =
    record {
      front = h.front ++ e ∷ [];
      walked = walked_more h.front content rest e after h.walked at;
      apart = apart_more h.front content rest e after later.0 h.walked at later.1 (sym later.2) h.apart;
    }

pub distinct_shorter : (content rest : List ℕ) (e : ExtensionForm) (after : List ℕ) → DistinctSoFar content rest → extension_at rest ≡ Ok (e, after)
    → length after < length rest
distinct_shorter content rest e after h at = (extension_takes rest (e, after) h.walked.rest_fits at).shorter

pub distinct_stops : (content rest : List ℕ) (d : Error) → DistinctSoFar content rest → 0 < length rest → extension_at rest ≡ Err d
    → (es : List ExtensionForm) → AreExtensions es content → ⊥
distinct_stops content rest d h some at es k = walked_stops h.front content rest d h.walked (λ is. omega (arith, is, some)) at es k.listed

pub later_stops : (content rest : List ℕ) (e : ExtensionForm) (after : List ℕ) → DistinctSoFar content rest → extension_at rest ≡ Ok (e, after)
    → ((gs : List ExtensionForm) → AreListed gs after → ⊥) → (es : List ExtensionForm) → AreExtensions es content → ⊥
later_stops content rest e after h at none es k =
    let n = next_is h.front es content rest e after h.walked at k.listed in none n.more n.listed

pub repeated : (content rest : List ℕ) (e : ExtensionForm) (after : List ℕ) (x : ExtensionForm) → DistinctSoFar content rest → extension_at rest ≡ Ok (e, after)
    → Later after e (Some x) → (es : List ExtensionForm) → AreExtensions es content → ⊥
repeated content rest e after x h at later = twice h.front content rest e after later.0 x h.walked at later.1 (sym later.2)

pub distinct_ends : (content rest : List ℕ) → DistinctSoFar content rest → length rest ≤ 0 → (es : List ExtensionForm) × AreExtensions es content
distinct_ends content rest h none = (h.front, distinct_all h.front content rest h.walked h.apart (omega (arith, none)))

-- by what `first` answered

pub repeated_of : (content rest : List ℕ) (e : ExtensionForm) (after : List ℕ) (o : Option Extension) → DistinctSoFar content rest
    → extension_at rest ≡ Ok (e, after) → Later after e (option_map extension_view o) → is_some o ≡ true
    → (es : List ExtensionForm) → AreExtensions es content → ⊥
repeated_of content rest e after (Some x) h at later is = repeated content rest e after (extension_view x) h at later
repeated_of content rest e after None h at later is = absurd cc

pub distinct_goes_on_of : (content rest : List ℕ) (e : ExtensionForm) (after : List ℕ) (o : Option Extension) → DistinctSoFar content rest
    → extension_at rest ≡ Ok (e, after) → Later after e (option_map extension_view o) → is_some o ≡ false → DistinctSoFar content after
distinct_goes_on_of content rest e after (Some x) h at later is = absurd cc
distinct_goes_on_of content rest e after None h at later is = distinct_goes_on content rest e after h at later

-- what was found of extensions that are distinct
pub found_of : (content identifier : List ℕ) (r : Result (Option Extension) Error) → ((es : List ExtensionForm) × AreExtensions es content)
    → IfOk r (λ o. (es : List ExtensionForm) × AreListed es content × (option_map extension_view o ≡ found_in identifier es))
    → IfOk r (λ o. (es : List ExtensionForm) × AreExtensions es content × (option_map extension_view o ≡ found_in identifier es))
found_of content identifier (Ok o) k h =
    let same : h.0 ≡ k.0 = same_list h.0 k.0 content h.1 k.1.listed in
    (k.0, k.1, h.2 ∙ ap (found_in identifier) same)
found_of content identifier (Err e) k h = tt
