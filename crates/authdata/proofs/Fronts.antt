-- A key, or a map of extensions, at the front is the one value there.
use Rattle.std.proofs.Common.{◌≡◌, ℕ, ◌≤◌, List, ◌++◌, length, take, refl, sym, ap, subst, ◌∙◌, arith}
use Rattle.std.proofs.lemmas.Option.{same_Some}
use Rattle.std.proofs.lemmas.List.{take_at, length-append}
use Rattle.std.specs.Prelude.{Some, None}
use Rattle.ccbor.specs.Access.{pairs_in}
use Rattle.ccbor.specs.Item.{Item, Pairs, map}
use Rattle.ccbor.specs.Canon.{Canon}
use Rattle.cose.specs.declared.key.CoseKey.{CoseKey}
use Rattle.cose.specs.Keys.{item_of, KeyOf}
use Rattle.cose.proofs.KeyLemmas.{key_canon}
use Rattle.authdata.specs.Layout.{HasTextKeys, key_bytes}
use Rattle.authdata.specs.Private.{BeginsWithExtensions}
use Rattle.authdata.specs.Refusals.{BeginsWithKey}

front_of : (bs a rest : List ℕ) → bs ≡ a ++ rest → take (length a) bs ≡ a
front_of bs a rest e = rw e (take_at a rest (length a) refl)

within : (bs a rest : List ℕ) → bs ≡ a ++ rest → length a ≤ length bs
within bs a rest e = omega (arith, ap length e, length-append a rest)

front_canon : (bs : List ℕ) (h : BeginsWithKey bs) → Canon (item_of h.0) (take (length (key_bytes h.0)) bs)
front_canon bs h = rw (front_of bs (key_bytes h.0) h.1 h.3) (key_canon h.0 h.2)

pub other_value : (bs : List ℕ) (v : Item) (n : ℕ) → ((w : Item) (m : ℕ) → m ≤ length bs → Canon w (take m bs) → (w ≡ v) × (m ≡ n))
    → ((k : CoseKey) → KeyOf k v → ⊥) → BeginsWithKey bs → ⊥
other_value bs v n only none h =
    let same = only (item_of h.0) (length (key_bytes h.0)) (within bs (key_bytes h.0) h.1 h.3) (front_canon bs h) in
    none h.0 (h.2, sym same.0)

pub no_value : (bs : List ℕ) → ((w : Item) (m : ℕ) → Canon w (take m bs) → ⊥) → BeginsWithKey bs → ⊥
no_value bs none h = none (item_of h.0) (length (key_bytes h.0)) (front_canon bs h)

map_canon : (bs : List ℕ) (h : BeginsWithExtensions bs) → Canon (map h.2.0) (take (length h.0) bs)
map_canon bs h = rw (front_of bs h.0 h.1 h.3) h.2.2

pub other_map : (bs : List ℕ) (v : Item) (n : ℕ) → ((w : Item) (m : ℕ) → m ≤ length bs → Canon w (take m bs) → (w ≡ v) × (m ≡ n))
    → ((ps : Pairs) → HasTextKeys ps → v ≡ map ps → ⊥) → BeginsWithExtensions bs → ⊥
other_map bs v n only none h =
    let same = only (map h.2.0) (length h.0) (within bs h.0 h.1 h.3) (map_canon bs h) in
    none h.2.0 h.2.1 (sym same.0)

pub no_map : (bs : List ℕ) → ((w : Item) (m : ℕ) → Canon w (take m bs) → ⊥) → BeginsWithExtensions bs → ⊥
no_map bs none h = none (map h.2.0) (length h.0) (map_canon bs h)

pub no_pairs_in : (v : Item) → pairs_in v ≡ None → (ps : Pairs) → HasTextKeys ps → v ≡ map ps → ⊥
no_pairs_in v none ps keys e = let some = ap pairs_in e in absurd cc

pub other_keys : (v : Item) (qs : Pairs) → pairs_in v ≡ Some qs → (HasTextKeys qs → ⊥) → (ps : Pairs) → HasTextKeys ps → v ≡ map ps → ⊥
other_keys v qs some none ps keys e =
    let both : Some ps ≡ Some qs = sym (ap pairs_in e) ∙ some in
    none (subst HasTextKeys (same_Some ps qs both) keys)
