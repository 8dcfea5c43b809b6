-- The values of the credentials' maps, one after the other.
use Rattle.std.proofs.Common.{◌≡◌, ◌<◌, ℕ, List, [], ◌∷◌, ◌++◌, length, sym, ap, ◌∙◌, subst, take, get_or, ◌+◌}
use Rattle.std.proofs.Common.{map as each}
use Rattle.std.proofs.lemmas.List.{map-append, take_more}
use Rattle.refusal_order.specs.Lines.{Each}
use Rattle.refusal_order.proofs.Laws.{each_joined}
use Rattle.ccbor.specs.Item.{Item}
use Rattle.ccbor.specs.Canon.{Fits, ItemsFit}
use Rattle.ccbor.specs.View.{items_of}
use Rattle.authenticator.specs.State.{CredentialSource}
use Rattle.authenticator.specs.Saved.{IsSource, source_item}
use Rattle.authenticator.specs.Views.{credential_source_view, credential_sources_view}
use Rattle.authenticator.specs.declared.credential.StoredCredential.{StoredCredential}
use Rattle.authenticator.proofs.SavedMaps.{items_fit-one_more}

-- these are the values of the credentials' maps, each of which fits
pub record AreValues (cs : List CredentialSource) (seen : List Item) : Type 0 where
  pub sources : Each IsSource cs
  pub fit : ItemsFit 2 (items_of (each source_item cs))
  pub values : seen ≡ each source_item cs

one_value : (cs : List CredentialSource) (c : CredentialSource) (values : List Item) (v : Item) → AreValues cs values → IsSource c → Fits 2 (source_item c)
    → v ≡ source_item c → AreValues (cs ++ c ∷ []) (values ++ v ∷ [])
one_value cs c values v are is fits value = record {
  sources = each_joined IsSource cs (c ∷ []) are.sources (is, tt);
  fit = items_fit-one_more cs c are.fit fits;
  values = ap (λ (l : List Item). l ++ v ∷ []) are.values ∙ ap (λ (x : Item). each source_item cs ++ x ∷ []) value ∙ sym (map-append source_item cs (c ∷ []));
}

-- the credential at a place is the next
pub next_value : (cs : List StoredCredential) (i : ℕ) (c : StoredCredential) (values : List Item) (v : Item) → i < length cs → get_or cs i c ≡ c
    → AreValues (credential_sources_view (take i cs)) values → IsSource (credential_source_view c) → Fits 2 (source_item (credential_source_view c))
    → v ≡ source_item (credential_source_view c) → AreValues (credential_sources_view (take (i + 1) cs)) (values ++ v ∷ [])
next_value cs i c values v lt at are is fits value =
    let more : take (i + 1) cs ≡ take i cs ++ c ∷ [] = take_more cs i c lt ∙ ap (λ (x : StoredCredential). take i cs ++ x ∷ []) at in
    let seen : credential_sources_view (take (i + 1) cs) ≡ credential_sources_view (take i cs) ++ credential_source_view c ∷ [] =
    ap credential_sources_view more ∙ map-append credential_source_view (take i cs) (c ∷ []) in
    subst (λ (l : List CredentialSource). AreValues l (values ++ v ∷ [])) (sym seen)
    (one_value (credential_sources_view (take i cs)) (credential_source_view c) values v are is fits value)
