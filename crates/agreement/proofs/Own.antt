-- Who answers for a relying party: its own credentials alone.
use Rattle.std.proofs.Common.{◌≡◌, ℕ, List, [], ◌∷◌, Option, Some, None, true, map, refl, sym, ◌∙◌, ap, subst, inl, inr}
use Rattle.std.specs.Prelude.{filter, find, option_map, option_to_list}
use Rattle.std.specs.List.{AllByRecursion as Each}
use Rattle.std.specs.Str.{bytes_eq}
use Rattle.std.proofs.lemmas.Bool.{cases_Bool}
use Rattle.std.proofs.lemmas.Option.{same_Some}
use Rattle.std.proofs.lemmas.List.Elements.{All-from_recursion, recursion_from_All}
use Rattle.ctap_requests.specs.Entities.{CredentialDescriptor}
use Rattle.ctap_replies.proofs.Texts.{and_right}
use Rattle.authenticator.specs.State.{CredentialSource}
use Rattle.authenticator.specs.Credentials.{credential_of, is_resident_for, with_sign_count}
use Rattle.authenticator.specs.Orders.{candidates, is_of, is_public_key, is_stored_for}
use Rattle.authenticator.specs.Laws.{IsUnique}
use Rattle.authenticator.proofs.Lists.{find_passes}
use Rattle.authenticator.proofs.Stored.{Keeper, all_reverse, each_weaker, keepers, same_id, with_at, with_other}

-- the id is that of a credential that is stored for this relying party
abbrev pub IsOwnId : List ℕ → List CredentialSource → List ℕ → Type 0
IsOwnId rp cs id = (c : CredentialSource) × (credential_of id cs ≡ Some c) × (c.rp_id ≡ rp)

pub own_party : (rp : List ℕ) (cs : List CredentialSource) (id : List ℕ) (c : CredentialSource) → IsOwnId rp cs id → credential_of id cs ≡ Some c → c.rp_id ≡ rp
own_party rp cs id c own found =
    let same : own.0 ≡ c = same_Some own.0 c (sym own.1 ∙ found) in ap (λ (x : CredentialSource). x.rp_id) (sym same) ∙ own.2

-- ---- a counter that has grown

own_with : (rp id : List ℕ) (n : ℕ) (cs : List CredentialSource) (k : List ℕ) → IsOwnId rp cs k → IsOwnId rp (with_sign_count id n cs) k
own_with rp id n cs k own = elim (cases_Bool (bytes_eq id k)) [
  | inl same ↦
      let is : id ≡ k = same_id id k same in (
        record own.0 { sign_count = n },
        subst (λ (j : List ℕ). credential_of j (with_sign_count id n cs) ≡ Some (record own.0 { sign_count = n })) is
            (with_at id n cs own.0 (ap (λ j. credential_of j cs) is ∙ own.1)),
        own.2,
      )
  | inr apart ↦ (own.0, with_other id n cs k apart ∙ own.1, own.2)
]

pub own_all : (rp id : List ℕ) (n : ℕ) (cs : List CredentialSource) (ids : List (List ℕ)) → Each (IsOwnId rp cs) ids
    → Each (IsOwnId rp (with_sign_count id n cs)) ids
own_all rp id n cs ids h = each_weaker (IsOwnId rp cs) (IsOwnId rp (with_sign_count id n cs)) (own_with rp id n cs) ids h

-- ---- who may answer

residents : (rp : List ℕ) (cs xs : List CredentialSource) → Each (Keeper cs) xs → Each (IsOwnId rp cs) (map (λ c. c.id) (filter (is_resident_for rp) xs))
residents rp cs [] h = tt
residents rp cs (x ∷ xs) h = elim (cases_Bool (is_resident_for rp x)) [
  | inl of_party ↦
      let own : IsOwnId rp cs x.id = (x, h.0, same_id x.rp_id rp (and_right x.resident (bytes_eq x.rp_id rp) of_party)) in
      rw of_party (own, residents rp cs xs h.1)
  | inr other ↦ rw other (residents rp cs xs h.1)
]

stored_for : (rp : List ℕ) (cs : List CredentialSource) (id : List ℕ) (o : Option CredentialSource) → credential_of id cs ≡ o → is_of rp o ≡ true
    → IsOwnId rp cs id
stored_for rp cs id None e h = absurd cc
stored_for rp cs id (Some c) e h = (c, e, same_id c.rp_id rp h)

listed : (rp : List ℕ) (cs : List CredentialSource) (ds : List CredentialDescriptor) (o : Option CredentialDescriptor) → find (is_stored_for rp cs) ds ≡ o
    → Each (IsOwnId rp cs) (option_to_list (option_map (λ d. d.id) o))
listed rp cs ds None e = tt
listed rp cs ds (Some d) e =
    let passes : is_stored_for rp cs d ≡ true = find_passes (is_stored_for rp cs) ds d e in
    (stored_for rp cs d.id (credential_of d.id cs) refl (and_right (is_public_key d.kind) (is_of rp (credential_of d.id cs)) passes), tt)

pub own_candidates : (cs : List CredentialSource) (rp : List ℕ) (allow : Option (List CredentialDescriptor)) → IsUnique cs
    → Each (IsOwnId rp cs) (candidates cs rp allow)
own_candidates cs rp None u =
    let ids = map (λ c. c.id) (filter (is_resident_for rp) cs) in
    recursion_from_All (IsOwnId rp cs) (candidates cs rp None)
    (all_reverse (IsOwnId rp cs) ids (All-from_recursion (IsOwnId rp cs) ids (residents rp cs cs (keepers cs u))))
own_candidates cs rp (Some ds) u = listed rp cs ds (find (is_stored_for rp cs) ds) refl
