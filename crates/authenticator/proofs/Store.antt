-- The credentials that stored ones stand for.
use Rattle.std.proofs.Common.{◌≡◌, ◌<◌, ℕ, zero, suc, List, [], ◌∷◌, ◌++◌, Bool, true, false, ◌≤◌, Some, None, sym, ◌∙◌, ap, arith, refl, length}
use Rattle.std.proofs.Common.{slice_index_or, slice_set, drop, map, reverse, take, take_all, append-nil, Bor, Vec, Global}
use Rattle.std.specs.Prelude.{Option, filter, find, option_map, option_to_list, position, remove, IfSome, MatchOption}
use Rattle.std.proofs.Math.Seq.{drop-cons}
use Rattle.std.proofs.lemmas.List.{length-map, map-append, reverse-append}
use Rattle.authenticator.proofs.Lists.{any_mapped, filter_mapped, find_mapped, find_passes, map_mapped, option_map_map}
use Rattle.std.specs.List.{list_any}
use Rattle.std.specs.Str.{bytes_eq}
use Rattle.std.proofs.lemmas.Slice.Eq.{bytes_eq-Decides}
use Rattle.ctap_requests.specs.Entities.{CredentialDescriptor}
use Rattle.ctap_requests.specs.Requests.{CreationRequest}
use Rattle.ctap_requests.specs.RequestView.{descriptor_view, lent_descriptor_view}
use Rattle.ctap_requests.specs.declared.request.Descriptor.{Descriptor}
use Rattle.ctap_requests.specs.declared.request.DescriptorView.{DescriptorView}
use Rattle.std.proofs.lemmas.Grind.{common_steps}
use Rattle.std.proofs.lemmas.List.Quantifiers.{position-Some}
use Rattle.authenticator.specs.State.{CredentialSource}
use Rattle.authenticator.specs.Credentials.{credential_of, is_resident_for, is_resident_of, resident_ids, with_sign_count, without_first}
use Rattle.authenticator.specs.Private.{Overwrites, StandsAt, stored_for, without}
use Rattle.authenticator.specs.Views.{credential_source_view, credential_sources_view}
use Rattle.authenticator.specs.Orders.{candidates, creation_flags, is_excluded, is_stored_for, is_true, kept}
use Rattle.authenticator.specs.declared.credential.StoredCredential.{StoredCredential}

-- a position that is none goes on
tail_none : {X : Type 0} (p : X → Bool) (x : X) (xs : List X) → position p (x ∷ xs) ≡ None → (p x ≡ false) × (position p xs ≡ None)
tail_none p x xs none = grind (arith, common_steps, none)

-- ---- a counter is stored

set_there : (id : List ℕ) (n : ℕ) (xs : List StoredCredential) (i : ℕ) (d y : StoredCredential) → i < length xs → bytes_eq (slice_index_or xs i d).id id ≡ true
    → ((k : ℕ) → k < i → bytes_eq (slice_index_or xs k d).id id ≡ false)
    → credential_source_view y ≡ record (credential_source_view (slice_index_or xs i d)) { sign_count = n }
    → credential_sources_view (slice_set xs i y) ≡ with_sign_count id n (credential_sources_view xs)
set_there id n [] i d y lt is none same = absurd (omega arith)
set_there id n (x ∷ xs) zero d y lt is none same = grind (arith, common_steps, is, same)
set_there id n (x ∷ xs) (suc i) d y lt is none same =
    grind (arith, common_steps, none 0 (omega arith), set_there id n xs i d y (omega arith) is (λ k l. none (suc k) (omega arith)) same)

pub set_at_place : (id : List ℕ) (n : ℕ) (xs : List StoredCredential) (i : ℕ) (d y : StoredCredential) → position (λ c. bytes_eq c.id id) xs ≡ Some i
    → credential_source_view y ≡ record (credential_source_view (slice_index_or xs i d)) { sign_count = n }
    → credential_sources_view (slice_set xs i y) ≡ with_sign_count id n (credential_sources_view xs)
set_at_place id n xs i d y found same =
    let p = position-Some (λ (c : StoredCredential). bytes_eq c.id id) xs i d found in set_there id n xs i d y p.0 p.1 p.2 same

position_mapped : {X Y : Type 0} (v : X → Y) (p : Y → Bool) (xs : List X) → position p (map v xs) ≡ position (λ x. p (v x)) xs
position_mapped v p [] = refl
position_mapped v p (x ∷ xs) = grind (arith, common_steps, position_mapped v p xs)

pub set_standing : (n : ℕ) (xs : List StoredCredential) (i : ℕ) (d y : StoredCredential)
    → credential_source_view y ≡ record (credential_source_view (slice_index_or xs i d)) { sign_count = n }
    → (id : List ℕ) → StandsAt id (credential_sources_view xs) i
    → credential_sources_view (slice_set xs i y) ≡ with_sign_count id n (credential_sources_view xs)
set_standing n xs i d y same id stands =
    set_at_place id n xs i d y (sym (position_mapped credential_source_view (λ (c : CredentialSource). bytes_eq c.id id) xs) ∙ stands.1) same

-- ---- where one stands

find_none : {X : Type 0} (p : X → Bool) (xs : List X) → position p xs ≡ None → find p xs ≡ None
find_none p [] none = refl
find_none p (x ∷ xs) none = grind (arith, common_steps, tail_none p x xs none, find_none p xs)

find_there : {X : Type 0} (p : X → Bool) (xs : List X) (i : ℕ) (d : X) → i < length xs → p (slice_index_or xs i d) ≡ true
    → ((k : ℕ) → k < i → p (slice_index_or xs k d) ≡ false) → find p xs ≡ Some (slice_index_or xs i d)
find_there p [] i d lt is none = absurd (omega arith)
find_there p (x ∷ xs) zero d lt is none = rw is refl
find_there p (x ∷ xs) (suc i) d lt is none =
    grind (arith, common_steps, none 0 (omega arith), find_there p xs i d (omega arith) is (λ k l. none (suc k) (omega arith)))

pub stands_nowhere : (id : List ℕ) (xs : List StoredCredential) → position (λ c. bytes_eq c.id id) xs ≡ None
    → credential_of id (credential_sources_view xs) ≡ None
stands_nowhere id xs none =
    find_mapped credential_source_view (λ c. bytes_eq c.id id) xs ∙ ap (option_map credential_source_view) (find_none (λ c. bytes_eq c.id id) xs none)

pub stands_at : (id : List ℕ) (xs : List StoredCredential) (i : ℕ) (d : StoredCredential) → position (λ c. bytes_eq c.id id) xs ≡ Some i
    → StandsAt id (credential_sources_view xs) i
    × (credential_of id (credential_sources_view xs) ≡ Some (credential_source_view (slice_index_or xs i d)))
stands_at id xs i d at =
    let p = position-Some (λ (c : StoredCredential). bytes_eq c.id id) xs i d at in
    let within : i < length (credential_sources_view xs) = omega (arith, p.0, length-map xs credential_source_view) in (
      (within, position_mapped credential_source_view (λ c. bytes_eq c.id id) xs ∙ at),
      find_mapped credential_source_view (λ c. bytes_eq c.id id) xs
          ∙ ap (option_map credential_source_view) (find_there (λ (c : StoredCredential). bytes_eq c.id id) xs i d p.0 p.1 p.2),
    )

-- ---- one is removed

pub none_removed : (test : CredentialSource → Bool) (xs : List StoredCredential) → position (λ c. test (credential_source_view c)) xs ≡ None
    → without_first test (credential_sources_view xs) ≡ credential_sources_view xs
none_removed test [] none = refl
none_removed test (x ∷ xs) none = grind (arith, common_steps, tail_none (λ c. test (credential_source_view c)) x xs none, none_removed test xs)

removed_there : (test : CredentialSource → Bool) (xs : List StoredCredential) (i : ℕ) (d : StoredCredential) → i < length xs
    → test (credential_source_view (slice_index_or xs i d)) ≡ true
    → ((k : ℕ) → k < i → test (credential_source_view (slice_index_or xs k d)) ≡ false)
    → without_first test (credential_sources_view xs) ≡ credential_sources_view (remove xs i)
removed_there test [] i d lt is none = absurd (omega arith)
removed_there test (x ∷ xs) zero d lt is none = rw is refl
removed_there test (x ∷ xs) (suc i) d lt is none =
    grind (arith, common_steps, none 0 (omega arith), removed_there test xs i d (omega arith) is (λ k l. none (suc k) (omega arith)))

pub removed_at : (test : CredentialSource → Bool) (xs : List StoredCredential) (o : Option ℕ) → o ≡ position (λ c. test (credential_source_view c)) xs
    → MatchOption o (without_first test (credential_sources_view xs) ≡ credential_sources_view xs)
    (λ i. (i < length xs) × (without_first test (credential_sources_view xs) ≡ credential_sources_view (remove xs i)))
removed_at test xs None is = none_removed test xs (sym is)
removed_at test [] (Some i) is = let bad : None ≡ Some i = sym is in absurd cc
removed_at test (x ∷ xs) (Some i) is =
    let p = position-Some (λ (c : StoredCredential). test (credential_source_view c)) (x ∷ xs) i x (sym is) in
    (p.0, removed_there test (x ∷ xs) i x p.0 p.1 p.2)

-- ---- found ones

pub found_is : (id : List ℕ) (xs : List StoredCredential) (o : Option (Bor StoredCredential)) → option_map (λ c. c.now) o ≡ find (λ c. bytes_eq c.id id) xs
    → option_map (λ c. credential_source_view c.now) o ≡ credential_of id (credential_sources_view xs)
found_is id xs o is = sym (option_map_map credential_source_view (λ (b : Bor StoredCredential). b.now) o) ∙ ap (option_map credential_source_view) is
    ∙ sym (find_mapped credential_source_view (λ c. bytes_eq c.id id) xs)

pub resident_ids_are : (rp : List ℕ) (xs : List StoredCredential) (ids : List (List ℕ))
    → ids ≡ map (λ c. c.id) (filter (λ c. is_resident_for rp (credential_source_view c)) xs)
    → reverse ids ≡ resident_ids rp (credential_sources_view xs)
resident_ids_are rp xs ids is =
    ap reverse (is ∙ sym (map_mapped (λ (c : CredentialSource). c.id) credential_source_view (filter (λ c. is_resident_for rp (credential_source_view c)) xs))
    ∙ ap (map (λ (c : CredentialSource). c.id)) (sym (filter_mapped credential_source_view (is_resident_for rp) xs)))

-- the last of them comes first
pub ids_found : (rp : List ℕ) (xs : List StoredCredential) (i : ℕ) → length xs ≤ i → (later : List (List ℕ)) (last : Option (List ℕ))
    → later ++ option_to_list last ≡ map (λ c. c.id) (filter (λ c. is_resident_for rp (credential_source_view c)) (take i xs))
    → option_to_list last ++ reverse later ≡ resident_ids rp (credential_sources_view xs)
ids_found rp xs i all later last found =
    ends last ∙ resident_ids_are rp xs (later ++ option_to_list last)
    (found ∙ ap (λ t. map (λ (c : StoredCredential). c.id)
    (filter (λ (c : StoredCredential). is_resident_for rp (credential_source_view c)) t)) (take_all i xs all))
  where
    ends : (last : Option (List ℕ)) → option_to_list last ++ reverse later ≡ reverse (later ++ option_to_list last)
    ends None = ap reverse (sym (append-nil later))
    ends (Some id) = sym (reverse-append later (id ∷ []))

-- ---- descriptors

pub has_id : (id : List ℕ) (cs : List CredentialSource) (c : CredentialSource) → credential_of id cs ≡ Some c → c.id ≡ id
has_id id cs c is = (bytes_eq-Decides c.id id).0 (find_passes (λ (d : CredentialSource). bytes_eq d.id id) cs c is)

stored_is : (rp : List ℕ) (cs : List CredentialSource) (d : CredentialDescriptor) (c : CredentialSource) → Some c ≡ stored_for rp cs d
    → (is_stored_for rp cs d ≡ true) × (c.id ≡ d.id)
stored_is rp cs d c is = grind (arith, common_steps, is, has_id d.id cs c)

pub listed_at : (cs : List CredentialSource) (rp : List ℕ) (ds : List DescriptorView) (i : ℕ) (d : DescriptorView) (c : CredentialSource)
    (later : List (List ℕ)) → i < length ds
    → candidates cs rp (Some (map lent_descriptor_view (drop i ds))) ≡ candidates cs rp (Some (map lent_descriptor_view ds))
    → Some c ≡ stored_for rp cs (lent_descriptor_view (slice_index_or ds i d)) → later ≡ []
    → c.id ∷ reverse later ≡ candidates cs rp (Some (map lent_descriptor_view ds))
listed_at cs rp ds i d c later lt same found none =
    let is = stored_is rp cs (lent_descriptor_view (slice_index_or ds i d)) c found in
    let first : candidates cs rp (Some (map lent_descriptor_view (drop i ds))) ≡ (slice_index_or ds i d).id.now ∷ [] =
    rw (drop-cons ds i d lt) (rw is.0 refl) in
    ap (λ ids. c.id ∷ reverse ids) none ∙ ap (λ id. id ∷ []) is.1 ∙ sym first ∙ same

pub excluded_is : (rp : List ℕ) (cs : List CredentialSource) (o : Option (Vec Descriptor Global)) (v : Vec Descriptor Global) (ds : List Descriptor) (b : Bool)
    → o ≡ Some v → ds ≡ v.items
    → b ≡ list_any (λ d. is_stored_for rp cs (descriptor_view d)) ds → b ≡ is_excluded rp cs (option_map (λ v. map descriptor_view v.items) o)
excluded_is rp cs o v ds b is items any =
    rw is (any ∙ ap (list_any (λ (d : Descriptor). is_stored_for rp cs (descriptor_view d))) items
    ∙ sym (any_mapped descriptor_view (is_stored_for rp cs) v.items))

-- ---- what stays

map_remove : {X Y : Type 0} (f : X → Y) (xs : List X) (i : ℕ) → map f (remove xs i) ≡ remove (map f xs) i
map_remove f [] zero = refl
map_remove f [] (suc i) = refl
map_remove f (x ∷ xs) zero = refl
map_remove f (x ∷ xs) (suc i) = ap (λ ys. f x ∷ ys) (map_remove f xs i)

pub map_without : {X Y : Type 0} (f : X → Y) (xs : List X) (o : Option ℕ) → map f (without xs o) ≡ without (map f xs) o
map_without f xs None = refl
map_without f xs (Some i) = map_remove f xs i

within_map : {X Y : Type 0} (f : X → Y) (xs : List X) (o : Option ℕ) → IfSome o (λ i. i < length xs) → IfSome o (λ i. i < length (map f xs))
within_map f xs None lt = tt
within_map f xs (Some i) lt = omega (arith, lt, length-map xs f)

pub within_list : {X Y : Type 0} (f : X → Y) (xs : List X) (o : Option ℕ) → IfSome o (λ i. i < length (map f xs)) → IfSome o (λ i. i < length xs)
within_list f xs None lt = tt
within_list f xs (Some i) lt = omega (arith, lt, length-map xs f)

pub kept_is : (xs : List StoredCredential) (q : CreationRequest) (o : Option ℕ) → is_true (creation_flags q.options).rk ≡ true
    → o ≡ position (λ c. is_resident_of q.rp.id q.user.id (credential_source_view c)) xs
    → Overwrites (credential_sources_view xs) q o
kept_is xs q None rk is =
    record { within = tt; kept = rw rk (none_removed (is_resident_of q.rp.id q.user.id) xs (sym is)) }
kept_is xs q (Some i) rk is =
    let r = removed_at (is_resident_of q.rp.id q.user.id) xs (Some i) is in
    record { within = within_map credential_source_view xs (Some i) r.0; kept = rw rk (r.1 ∙ map_remove credential_source_view xs i) }

pub put_is : (xs zs : List StoredCredential) (q : CreationRequest) (o : Option ℕ) (new : StoredCredential) (c : CredentialSource)
    → Overwrites (credential_sources_view xs) q o
    → zs ≡ without xs o ++ new ∷ [] → credential_source_view new ≡ c
    → credential_sources_view zs ≡ kept (credential_sources_view xs) q ++ c ∷ []
put_is xs zs q o new c stays stored is =
    ap credential_sources_view stored ∙ map-append credential_source_view (without xs o) (new ∷ [])
    ∙ ap (λ l. l ++ credential_source_view new ∷ []) (map_without credential_source_view xs o ∙ sym stays.kept)
    ∙ ap (λ y. kept (credential_sources_view xs) q ++ y ∷ []) is
