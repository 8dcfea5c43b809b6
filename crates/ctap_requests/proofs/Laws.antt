-- What the bytes of a request say of it.
use Rattle.std.proofs.Common.{◌≡◌, ◌≢◌, ℕ, List, [], ◌∷◌, map, Option, Some, None, option_map, refl, sym, ap, subst, ◌∙◌}
use Rattle.std.proofs.lemmas.Option.{same_Some}
use Rattle.ccbor.specs.Item as of
use Rattle.ccbor.specs.Item.{Item, Pairs}
use Rattle.ccbor.specs.Canon.{head, before, Canon}
use Rattle.ccbor.proofs.Decoding.{same_item}
use Rattle.ctap_encoding.specs.Table.{record_of, gravest, any_map}
use Rattle.ctap_encoding.specs.Content.{Contents, item_of}
use Rattle.ctap_encoding.specs.Reading.{read_in}
use Rattle.ctap_encoding.proofs.Ordered.{IsOrdered}
use Rattle.ctap_encoding.proofs.Laws.{read_is, read_clean, unread_faulty, one_read}
use Rattle.ctap_encoding.proofs.Maps.{IsMapIfThere, read_maps}
use Rattle.ctap_requests.specs.Entities.{CredentialDescriptor, descriptor_members, descriptor_content, RpEntity, rp_members, UserEntity}
use Rattle.ctap_requests.specs.Entities.{user_members, CredentialParameters, parameters_members, parameters_content, CreationFlags}
use Rattle.ctap_requests.specs.Entities.{creation_options_members, creation_options_content, AssertionFlags, assertion_options_members}
use Rattle.ctap_requests.specs.Entities.{assertion_options_content}
use Rattle.ctap_requests.specs.Requests.{RequestMessage, make_credential, get_assertion, get_next_assertion, get_info, reset, CreationRequest}
use Rattle.ctap_requests.specs.Requests.{creation_members, creation_content, creation_item, AssertionRequest, assertion_members, assertion_content}
use Rattle.ctap_requests.specs.Requests.{assertion_item, RequestOf}
use Rattle.ctap_requests.specs.Pieces.{forget_creation, forget_assertion}
use Rattle.ctap_requests.specs.Status.{IsRequest}
use Rattle.ctap_requests.proofs.Ranks.{clean}

-- ---- the tables' keys are in order

pub creation_ordered : IsOrdered (record_of creation_members)
unfolding before head
creation_ordered = (
  refl,
  tt,
  (
    refl,
    (refl, tt, (refl, tt, tt)),
    (
      refl,
      (refl, tt, (refl, tt, (refl, tt, tt))),
      (refl, (refl, tt, (refl, tt, tt)), (refl, (refl, tt, (refl, tt, tt)), (refl, tt, (refl, (refl, tt, (refl, tt, (refl, tt, tt))), tt)))),
    ),
  ),
)

pub assertion_ordered : IsOrdered (record_of assertion_members)
unfolding before head
assertion_ordered = (refl, tt, (refl, tt, (refl, (refl, tt, (refl, tt, tt)), (refl, tt, (refl, (refl, tt, (refl, tt, tt)), tt)))))

-- ---- a record has one content

-- what is made into something and back is itself, in a list and where it may be absent
map_back : {A B : Type 0} (f : A → B) (g : B → A) → ((a : A) → g (f a) ≡ a) → (xs : List A) → map g (map f xs) ≡ xs
map_back f g back [] = refl
map_back f g back (x ∷ xs) = rw (back x, map_back f g back xs) refl

option_back : {A B : Type 0} (f : A → B) (g : B → A) → ((a : A) → g (f a) ≡ a) → (o : Option A) → option_map g (option_map f o) ≡ o
option_back f g back (Some x) = rw (back x) refl
option_back f g back None = refl

abbrev descriptor_of : Contents descriptor_members → CredentialDescriptor
descriptor_of c = record { id = c.0; kind = c.1.0 }

abbrev rp_of : Contents rp_members → RpEntity
rp_of c = record { id = c.0; name = c.1.0 }

abbrev user_of : Contents user_members → UserEntity
user_of c = record { id = c.0; name = c.1.0; display_name = c.1.1.0 }

abbrev parameters_of : Contents parameters_members → CredentialParameters
parameters_of c = record { alg = c.0; kind = c.1.0 }

abbrev creation_options_of : Contents creation_options_members → CreationFlags
creation_options_of c = record { rk = c.0; up = c.1.0; uv = c.1.1.0 }

abbrev assertion_options_of : Contents assertion_options_members → AssertionFlags
assertion_options_of c = record { up = c.0; uv = c.1.0 }

-- the record with these lists and options
abbrev with_parts : CreationRequest → List CredentialParameters → Option (List CredentialDescriptor) → Option CreationFlags → CreationRequest
with_parts q ps ds o = record { client_data_hash = q.client_data_hash; rp = q.rp; user = q.user; pub_key_cred_params = ps; exclude_list = ds; options = o }

abbrev with_list : AssertionRequest → Option (List CredentialDescriptor) → Option AssertionFlags → AssertionRequest
with_list q ds o = record { rp_id = q.rp_id; client_data_hash = q.client_data_hash; allow_list = ds; options = o }

abbrev creation_of : Contents creation_members → CreationRequest
creation_of c = record {
  client_data_hash = c.0;
  rp = rp_of c.1.0;
  user = user_of c.1.1.0;
  pub_key_cred_params = map parameters_of c.1.1.1.0;
  exclude_list = option_map (map descriptor_of) c.1.1.1.1.0;
  options = option_map creation_options_of c.1.1.1.1.1.1.0;
}

abbrev assertion_of : Contents assertion_members → AssertionRequest
assertion_of c = record {
  rp_id = c.0;
  client_data_hash = c.1.0;
  allow_list = option_map (map descriptor_of) c.1.1.0;
  options = option_map assertion_options_of c.1.1.1.1.0;
}

creation_back : (q : CreationRequest) (e : Option Item) → creation_of (creation_content q e) ≡ q
creation_back q e =
    ap (λ ps. with_parts q ps (option_map (map descriptor_of) (option_map (map descriptor_content) q.exclude_list))
    (option_map creation_options_of (option_map creation_options_content q.options)))
    (map_back parameters_content parameters_of (λ p. refl) q.pub_key_cred_params)
    ∙ ap (λ ds. with_parts q q.pub_key_cred_params ds (option_map creation_options_of (option_map creation_options_content q.options)))
    (option_back (map descriptor_content) (map descriptor_of) (map_back descriptor_content descriptor_of (λ d. refl)) q.exclude_list)
    ∙ ap (with_parts q q.pub_key_cred_params q.exclude_list) (option_back creation_options_content creation_options_of (λ o. refl) q.options)

assertion_back : (q : AssertionRequest) (e : Option Item) → assertion_of (assertion_content q e) ≡ q
assertion_back q e =
    ap (λ ds. with_list q ds (option_map assertion_options_of (option_map assertion_options_content q.options)))
    (option_back (map descriptor_content) (map descriptor_of) (map_back descriptor_content descriptor_of (λ d. refl)) q.allow_list)
    ∙ ap (with_list q q.allow_list) (option_back assertion_options_content assertion_options_of (λ o. refl) q.options)

one_creation : (q r : CreationRequest) (x y : Option Pairs) → creation_item q x ≡ creation_item r y → q ≡ r
one_creation q r x y e =
    sym (creation_back q (option_map of.map x))
    ∙ ap creation_of (one_read (record_of creation_members) creation_ordered (creation_content q (option_map of.map x))
    (creation_content r (option_map of.map y)) e) ∙ creation_back r (option_map of.map y)

one_assertion : (q r : AssertionRequest) (x y : Option Pairs) → assertion_item q x ≡ assertion_item r y → q ≡ r
one_assertion q r x y e =
    sym (assertion_back q (option_map of.map x))
    ∙ ap assertion_of (one_read (record_of assertion_members) assertion_ordered (assertion_content q (option_map of.map x))
    (assertion_content r (option_map of.map y)) e) ∙ assertion_back r (option_map of.map y)

-- ---- a map that is read, or not

-- what was read, before it was forgotten in part
read_of : {A B : Type 0} (f : A → B) (o : Option A) (b : B) → option_map f o ≡ Some b → (a : A) × (o ≡ Some a) × (f a ≡ b)
read_of f (Some a) b e = (a, refl, same_Some (f a) b e)
read_of f None b e = absurd cc

pub none_of : {A B : Type 0} (f : A → B) (o : Option A) → option_map f o ≡ None → o ≡ None
none_of f (Some a) e = absurd cc
none_of f None e = refl

maps_of : (e : Option Item) → IsMapIfThere any_map e → (x : Option Pairs) × (e ≡ option_map of.map x)
maps_of (Some i) m = (Some m.0, ap (λ (j : Item). Some j) m.1)
maps_of None m = (None, refl)

abbrev with_creation_extensions : Option Item → Contents creation_members → Contents creation_members
with_creation_extensions e c = (c.0, (c.1.0, (c.1.1.0, (c.1.1.1.0, (c.1.1.1.1.0, (e, c.1.1.1.1.1.1))))))

abbrev with_assertion_extensions : Option Item → Contents assertion_members → Contents assertion_members
with_assertion_extensions e c = (c.0, (c.1.0, (c.1.1.0, (e, c.1.1.1.1))))

module _ (v : Item) (rest : List ℕ) (canon : Canon v rest) where
  pub creation_is : (q : CreationRequest) → option_map forget_creation (read_in (record_of creation_members) v) ≡ Some (creation_content q None)
      → IsRequest (make_credential q) (1 ∷ rest)
  creation_is q read =
      let c = read_of forget_creation (read_in (record_of creation_members) v) (creation_content q None) read in
      let e : Option Item = c.0.1.1.1.1.1.0 in
      let x = maps_of e (read_maps creation_members v c.0 c.1).1.1.1.1.1.0 in
      let whole : c.0 ≡ creation_content q (option_map of.map x.0) = ap (with_creation_extensions e) c.2 ∙ ap (creation_content q) x.1 in
      let is : v ≡ creation_item q x.0 = read_is (record_of creation_members) creation_ordered v c.0 c.1 ∙ ap (item_of (record_of creation_members)) whole in
      record {
        spelled = (x.0, (rest, refl, subst (λ (i : Item). Canon i rest) is canon));
        only = only x.0 is;
        clean = clean 1 rest v refl canon refl (read_clean (record_of creation_members) creation_ordered v c.0 c.1);
      } where
        only : (x : Option Pairs) → v ≡ creation_item q x → (r : RequestMessage) (y : Option Pairs) → RequestOf r y (1 ∷ rest) → r ≡ make_credential q
        only x is (make_credential r) y h =
            let tail : h.0 ≡ rest = let e = h.1 in cc in
            let other : Canon (creation_item r y) rest = subst (λ (l : List ℕ). Canon (creation_item r y) l) tail h.2 in
            ap make_credential (one_creation r q y x (same_item (creation_item r y) v rest other canon ∙ is))
        only x is (get_assertion r) y h = let e = h.1 in absurd cc
        only x is get_next_assertion y h = absurd cc
        only x is get_info y h = absurd cc
        only x is reset y h = absurd cc

  pub assertion_is : (q : AssertionRequest) → option_map forget_assertion (read_in (record_of assertion_members) v) ≡ Some (assertion_content q None)
      → IsRequest (get_assertion q) (2 ∷ rest)
  assertion_is q read =
      let c = read_of forget_assertion (read_in (record_of assertion_members) v) (assertion_content q None) read in
      let e : Option Item = c.0.1.1.1.0 in
      let x = maps_of e (read_maps assertion_members v c.0 c.1).1.1.1.0 in
      let whole : c.0 ≡ assertion_content q (option_map of.map x.0) = ap (with_assertion_extensions e) c.2 ∙ ap (assertion_content q) x.1 in
      let is : v ≡ assertion_item q x.0 = read_is (record_of assertion_members) assertion_ordered v c.0 c.1
      ∙ ap (item_of (record_of assertion_members)) whole in
      record {
        spelled = (x.0, (rest, refl, subst (λ (i : Item). Canon i rest) is canon));
        only = only x.0 is;
        clean = clean 2 rest v refl canon refl (read_clean (record_of assertion_members) assertion_ordered v c.0 c.1);
      } where
        only : (x : Option Pairs) → v ≡ assertion_item q x → (r : RequestMessage) (y : Option Pairs) → RequestOf r y (2 ∷ rest) → r ≡ get_assertion q
        only x is (get_assertion r) y h =
            let tail : h.0 ≡ rest = let e = h.1 in cc in
            let other : Canon (assertion_item r y) rest = subst (λ (l : List ℕ). Canon (assertion_item r y) l) tail h.2 in
            ap get_assertion (one_assertion r q y x (same_item (assertion_item r y) v rest other canon ∙ is))
        only x is (make_credential r) y h = let e = h.1 in absurd cc
        only x is get_next_assertion y h = absurd cc
        only x is get_info y h = absurd cc
        only x is reset y h = absurd cc

  -- a map that isn't read has a fault
  pub creation_faulty : option_map forget_creation (read_in (record_of creation_members) v) ≡ None → gravest (record_of creation_members) v ≢ None
  creation_faulty none = unread_faulty (record_of creation_members) creation_ordered v 4 canon.0
      (none_of forget_creation (read_in (record_of creation_members) v) none)

  pub assertion_faulty : option_map forget_assertion (read_in (record_of assertion_members) v) ≡ None → gravest (record_of assertion_members) v ≢ None
  assertion_faulty none = unread_faulty (record_of assertion_members) assertion_ordered v 4 canon.0
      (none_of forget_assertion (read_in (record_of assertion_members) v) none)
