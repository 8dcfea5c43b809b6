-- What is read of bytes is the one reply that they are.
use Rattle.std.proofs.Common.{◌≡◌, ◌≢◌, ℕ, List, [], ◌∷◌, map, Bool, Option, Some, None, option_map, refl, sym, ap, subst, ◌∙◌}
use Rattle.std.proofs.lemmas.Option.{same_Some}
use Rattle.ccbor.specs.Item.{Item}
use Rattle.ccbor.specs.Canon.{Canon}
use Rattle.ccbor.proofs.Decoding.{same_item}
use Rattle.ccbor.proofs.Numbers.{bind_some}
use Rattle.ctap_encoding.specs.Table.{record_of}
use Rattle.ctap_encoding.specs.Content.{Contents}
use Rattle.ctap_encoding.specs.Reading.{Fails}
use Rattle.ctap_encoding.specs.declared.map_error.MapError.{MapError}
use Rattle.ctap_encoding.specs.declared.map_error.MapError.TheVariants as refusals
use Rattle.ctap_encoding.specs.Numbers.{of_map}
use Rattle.ctap_encoding.specs.declared.error.Error.{Error}
use Rattle.ctap_encoding.specs.declared.error.Error.TheVariants as errors
use Rattle.ctap_open_replies.specs.Telling.{Tells}
use Rattle.ctap_open_replies.specs.Replies.{User, user_members, user_content, credential_members, Parameters, parameters_members, parameters_content}
use Rattle.ctap_open_replies.specs.Replies.{Creation, creation_members, creation_content, TellsCreation, Assertion, assertion_members, assertion_content, IsCredential}
use Rattle.ctap_open_replies.specs.Replies.{TellsAssertion, Info, info_members, info_content, TellsInfo, ReplyOf, IsReply, Refused}
use Rattle.ctap_open_replies.specs.Reading.{open_in, or_listed, user_of, assertion_of, told_in, assertion_in}
use Rattle.ctap_open_replies.specs.Replies.{HasValue, HasNoValue}
use Rattle.ctap_open_replies.proofs.Telling.{is_told, is_read}

-- ---- where what is answered is what is read

-- of each value at most one reply is answered, and its content is what is read
pub record IsExact {Q C : Type 0} (tells : Q → Item → Type 0) (read : Item → Option C) (content : Q → C) : Type 0 where
  pub exact : (q : Q) (v : Item) → tells q v → read v ≡ Some (content q)
  pub one : (q r : Q) → content q ≡ content r → q ≡ r

module _ {Q C : Type 0} (tells : Q → Item → Type 0) (read : Item → Option C) (content : Q → C) (is : IsExact tells read content) (bs : List ℕ) (v : Item)
    (h : HasValue bs v) where
  -- the value after status 0 is this one
  told_here : (r : Q) → ReplyOf (tells r) bs → tells r v
  told_here r s =
      let rests : s.0 ≡ h.rest = let f = s.1 in let g = h.status in cc in
      let canon : Canon s.2 h.rest = subst (λ (l : List ℕ). Canon s.2 l) rests s.3 in
      subst (λ (i : Item). tells r i) (same_item s.2 v h.rest canon h.canon) s.4

  pub is_reply : (q : Q) → tells q v → IsReply tells q bs
  is_reply q t = record {
    spelled = (h.rest, h.status, v, h.canon, t);
    only = λ r s. is.one r q (same_Some (content r) (content q) (sym (is.exact r v (told_here r s)) ∙ is.exact q v t));
  }

  pub is_shape : read v ≡ None → Refused tells bs errors.Shape
  is_shape none = (h.rest, h.status, v, h.canon, λ q t. let e = sym (is.exact q v t) ∙ none in absurd cc)

  pub is_refused : (e : MapError) → Fails e (read v) → Refused tells bs (of_map e)
  is_refused refusals.Memory f = tt
  is_refused refusals.Shape f = is_shape f

-- ---- bytes that are refused are no reply

pub no_value : {Q : Type 0} (tells : Q → Item → Type 0) (bs : List ℕ) (e : Error) → HasNoValue bs e → Refused tells bs e
no_value tells bs errors.Empty h = h
no_value tells bs (errors.Refused s) h = h
no_value tells bs errors.NotCanonical h = h
no_value tells bs _ h = absurd h

pub never_both : {Q : Type 0} (tells : Q → Item → Type 0) (bs : List ℕ) (e : Error) → Refused tells bs e → e ≢ errors.Memory → (q : Q) → ReplyOf (tells q) bs → ⊥
never_both tells bs errors.Memory h some q k = some refl
never_both tells bs errors.Empty h some q k = let e = k.1 in absurd cc
never_both tells bs (errors.Refused code) h some q k = h.2 (let e = k.1 in let f = h.1 in cc)
never_both tells bs errors.NotCanonical h some q k =
    h.2 k.2 (subst (λ (l : List ℕ). Canon k.2 l) (let e = k.1 in let f = h.1 in cc) k.3)
never_both tells bs errors.Shape h some q k =
    let rests : k.0 ≡ h.0 = let f = k.1 in let g = h.1 in cc in
    let canon : Canon k.2 h.0 = subst (λ (l : List ℕ). Canon k.2 l) rests k.3 in
    h.4 q (subst (λ (i : Item). tells q i) (same_item k.2 h.2 h.0 canon h.3) k.4)
never_both tells bs _ h some q k = absurd h

-- ---- makeCredential

abbrev creation_of : Contents creation_members → Creation
creation_of c = record { fmt = c.0; auth_data = c.1.0; statement = c.1.1.0; enterprise = c.1.1.1.0; large_blob_key = c.1.1.1.1.0 }

pub exact_creation : IsExact TellsCreation (open_in (record_of creation_members)) creation_content
exact_creation = record { exact = λ q v t. is_read (record_of creation_members) v (creation_content q) t; one = λ q r e. ap creation_of e }

-- ---- getInfo

abbrev parameters_of : Contents parameters_members → Parameters
parameters_of c = record { alg = c.0; kind = c.1.0 }

parameters_back : (ps : List Parameters) → map parameters_of (map parameters_content ps) ≡ ps
parameters_back [] = refl
parameters_back (p ∷ ps) = ap (λ (l : List Parameters). p ∷ l) (parameters_back ps)

algorithms_back : (o : Option (List Parameters)) → option_map (map parameters_of) (option_map (map parameters_content) o) ≡ o
algorithms_back (Some ps) = ap Some (parameters_back ps)
algorithms_back None = refl

abbrev info_of : Contents info_members → Info
info_of c = record {
  versions = c.0;
  extensions = c.1.0;
  aaguid = c.1.1.0;
  options = c.1.1.1.0;
  max_msg_size = c.1.1.1.1.0;
  pin_uv_auth_protocols = c.1.1.1.1.1.0;
  max_credential_count_in_list = c.1.1.1.1.1.1.0;
  max_credential_id_length = c.1.1.1.1.1.1.1.0;
  transports = c.1.1.1.1.1.1.1.1.0;
  algorithms = option_map (map parameters_of) c.1.1.1.1.1.1.1.1.1.0;
  min_pin_length = c.1.1.1.1.1.1.1.1.1.1.0;
  firmware_version = c.1.1.1.1.1.1.1.1.1.1.1.0;
  remaining_discoverable_credentials = c.1.1.1.1.1.1.1.1.1.1.1.1.0;
}

info_back : (q : Info) → info_of (info_content q) ≡ q
info_back q = ap (λ (a : Option (List Parameters)). record {
  versions = q.versions;
  extensions = q.extensions;
  aaguid = q.aaguid;
  options = q.options;
  max_msg_size = q.max_msg_size;
  pin_uv_auth_protocols = q.pin_uv_auth_protocols;
  max_credential_count_in_list = q.max_credential_count_in_list;
  max_credential_id_length = q.max_credential_id_length;
  transports = q.transports;
  algorithms = a;
  min_pin_length = q.min_pin_length;
  firmware_version = q.firmware_version;
  remaining_discoverable_credentials = q.remaining_discoverable_credentials;
}) (algorithms_back q.algorithms)

pub exact_info : IsExact TellsInfo (open_in (record_of info_members)) info_content
exact_info = record {
  exact = λ q v t. is_read (record_of info_members) v (info_content q) t;
  one = λ q r e. sym (info_back q) ∙ ap info_of e ∙ info_back r;
}

-- ---- getAssertion

users_back : (o : Option User) → option_map user_of (option_map user_content o) ≡ o
users_back (Some u) = refl
users_back None = refl

users_forth : (o : Option (Contents user_members)) → option_map user_content (option_map user_of o) ≡ o
users_forth (Some u) = refl
users_forth None = refl

assertion_back : (told : Option (List ℕ)) (q : Assertion) → assertion_of (assertion_content told q) q.credential ≡ q
assertion_back told q = ap (λ (u : Option User). record {
  credential = q.credential;
  auth_data = q.auth_data;
  signature = q.signature;
  user = u;
  number = q.number;
  user_selected = q.user_selected;
  large_blob_key = q.large_blob_key;
}) (users_back q.user)

-- what is answered is read
exact_told : (alone told : Option (List ℕ)) (q : Assertion) → IsCredential alone told q.credential
    → option_map (assertion_of (assertion_content told q)) (or_listed alone (told_in (assertion_content told q))) ≡ Some q
exact_told alone (Some id) q is = ap Some (ap (assertion_of (assertion_content (Some id) q)) (sym is) ∙ assertion_back (Some id) q)
exact_told alone None q is = ap (option_map (assertion_of (assertion_content None q))) is ∙ ap Some (assertion_back None q)

pub exact_assertion : (alone : Option (List ℕ)) → IsExact (TellsAssertion alone) (assertion_in alone) (λ q. q)
exact_assertion alone = record {
  exact = λ q v t. rw (is_read (record_of assertion_members) v (assertion_content t.0 q) t.1) (exact_told alone t.0 q t.2);
  one = λ q r e. e;
}

-- and what is read is answered
told_by : (alone : Option (List ℕ)) (v : Item) (d : Option (Contents credential_members)) (auth signature : List ℕ) (u : Option (Contents user_members))
    (n : Option ℕ) (s : Option Bool) (b : Option (List ℕ)) (q : Assertion) → Tells (record_of assertion_members) (d, (auth, (signature, (u, (n, (s, (b, tt))))))) v
    → option_map (assertion_of (d, (auth, (signature, (u, (n, (s, (b, tt)))))))) (or_listed alone (told_in (d, (auth, (signature, (u, (n, (s, (b, tt))))))))) ≡ Some q
    → TellsAssertion alone q v
told_by alone v (Some d) auth signature u n s b q t e =
    let tells : Tells (record_of assertion_members) (Some d, (auth, (signature, (option_map user_content (option_map user_of u), (n, (s, (b, tt))))))) v =
    subst (λ (w : Option (Contents user_members)). Tells (record_of assertion_members) (Some d, (auth, (signature, (w, (n, (s, (b, tt))))))) v) (sym (users_forth u)) t in
    subst (λ (r : Assertion). TellsAssertion alone r v) (same_Some (assertion_of (Some d, (auth, (signature, (u, (n, (s, (b, tt))))))) d.0) q e)
    (Some d.0, tells, refl)
told_by (Some id) v None auth signature u n s b q t e =
    let tells : Tells (record_of assertion_members) (None, (auth, (signature, (option_map user_content (option_map user_of u), (n, (s, (b, tt))))))) v =
    subst (λ (w : Option (Contents user_members)). Tells (record_of assertion_members) (None, (auth, (signature, (w, (n, (s, (b, tt))))))) v) (sym (users_forth u)) t in
    subst (λ (r : Assertion). TellsAssertion (Some id) r v) (same_Some (assertion_of (None, (auth, (signature, (u, (n, (s, (b, tt))))))) id) q e)
    (None, tells, refl)
told_by None v None auth signature u n s b q t e = absurd cc

pub assertion_told : (alone : Option (List ℕ)) (v : Item) (q : Assertion) → assertion_in alone v ≡ Some q → TellsAssertion alone q v
assertion_told alone v q e =
    let c = bind_some (open_in (record_of assertion_members) v) _ q e in
    let d = c.0 in
    told_by alone v d.0 d.1.0 d.1.1.0 d.1.1.1.0 d.1.1.1.1.0 d.1.1.1.1.1.0 d.1.1.1.1.1.1.0 q (is_told (record_of assertion_members) v d c.1) c.2
