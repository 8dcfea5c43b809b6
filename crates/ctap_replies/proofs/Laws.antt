-- What the bytes of a reply say of it.
use Rattle.std.proofs.Common.{◌≡◌, ◌≢◌, ℕ, List, ◌∷◌, Option, Some, None, option_map, refl, sym, ap, subst, ◌∙◌, true, Result, Ok, Err}
use Rattle.std.specs.Prelude.{IsErrOf}
use Rattle.ctap_replies.specs.Pieces.{WrittenMap}
use Rattle.ccbor.specs.Item.{Item}
use Rattle.ccbor.specs.Canon.{head, before, Canon}
use Rattle.ccbor.proofs.Decoding.{same_item}
use Rattle.ctap_encoding.specs.Table.{record_of, Members, has_fault, gravest}
use Rattle.ctap_encoding.specs.Content.{Contents, item_of}
use Rattle.ctap_encoding.specs.Reading.{Fails, read_in}
use Rattle.ctap_encoding.specs.declared.map_error.MapError.{MapError}
use Rattle.ctap_encoding.specs.declared.map_error.MapError.TheVariants as refusals
use Rattle.ctap_encoding.specs.Numbers.{of_map}
use Rattle.ctap_encoding.specs.declared.fault.Fault.{Fault}
use Rattle.ctap_encoding.specs.declared.fault.Fault.TheVariants as faults
use Rattle.ctap_encoding.proofs.Ordered.{IsOrdered}
use Rattle.ctap_encoding.proofs.Laws.{read_is, read_clean, clean_read, unread_faulty, one_read}
use Rattle.ctap_encoding.proofs.Tests.{clean_if_none, none_if_clean}
use Rattle.ctap_encoding.specs.declared.error.Error.{Error}
use Rattle.ctap_encoding.specs.declared.error.Error.TheVariants as errors
use Rattle.ctap_replies.specs.Replies.{credential_content, reply_user_members, reply_user_content, Creation, creation_reply_members}
use Rattle.ctap_replies.specs.Replies.{creation_reply_content, creation_reply_item, Assertion, assertion_reply_members, assertion_reply_content}
use Rattle.ctap_replies.specs.Replies.{assertion_reply_item, next_reply_members, Info, info_members, info_content, ReplyMessage, creation_reply}
use Rattle.ctap_replies.specs.Replies.{assertion_reply, next_reply, info_reply, reset_reply, kind_of, MapReply, ReplyOf, IsReply, IsNoReply}
use Rattle.ctap_replies.specs.Replies.{ReplyRefused}
use Rattle.ctap_replies.specs.declared.reply.Kind.TheVariants as kinds

-- ---- the tables' keys are in order

pub creation_ordered : IsOrdered (record_of creation_reply_members)
unfolding before head
creation_ordered = (refl, tt, (refl, tt, (refl, tt, tt)))

pub assertion_ordered : IsOrdered (record_of assertion_reply_members)
unfolding before head
assertion_ordered = (refl, (refl, tt, (refl, tt, tt)), (refl, tt, (refl, tt, (refl, (refl, tt, tt), (refl, tt, tt)))))

pub next_ordered : IsOrdered (record_of next_reply_members)
unfolding before head
next_ordered = (refl, (refl, tt, (refl, tt, tt)), (refl, tt, (refl, tt, (refl, (refl, tt, tt), tt))))

pub info_ordered : IsOrdered (record_of info_members)
unfolding before head
info_ordered = (refl, tt, (refl, tt, (refl, tt, (refl, tt, (refl, tt, (refl, tt, tt))))))

-- ---- a record has one content

abbrev creation_of : Contents creation_reply_members → Creation
creation_of c = record { fmt = c.0; auth_data = c.1.0; statement = c.1.1.0 }

creation_contents : (q r : Creation) → creation_reply_content q ≡ creation_reply_content r → q ≡ r
creation_contents q r e = ap creation_of e

creation_items : (q r : Creation) → creation_reply_item q ≡ creation_reply_item r → q ≡ r
creation_items q r e = creation_contents q r
    (one_read (record_of creation_reply_members) creation_ordered (creation_reply_content q) (creation_reply_content r) e)

abbrev assertion_of : Contents assertion_reply_members → Assertion
assertion_of c = record { credential = c.0.0; auth_data = c.1.0; signature = c.1.1.0; user = option_map (λ u. u.0) c.1.1.1.0; number = c.1.1.1.1.0 }

assertion_back : (q : Assertion) → assertion_of (assertion_reply_content q) ≡ q
assertion_back q = cases q.credential q.auth_data q.signature q.user q.number where
  cases : (a0 a1 a2 : List ℕ) (a3 : Option (List ℕ)) (a4 : Option ℕ)
      → assertion_of (assertion_reply_content (record { credential = a0; auth_data = a1; signature = a2; user = a3; number = a4 }))
      ≡ record { credential = a0; auth_data = a1; signature = a2; user = a3; number = a4 }
  cases a0 a1 a2 (Some a3) a4 = refl
  cases a0 a1 a2 None a4 = refl

assertion_contents : (q r : Assertion) → assertion_reply_content q ≡ assertion_reply_content r → q ≡ r
assertion_contents q r e = sym (assertion_back q) ∙ ap assertion_of e ∙ assertion_back r

abbrev info_of : Contents info_members → Info
info_of c = record {
  versions = c.0;
  aaguid = c.1.0;
  options = c.1.1.0;
  max_msg_size = c.1.1.1.0;
  max_credential_count_in_list = c.1.1.1.1.0;
  max_credential_id_length = c.1.1.1.1.1.0;
}

info_contents : (q r : Info) → info_content q ≡ info_content r → q ≡ r
info_contents q r e = ap info_of e

assertion_items : (q r : Assertion) → assertion_reply_item q ≡ assertion_reply_item r → q ≡ r
assertion_items q r e = assertion_contents q r
    (one_read (record_of assertion_reply_members) assertion_ordered (assertion_reply_content q) (assertion_reply_content r) e)

-- bytes are one reply
pub one_creation_reply : (r q : Creation) (bs : List ℕ) → ReplyOf (creation_reply r) bs → ReplyOf (creation_reply q) bs → r ≡ q
one_creation_reply r q bs a b =
    let rests : b.0 ≡ a.0 = let f = a.1 in let g = b.1 in cc in
    creation_items r q (same_item (creation_reply_item r) (creation_reply_item q) a.0 a.2 (subst (λ (l : List ℕ). Canon (creation_reply_item q) l) rests b.2))

pub one_assertion_reply : (r q : Assertion) (bs : List ℕ) → ReplyOf (assertion_reply r) bs → ReplyOf (assertion_reply q) bs → r ≡ q
one_assertion_reply r q bs a b =
    let rests : b.0 ≡ a.0 = let f = a.1 in let g = b.1 in cc in
    assertion_items r q (same_item (assertion_reply_item r) (assertion_reply_item q) a.0 a.2
    (subst (λ (l : List ℕ). Canon (assertion_reply_item q) l) rests b.2))

pub is_assertion_reply : (q : Assertion) (bs : List ℕ) → ReplyOf (assertion_reply q) bs → IsReply kinds.GetAssertion (assertion_reply q) bs
is_assertion_reply q bs spelled = record { of_kind = refl; spelled = spelled; only = only } where
  only : (r : ReplyMessage) → kind_of r ≡ kinds.GetAssertion → ReplyOf r bs → r ≡ assertion_reply q
  only (creation_reply r) k h = absurd cc
  only (assertion_reply r) k h = ap assertion_reply (one_assertion_reply r q bs h spelled)
  only (next_reply r) k h = absurd cc
  only (info_reply r) k h = absurd cc
  only reset_reply k h = absurd cc

-- ---- a map that is read, or not

module _ (ms : Members) (ordered : IsOrdered (record_of ms)) (v : Item) (rest : List ℕ) (canon : Canon v rest) where
  map_reply : (c : Contents ms) → read_in (record_of ms) v ≡ Some c → MapReply ms (item_of (record_of ms) c) (0 ∷ rest)
  map_reply c read =
      let is = read_is (record_of ms) ordered v c read in (
        rest,
        refl,
        subst (λ (i : Item). Canon i rest) is canon,
        subst (λ (i : Item). gravest (record_of ms) i ≡ None) is (read_clean (record_of ms) ordered v c read),
      )

  no_reply : read_in (record_of ms) v ≡ None → IsNoReply ms rest
  no_reply none = (v, canon, unread_faulty (record_of ms) ordered v 4 canon.0 none)

  one_map : (c d : Contents ms) (bs : List ℕ) → read_in (record_of ms) v ≡ Some c → MapReply ms (item_of (record_of ms) d) bs → bs ≡ 0 ∷ rest → d ≡ c
  one_map c d bs read h e =
      let same : h.0 ≡ rest = let f = h.1 in cc in
      let other : Canon (item_of (record_of ms) d) rest = subst (λ (l : List ℕ). Canon (item_of (record_of ms) d) l) same h.2 in
      one_read (record_of ms) ordered d c (same_item (item_of (record_of ms) d) v rest other canon ∙ read_is (record_of ms) ordered v c read)

-- ---- each command

module _ (v : Item) (rest : List ℕ) (canon : Canon v rest) where
  pub creation_is : (q : Creation) → read_in (record_of creation_reply_members) v ≡ Some (creation_reply_content q)
      → IsReply kinds.MakeCredential (creation_reply q) (0 ∷ rest)
  creation_is q read = record {
    of_kind = refl;
    spelled = map_reply creation_reply_members creation_ordered v rest canon (creation_reply_content q) read;
    only = only;
  } where
    only : (r : ReplyMessage) → kind_of r ≡ kinds.MakeCredential → ReplyOf r (0 ∷ rest) → r ≡ creation_reply q
    only (creation_reply r) k h = ap creation_reply
        (creation_contents r q (one_map creation_reply_members creation_ordered v rest canon (creation_reply_content q) (creation_reply_content r)
        (0 ∷ rest) read h refl))
    only (assertion_reply r) k h = absurd cc
    only (next_reply r) k h = absurd cc
    only (info_reply r) k h = absurd cc
    only reset_reply k h = absurd cc

  pub creation_refused : (e : MapError) → Fails e (read_in (record_of creation_reply_members) v) → ReplyRefused kinds.MakeCredential (0 ∷ rest) (of_map e)
  creation_refused refusals.Memory f = tt
  creation_refused refusals.Shape f = (rest, refl, no_reply creation_reply_members creation_ordered v rest canon f)

  pub assertion_is : (q : Assertion) → read_in (record_of assertion_reply_members) v ≡ Some (assertion_reply_content q)
      → IsReply kinds.GetAssertion (assertion_reply q) (0 ∷ rest)
  assertion_is q read = record {
    of_kind = refl;
    spelled = map_reply assertion_reply_members assertion_ordered v rest canon (assertion_reply_content q) read;
    only = only;
  } where
    only : (r : ReplyMessage) → kind_of r ≡ kinds.GetAssertion → ReplyOf r (0 ∷ rest) → r ≡ assertion_reply q
    only (creation_reply r) k h = absurd cc
    only (assertion_reply r) k h = ap assertion_reply
        (assertion_contents r q (one_map assertion_reply_members assertion_ordered v rest canon (assertion_reply_content q) (assertion_reply_content r)
        (0 ∷ rest) read h refl))
    only (next_reply r) k h = absurd cc
    only (info_reply r) k h = absurd cc
    only reset_reply k h = absurd cc

  pub assertion_none : read_in (record_of assertion_reply_members) v ≡ None → ReplyRefused kinds.GetAssertion (0 ∷ rest) errors.Shape
  assertion_none none = (rest, refl, no_reply assertion_reply_members assertion_ordered v rest canon none)

  pub info_is : (q : Info) → read_in (record_of info_members) v ≡ Some (info_content q) → IsReply kinds.GetInfo (info_reply q) (0 ∷ rest)
  info_is q read = record { of_kind = refl; spelled = map_reply info_members info_ordered v rest canon (info_content q) read; only = only } where
    only : (r : ReplyMessage) → kind_of r ≡ kinds.GetInfo → ReplyOf r (0 ∷ rest) → r ≡ info_reply q
    only (creation_reply r) k h = absurd cc
    only (assertion_reply r) k h = absurd cc
    only (next_reply r) k h = absurd cc
    only (info_reply r) k h = ap info_reply
        (info_contents r q (one_map info_members info_ordered v rest canon (info_content q) (info_content r) (0 ∷ rest) read h refl))
    only reset_reply k h = absurd cc

  pub info_refused : (e : MapError) → Fails e (read_in (record_of info_members) v) → ReplyRefused kinds.GetInfo (0 ∷ rest) (of_map e)
  info_refused refusals.Memory f = tt
  info_refused refusals.Shape f = (rest, refl, no_reply info_members info_ordered v rest canon f)

-- ---- GetNextAssertion: the same without the number

-- a map of the members without the number has the same faults by both tables
same_faults : (c : Contents next_reply_members) (f : Fault)
    → has_fault f (record_of assertion_reply_members) (item_of (record_of next_reply_members) c) ≡ has_fault f (record_of next_reply_members)
    (item_of (record_of next_reply_members) c)
same_faults (a, (b, (s, (Some u, t)))) f = refl
same_faults (a, (b, (s, (None, t)))) f = refl

abbrev next_content : Assertion → Contents next_reply_members
next_content q = (credential_content q.credential, (q.auth_data, (q.signature, (option_map reply_user_content q.user, tt))))

unnumbered : (q : Assertion) → q.number ≡ None → assertion_reply_item q ≡ item_of (record_of next_reply_members) (next_content q)
unnumbered q none = rw none refl

-- one with a number has an unlisted key
pub numbered_fault : (q : Assertion) (n : ℕ) → q.number ≡ Some n → has_fault faults.UnlistedKey (record_of next_reply_members) (assertion_reply_item q) ≡ true
numbered_fault q n e = cases (option_map reply_user_content q.user) q.number e where
  cases : (u : Option (Contents reply_user_members)) (o : Option ℕ) → o ≡ Some n
      → has_fault faults.UnlistedKey (record_of next_reply_members)
      (item_of (record_of assertion_reply_members) (credential_content q.credential, (q.auth_data, (q.signature, (u, (o, tt)))))) ≡ true
  cases (Some u) o e = rw e refl
  cases None o e = rw e refl

module _ (v : Item) (rest : List ℕ) (canon : Canon v rest) where
  pub next_is : (q : Assertion) → read_in (record_of assertion_reply_members) v ≡ Some (assertion_reply_content q) → q.number ≡ None
      → IsReply kinds.GetNextAssertion (next_reply q) (0 ∷ rest)
  next_is q read none =
      let is = read_is (record_of assertion_reply_members) assertion_ordered v (assertion_reply_content q) read in
      let clean = clean_if_none (record_of assertion_reply_members) v
      (read_clean (record_of assertion_reply_members) assertion_ordered v (assertion_reply_content q) read) in
      let same = is ∙ unnumbered q none in
      let fit : gravest (record_of next_reply_members) v ≡ None =
      none_if_clean (record_of next_reply_members) v (λ f. ap (has_fault f (record_of next_reply_members)) same ∙ sym (same_faults (next_content q) f)
      ∙ ap (has_fault f (record_of assertion_reply_members)) (sym same) ∙ clean f) in
      record {
        of_kind = refl;
        spelled =
            (rest, refl, subst (λ (i : Item). Canon i rest) is canon, subst (λ (i : Item). gravest (record_of next_reply_members) i ≡ None) is fit);
        only = only is;
      } where
        only : v ≡ assertion_reply_item q → (r : ReplyMessage) → kind_of r ≡ kinds.GetNextAssertion → ReplyOf r (0 ∷ rest) → r ≡ next_reply q
        only is (creation_reply r) k h = absurd cc
        only is (assertion_reply r) k h = absurd cc
        only is (next_reply r) k h =
            let tail : h.0 ≡ rest = let f = h.1 in cc in
            let other : Canon (assertion_reply_item r) rest = subst (λ (l : List ℕ). Canon (assertion_reply_item r) l) tail h.2 in
            ap next_reply (assertion_items r q (same_item (assertion_reply_item r) v rest other canon ∙ is))
        only is (info_reply r) k h = absurd cc
        only is reset_reply k h = absurd cc

  pub next_none : read_in (record_of assertion_reply_members) v ≡ None → ReplyRefused kinds.GetNextAssertion (0 ∷ rest) errors.Shape
  next_none none = (
    rest,
    refl,
    (
      v,
      canon,
      λ e.
          let c = clean_read (record_of next_reply_members) next_ordered v 4 canon.0 e in
          let is = read_is (record_of next_reply_members) next_ordered v c.0 c.1 in
          let fit : gravest (record_of assertion_reply_members) v ≡ None =
          none_if_clean (record_of assertion_reply_members) v (λ f. ap (has_fault f (record_of assertion_reply_members)) is ∙ same_faults c.0 f
          ∙ ap (has_fault f (record_of next_reply_members)) (sym is) ∙ clean_if_none (record_of next_reply_members) v e f) in
          unread_faulty (record_of assertion_reply_members) assertion_ordered v 4 canon.0 none fit,
    ),
  )

  pub next_numbered : (q : Assertion) (n : ℕ) → read_in (record_of assertion_reply_members) v ≡ Some (assertion_reply_content q) → q.number ≡ Some n
      → ReplyRefused kinds.GetNextAssertion (0 ∷ rest) errors.Shape
  next_numbered q n read some = (
    rest,
    refl,
    (
      v,
      canon,
      λ e.
          let is = read_is (record_of assertion_reply_members) assertion_ordered v (assertion_reply_content q) read in
          let fault = ap (has_fault faults.UnlistedKey (record_of next_reply_members)) is ∙ numbered_fault q n some in
          let clean = clean_if_none (record_of next_reply_members) v e faults.UnlistedKey in
          let both = sym fault ∙ clean in absurd cc,
    ),
  )

-- ---- what is refused, unless memory runs out, is no reply

faulty_none : (ms : Members) (rest tail : List ℕ) (v x : Item) → Canon v rest → gravest (record_of ms) v ≢ None → Canon x tail → gravest (record_of ms) x ≡ None
    → rest ≡ tail → ⊥
faulty_none ms rest tail v x canon fault c e same =
    let is = same_item x v rest (subst (λ (l : List ℕ). Canon x l) (sym same) c) canon in
    fault (ap (gravest (record_of ms)) (sym is) ∙ e)

pub never_both : (bs : List ℕ) (e : Error) → ReplyRefused kinds.GetAssertion bs e → e ≢ errors.Memory → (q : Assertion) → ReplyOf (assertion_reply q) bs → ⊥
never_both bs errors.Memory h some q k = some refl
never_both bs errors.Empty h some q k = let e = k.1 in absurd cc
never_both bs (errors.Refused code) h some q k = h.2 (let e = k.1 in let f = h.1 in cc)
never_both bs errors.NotCanonical h some q k =
    h.2.1 (assertion_reply_item q) (subst (λ (l : List ℕ). Canon (assertion_reply_item q) l) (let e = k.1 in let f = h.1 in cc) k.2)
never_both bs errors.Shape h some q k =
    faulty_none assertion_reply_members h.0 k.0 h.2.0 (assertion_reply_item q) h.2.1 h.2.2 k.2 k.3 (let e = k.1 in let f = h.1 in cc)
never_both bs _ h some q k = absurd h

pub creation_never_both : (bs : List ℕ) (e : Error) → ReplyRefused kinds.MakeCredential bs e → e ≢ errors.Memory → (q : Creation)
    → ReplyOf (creation_reply q) bs → ⊥
creation_never_both bs errors.Memory h some q k = some refl
creation_never_both bs errors.Unfit h some q k = h
creation_never_both bs (errors.Status code) h some q k = h
creation_never_both bs errors.Empty h some q k = let e = k.1 in absurd cc
creation_never_both bs (errors.Refused code) h some q k = h.2 (let e = k.1 in let f = h.1 in cc)
creation_never_both bs errors.NotCanonical h some q k =
    h.2.1 (creation_reply_item q) (subst (λ (l : List ℕ). Canon (creation_reply_item q) l) (let e = k.1 in let f = h.1 in cc) k.2)
creation_never_both bs errors.Shape h some q k =
    faulty_none creation_reply_members h.0 k.0 h.2.0 (creation_reply_item q) h.2.1 h.2.2 k.2 k.3 (let e = k.1 in let f = h.1 in cc)

-- what isn't written has no bytes
pub unfit_map : {V : Type 0} (items : V → List ℕ) (ms : Members) (v : Item) (result : Result V Error) → WrittenMap items ms v result
    → IsErrOf result errors.Unfit
    → (bs : List ℕ) → MapReply ms v bs → ⊥
unfit_map items ms v (Ok b) w e = absurd cc
unfit_map items ms v (Err errors.Unfit) w e = w
unfit_map items ms v (Err _) w e = absurd cc
