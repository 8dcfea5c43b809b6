-- The credentials' maps one after the other, and the map round them.
use Rattle.std.proofs.Common.{◌≡◌, ◌<◌, ◌^◌, ℕ, suc, List, [], ◌∷◌, ◌++◌, length, Bool, true, false, Option, Some, None, Result, Err, IsUtf8}
use Rattle.std.proofs.Common.{refl, sym, ap, ◌∙◌, subst, arith, ◌==◌, ◌&&◌}
use Rattle.std.proofs.Common.{map as each}
use Rattle.std.specs.Str.{bytes_eq}
use Rattle.std.proofs.lemmas.Option.{cond_some, same_Some}
use Rattle.std.proofs.lemmas.Bool.Decides.{nat_tests}
use Rattle.std.proofs.lemmas.Grind.{common_steps}
use Rattle.std.proofs.lemmas.List.{length-append}
use Rattle.refusal_order.specs.Lines.{Each}
use Rattle.ccbor.specs.Item.{Item, Items, no_items, item, uint, bytes, array, map, boolean, Pairs, no_pairs, pair}
use Rattle.ccbor.specs.Access.{split_key, is_end, uint_in, bool_in, items_in, pairs_in}
use Rattle.ccbor.specs.Canon.{Canon, Fits, ItemsFit, before, count_of_items, head}
use Rattle.ccbor.specs.View.{items_of}
use Rattle.ccbor.proofs.AccessLemmas.{split_key_takes, pairs_in_is, uint_in_is, items_in_is, end_is}
use Rattle.ccbor.proofs.Decoding.{same_item}
use Rattle.ccbor.proofs.Numbers.{bind_some}
use Rattle.authdata.specs.declared.statement.AttestationType.{AttestationType}
use Rattle.authdata.specs.declared.statement.AttestationType.TheVariants as types
use Rattle.cose.specs.Keys.{argument_of, signed_alg}
use Rattle.cose.specs.declared.key.SigningAlg.{SigningAlg}
use Rattle.cose.specs.declared.key.SigningAlg.TheVariants as algs
use Rattle.authenticator.specs.State.{CredentialSource, AuthenticatorState, Remembered, forgotten}
use Rattle.authenticator.specs.Credentials.{credential_of}
use Rattle.authenticator.specs.Laws.{IsUnique, SoundState}
use Rattle.authenticator.specs.Saved.{IsSource, Restarted, SavedOf, SavingLaws, authenticator_item, is_self_signed, source_item}
use Rattle.authenticator.specs.Private.{IsStore, Members, members_in, sized_in}
use Rattle.authenticator.specs.declared.error.LoadError.{LoadError}
use Rattle.authenticator.proofs.SavedCredentials.{bool_in_is, exactly, one_source, sized}
use Rattle.authenticator.proofs.Stored.{itself, same_id}

-- ---- the credentials' maps, in front of other values

abbrev pub in_front : List CredentialSource → Items → Items
in_front [] xs = xs
in_front (c ∷ cs) xs = item (source_item c) (in_front cs xs)

pub in_front-none : (cs : List CredentialSource) → in_front cs no_items ≡ items_of (each source_item cs)
in_front-none [] = refl
in_front-none (c ∷ cs) = ap (λ (l : Items). item (source_item c) l) (in_front-none cs)

pub in_front-one_more : (cs : List CredentialSource) (c : CredentialSource) (xs : Items) → in_front (cs ++ c ∷ []) xs ≡ in_front cs (item (source_item c) xs)
in_front-one_more [] c xs = refl
in_front-one_more (d ∷ cs) c xs = ap (λ (l : Items). item (source_item d) l) (in_front-one_more cs c xs)

-- the error that an answer is refused by
pub same_error : {X : Type 0} (r : Result X LoadError) (y f e : LoadError) → r ≡ Err y → y ≡ f → r ≡ Err e → f ≡ e
same_error r y f e p q s = cc

item_parts : (x y : Item) (xs ys : Items) → item x xs ≡ item y ys → (x ≡ y) × (xs ≡ ys)
item_parts x y xs ys e = (cc, cc)

-- credentials whose maps are those of some, then a value, then more: they are these, then one that has the value as its map
pub record Goes (cs front : List CredentialSource) (x : Item) : Type 0 where
  pub source : CredentialSource
  pub rest : List CredentialSource
  pub is : cs ≡ front ++ source ∷ rest
  pub fits : IsSource source
  pub map_is : x ≡ source_item source

pub goes_on : (cs front : List CredentialSource) (x : Item) (xs : Items) → Each IsSource front → Each IsSource cs
    → in_front front (item x xs) ≡ items_of (each source_item cs) → Goes cs front x
goes_on [] [] x xs f r e = absurd cc
goes_on [] (c ∷ front) x xs f r e = absurd cc
goes_on (d ∷ cs) [] x xs f r e =
    let parts = item_parts x (source_item d) xs (items_of (each source_item cs)) e in
    record { source = d; rest = cs; is = refl; fits = r.0; map_is = parts.0 }
goes_on (d ∷ cs) (c ∷ front) x xs f r e =
    let parts = item_parts (source_item c) (source_item d) (in_front front (item x xs)) (items_of (each source_item cs)) e in
    let more = goes_on cs front x xs f.1 r.1 parts.1 in
    let same : c ≡ d = one_source c d f.0 r.0 parts.0 in
    record {
      source = more.source;
      rest = more.rest;
      is = ap (λ (l : List CredentialSource). d ∷ l) more.is ∙ ap (λ (y : CredentialSource). y ∷ (front ++ more.source ∷ more.rest)) (sym same);
      fits = more.fits;
      map_is = more.map_is;
    }

differs_behind : (k : List ℕ) (front more : List CredentialSource) (c : CredentialSource) → credential_of k (front ++ c ∷ more) ≡ None → bytes_eq c.id k ≡ false
differs_behind k [] more c none = grind (arith, common_steps, none)
differs_behind k (d ∷ front) more c none = grind (arith, common_steps, none, differs_behind k front more c)

-- of unique ones none before one has its id
front_absent : (front more : List CredentialSource) (c : CredentialSource) → IsUnique (front ++ c ∷ more) → credential_of c.id front ≡ None
front_absent [] more c are = refl
front_absent (d ∷ front) more c are =
    grind (arith, common_steps, itself d.id, same_id d.id c.id, differs_behind d.id front more c are.0, front_absent front more c are.1)

-- and it may stand after them
pub goes_behind : (cs front : List CredentialSource) (x : Item) → IsStore cs → (g : Goes cs front x)
    → (length front < 256) × (credential_of g.source.id front ≡ None)
goes_behind cs front x store g =
    let whole : IsStore (front ++ g.source ∷ g.rest) = subst IsStore g.is store in
    let len = length-append front (g.source ∷ g.rest) in
    let most = whole.0 in
    (omega (arith, len, most), front_absent front g.rest g.source whole.1)

-- the same maps are those of the same credentials
one_order : (cs ds : List CredentialSource) → Each IsSource cs → Each IsSource ds → items_of (each source_item cs) ≡ items_of (each source_item ds) → cs ≡ ds
one_order [] [] r o e = refl
one_order [] (d ∷ ds) r o e = absurd cc
one_order (c ∷ cs) [] r o e = absurd cc
one_order (c ∷ cs) (d ∷ ds) r o e =
    let parts = item_parts (source_item c) (source_item d) (items_of (each source_item cs)) (items_of (each source_item ds)) e in
    ap (λ (x : CredentialSource). x ∷ cs) (one_source c d r.0 o.0 parts.0) ∙ ap (λ (l : List CredentialSource). d ∷ l) (one_order cs ds r.1 o.1 parts.1)

-- ---- the map round them

abbrev pub whole : Members → Item
whole m =
    map (pair (uint 1) (uint 1) (pair (uint 2) (bytes m.0) (pair (uint 3) (boolean m.1) (pair (uint 4) (boolean m.2) (pair (uint 5) (array m.3) no_pairs)))))

abbrev pub members_of : AuthenticatorState → Members
members_of a = (a.aaguid, a.uv, is_self_signed a.attest, items_of (each source_item a.credentials))

-- it is read
pub whole_read : (m : Members) → length m.0 ≡ 16 → members_in (whole m) ≡ Some m
unfolding members_in
whole_read m e = rw (sized 16 16 m.0 (omega (arith, e)) (omega (arith, e))) refl

joined : (x a b c d f : Item) (p q r s t u : Pairs) (m : Members) → x ≡ map p → p ≡ pair (uint 1) a q → a ≡ uint 1
    → q ≡ pair (uint 2) b r → b ≡ bytes m.0 → r ≡ pair (uint 3) c s → c ≡ boolean m.1
    → s ≡ pair (uint 4) d t → d ≡ boolean m.2 → t ≡ pair (uint 5) f u → f ≡ array m.3 → u ≡ no_pairs → x ≡ whole m
joined x a b c d f p q r s t u m e0 e1 e2 e3 e4 e5 e6 e7 e8 e9 e10 e11 = cc

both_hold : (a : Bool) (n : ℕ) → (a && (n == 1)) ≡ true → (a ≡ true) × (n ≡ 1)
both_hold true n e = (refl, grind (arith, nat_tests, e))
both_hold false n e = absurd cc

-- what is read is that map
pub members_are : (x : Item) (m : Members) → members_in x ≡ Some m → (length m.0 ≡ 16) × (x ≡ whole m)
unfolding members_in
members_are x m e =
    let ps = bind_some (pairs_in x) _ m e in
    let one = bind_some (split_key (uint 1) ps.0) _ m ps.2 in
    let version = bind_some (uint_in one.0.0) _ m one.2 in
    let two = bind_some (split_key (uint 2) one.0.1) _ m version.2 in
    let aaguid = bind_some (sized_in 16 16 two.0.0) _ m two.2 in
    let three = bind_some (split_key (uint 3) two.0.1) _ m aaguid.2 in
    let uv = bind_some (bool_in three.0.0) _ m three.2 in
    let four = bind_some (split_key (uint 4) three.0.1) _ m uv.2 in
    let self_signed = bind_some (bool_in four.0.0) _ m four.2 in
    let five = bind_some (split_key (uint 5) four.0.1) _ m self_signed.2 in
    let credentials = bind_some (items_in five.0.0) _ m five.2 in
    let made : Members = (aaguid.0, uv.0, self_signed.0, credentials.0) in
    let last = cond_some (is_end five.0.1 && (version.0 == 1)) made m credentials.2 in
    let ends = both_hold (is_end five.0.1) version.0 last.0 in
    let sixteen = exactly 16 two.0.0 aaguid.0 aaguid.1 in
    let is : x ≡ whole made =
    joined x one.0.0 two.0.0 three.0.0 four.0.0 five.0.0 ps.0 one.0.1 two.0.1 three.0.1 four.0.1 five.0.1 made (pairs_in_is x ps.0 ps.1)
    (split_key_takes (uint 1) ps.0 one.0 one.1) (uint_in_is one.0.0 version.0 version.1 ∙ ap uint ends.1)
    (split_key_takes (uint 2) one.0.1 two.0 two.1) sixteen.0 (split_key_takes (uint 3) two.0.1 three.0 three.1) (bool_in_is three.0.0 uv.0 uv.1)
    (split_key_takes (uint 4) three.0.1 four.0 four.1) (bool_in_is four.0.0 self_signed.0 self_signed.1)
    (split_key_takes (uint 5) four.0.1 five.0 five.1) (items_in_is five.0.0 credentials.0 credentials.1) (end_is five.0.1 ends.0) in
    rw (sym last.1) (sixteen.1, is)

-- ---- laws

same_attestation : (x y : AttestationType) → is_self_signed x ≡ is_self_signed y → x ≡ y
same_attestation types.None types.None e = refl
same_attestation types.SelfSigned types.SelfSigned e = refl
same_attestation types.None types.SelfSigned e = absurd cc
same_attestation types.SelfSigned types.None e = absurd cc

pub saved_members : (a : AuthenticatorState) (bs : List ℕ) → SavedOf a bs → members_in (authenticator_item a) ≡ Some (members_of a)
saved_members a bs h = whole_read (members_of a) h.aaguid

state_from : List ℕ → Bool → AttestationType → List CredentialSource → Option Remembered → AuthenticatorState
state_from aaguid uv attest credentials remembered =
    record { aaguid = aaguid; uv = uv; attest = attest; credentials = credentials; remembered = remembered }

one_state : (a b : AuthenticatorState) (bs : List ℕ) → SavedOf a bs → SavedOf b bs → a ≡ b
unfolding state_from
one_state a b bs h g =
    let items = same_item (authenticator_item a) (authenticator_item b) bs h.spelled g.spelled in
    let same = same_Some (members_of a) (members_of b) (sym (saved_members a bs h) ∙ ap members_in items ∙ saved_members b bs g) in
    let aaguids : a.aaguid ≡ b.aaguid = ap (λ (m : Members). m.0) same in
    let uvs : a.uv ≡ b.uv = ap (λ (m : Members). m.1) same in
    let attests : a.attest ≡ b.attest = same_attestation a.attest b.attest (ap (λ (m : Members). m.2) same) in
    let sources = one_order a.credentials b.credentials h.sources g.sources (ap (λ (m : Members). m.3) same) in
    ap (λ (x : List ℕ). state_from x a.uv a.attest a.credentials a.remembered) aaguids
    ∙ ap (λ (x : Bool). state_from b.aaguid x a.attest a.credentials a.remembered) uvs
    ∙ ap (λ (x : AttestationType). state_from b.aaguid b.uv x a.credentials a.remembered) attests
    ∙ ap (λ (x : List CredentialSource). state_from b.aaguid b.uv b.attest x a.remembered) sources
    ∙ ap (λ (x : Option Remembered). state_from b.aaguid b.uv b.attest b.credentials x) (h.remembered ∙ sym g.remembered)

restarted : (old new : AuthenticatorState) → Restarted old new → new ≡ forgotten old
restarted old new r = one_state new (forgotten old) r.bytes r.loaded r.saved

sound_again : (old new : AuthenticatorState) → SoundState old → Restarted old new → SoundState new
sound_again old new s r = subst SoundState (sym (restarted old new r)) (record { most = s.most; unique = s.unique; remembered = tt })

pub laws : SavingLaws
laws = record {
  one_state = one_state;
  one_list = λ a bs others h g. h.spelled.1 ∙ sym g.spelled.1;
  restarted = restarted;
  sound = sound_again;
}

-- ---- loading

module _ (bs : List ℕ) (x : Item) (canon : Canon x bs) where
  members_of_saved : (a : AuthenticatorState) → SavedOf a bs → members_in x ≡ Some (members_of a)
  members_of_saved a h = ap members_in (same_item x (authenticator_item a) bs canon h.spelled) ∙ saved_members a bs h

  pub no_members : members_in x ≡ None → (a : AuthenticatorState) → SavedOf a bs → ⊥
  no_members none a h = let read = sym none ∙ members_of_saved a h in absurd cc

  pub no_sources : (m : Members) → members_in x ≡ Some m
      → ((cs : List CredentialSource) → IsStore cs → Each IsSource cs → m.3 ≡ items_of (each source_item cs) → ⊥)
      → (a : AuthenticatorState) → SoundState a → SavedOf a bs → ⊥
  no_sources m read none a s h =
      let same = same_Some m (members_of a) (sym read ∙ members_of_saved a h) in
      none a.credentials (s.most, s.unique) h.sources (ap (λ (y : Members). y.3) same)

  pub loaded : (m : Members) → members_in x ≡ Some m → (attest : AttestationType) → is_self_signed attest ≡ m.2
      → (cs : List CredentialSource) → Each IsSource cs → m.3 ≡ items_of (each source_item cs)
      → SavedOf (record { aaguid = m.0; uv = m.1; attest = attest; credentials = cs; remembered = None }) bs
  loaded m read attest self_signed cs are e =
      let found = members_are x m read in
      let value : x ≡ whole (m.0, m.1, is_self_signed attest, items_of (each source_item cs)) =
      found.1 ∙ ap (λ (b : Bool). whole (m.0, m.1, b, m.3)) (sym self_signed)
      ∙ ap (λ (xs : Items). whole (m.0, m.1, is_self_signed attest, xs)) e in
      record { aaguid = found.0; remembered = refl; sources = are; spelled = rw value at canon }

-- ---- saving

algorithm_fits : (alg : SigningAlg) → argument_of (signed_alg alg) < 2 ^ 64
algorithm_fits algs.Es256 = omega arith
algorithm_fits algs.EdDsa = omega arith

pub source_fits : (c : CredentialSource) → IsSource c → length c.rp_id < 2 ^ 64 → IsUtf8 c.rp_id → Fits 2 (source_item c)
unfolding head before
source_fits c is short utf8 =
    let a = is.id in
    let b = is.user_high in
    let s = is.secret in
    let n = is.sign_count in
    let alg = algorithm_fits c.alg in (
      omega arith,
      (
        refl,
        refl,
        omega arith,
        omega (arith, a),
        (
          refl,
          refl,
          omega arith,
          (short, utf8),
          (
            refl,
            refl,
            omega arith,
            omega (arith, b),
            (
              refl,
              refl,
              omega arith,
              omega (arith, s),
              (refl, refl, omega arith, alg, (refl, refl, omega arith, tt, (refl, refl, omega arith, omega (arith, n), tt))),
            ),
          ),
        ),
      ),
    )

count : (cs : List CredentialSource) → count_of_items (items_of (each source_item cs)) ≡ length cs
count [] = refl
count (c ∷ cs) = ap suc (count cs)

pub whole_fits : (a : AuthenticatorState) → length a.aaguid ≡ 16 → length a.credentials < 2 ^ 64 → ItemsFit 2 (items_of (each source_item a.credentials))
    → Fits 4 (authenticator_item a)
unfolding head before
whole_fits a sixteen few fit =
    let len = count a.credentials in (
      omega arith,
      (
        refl,
        refl,
        omega arith,
        omega arith,
        (
          refl,
          refl,
          omega arith,
          omega (arith, sixteen),
          (refl, refl, omega arith, tt, (refl, refl, omega arith, tt, (refl, refl, omega arith, (omega (arith, len, few), fit), tt))),
        ),
      ),
    )

-- one more value
pub items_fit-one_more : (cs : List CredentialSource) (c : CredentialSource) → ItemsFit 2 (items_of (each source_item cs)) → Fits 2 (source_item c)
    → ItemsFit 2 (items_of (each source_item (cs ++ c ∷ [])))
items_fit-one_more [] c h f = (f, tt)
items_fit-one_more (d ∷ cs) c h f = (h.0, items_fit-one_more cs c h.1 f)
