-- No refusal applies to the bytes of authenticator data.
use Rattle.std.proofs.Common.{◌≡◌, ◌+◌, ◌^◌, ◌<◌, ◌≤◌, ℕ, suc, true, false, List, [], ◌∷◌, ◌++◌, Option, Some, None, length, is_some, sym, ◌∙◌, ap, refl}
use Rattle.std.proofs.Common.{subst, arith, take, drop, get_or, append_assoc, append-nil, inl, inr}
use Rattle.std.specs.Prelude.{◌↔◌, IfSome}
use Rattle.authdata.specs.Profiles.{max_id}
use Rattle.std.specs.Int.{w16, w32, to_be_bytes, from_be_bytes}
use Rattle.std.proofs.lemmas.List.{length-append, drop_at}
use Rattle.std.proofs.lemmas.Nat.{from_be_bytes-to_be_bytes_2}
use Rattle.refusal_order.specs.Lines.{First}
use Rattle.refusal_order.proofs.Laws.{stops_at}
use Rattle.ccbor.specs.Canon.{Canon}
use Rattle.cose.specs.Keys.{IsKey, item_of}
use Rattle.cose.proofs.KeyLemmas.{key_canon}
use Rattle.authdata.specs.declared.error.Error.{Error}
use Rattle.authdata.specs.declared.error.Error.TheVariants as errors
use Rattle.authdata.specs.Flags.{is_set, HasBackup, AT, ED}
use Rattle.authdata.specs.Layout.{AttestedCredential, AuthenticatorData, AuthOf, IsAttestedCredential, IsAuthenticatorData}
use Rattle.authdata.specs.Layout.{attested_bytes, extension_bytes, key_bytes}
use Rattle.authdata.specs.declared.profile.Profile.{Profile}
use Rattle.authdata.specs.declared.profile.Profile.TheVariants.{Strict, Open, Level3}
use Rattle.authdata.specs.Refusals.{Applies, IsAttested, flags_in, id_len_in, order}
use Rattle.authdata.proofs.Unique.{is_credential, length-data, length-full, most_id, one_front}

at_end : (a : List ℕ) (x : ℕ) (b : List ℕ) (n : ℕ) → length a ≡ n → get_or (a ++ x ∷ b) n 0 ≡ x
at_end [] x b n e = rw (← e) refl
at_end (y ∷ ys) x b n e = let s : suc (length ys) ≡ n = e in rw (← s) (at_end ys x b (length ys) refl)

flags_are : {p : Profile} (a : AuthenticatorData) (bs : List ℕ) → AuthOf p a bs → flags_in bs ≡ a.flags
flags_are a bs h = ap flags_in h.1 ∙ at_end a.rp_id_hash a.flags
    (to_be_bytes w32 a.sign_count ++ (attested_bytes a.attested ++ extension_bytes a.extensions)) 32 h.0.rp_id_hash

-- where AT is set, a credential is attested
some_credential : {p : Profile} (a : AuthenticatorData) (bs : List ℕ) → AuthOf p a bs → IsAttested bs → (c : AttestedCredential) × (a.attested ≡ Some c)
some_credential a bs h at = of a.attested refl where
  of : (o : Option AttestedCredential) → a.attested ≡ o → (c : AttestedCredential) × (a.attested ≡ Some c)
  of (Some c) e = (c, e)
  of None e =
      let set : is_set a.flags AT ≡ true = ap (λ (f : ℕ). is_set f AT) (sym (flags_are a bs h)) ∙ at in
      let some = h.0.attested_flag in
      let bad : is_some a.attested ≡ false = ap is_some e in
      absurd cc

-- what stands before the credential id's length
before_id : AuthenticatorData → AttestedCredential → List ℕ
before_id a c = a.rp_id_hash ++ (a.flags ∷ (to_be_bytes w32 a.sign_count ++ c.aaguid))

length-before_id : {p : Profile} (a : AuthenticatorData) (c : AttestedCredential) → IsAuthenticatorData p a → IsAttestedCredential p c
    → length (before_id a c) ≡ 53
unfolding before_id
length-before_id a c h g =
    let l = length-append a.rp_id_hash (a.flags ∷ (to_be_bytes w32 a.sign_count ++ c.aaguid)) in
    let m = h.rp_id_hash in let n = g.aaguid in
    omega (arith, l, m, n)

parts : {p : Profile} (a : AuthenticatorData) (c : AttestedCredential) (bs : List ℕ) → AuthOf p a bs → a.attested ≡ Some c
    → bs ≡ before_id a c ++ (to_be_bytes w16 (length c.id) ++ (c.id ++ (key_bytes c.key ++ extension_bytes a.extensions)))
unfolding before_id
parts a c bs h e =
    h.1 ∙ ap (λ o. a.rp_id_hash ++ (a.flags ∷ (to_be_bytes w32 a.sign_count ++ (attested_bytes o ++ extension_bytes a.extensions)))) e
    ∙ simp append_assoc

id_len_is : {p : Profile} (a : AuthenticatorData) (c : AttestedCredential) (bs : List ℕ) → AuthOf p a bs → a.attested ≡ Some c
    → id_len_in bs ≡ length c.id
id_len_is {p} a c bs h e =
    let is = is_credential a c h.0 e in
    let low : length c.id < 2 ^ 16 = omega (arith, is.id_high, most_id p) in
    let tail = c.id ++ (key_bytes c.key ++ extension_bytes a.extensions) in
    let two = ap (drop 53) (parts a c bs h e) ∙ drop_at (before_id a c) (to_be_bytes w16 (length c.id) ++ tail) 53 (length-before_id a c h.0 is) in
    ap (λ (l : List ℕ). from_be_bytes w16 (take 2 l)) two ∙ from_be_bytes-to_be_bytes_2 (length c.id) low

key_is : {p : Profile} (a : AuthenticatorData) (c : AttestedCredential) (bs : List ℕ) → AuthOf p a bs → a.attested ≡ Some c
    → drop (55 + id_len_in bs) bs ≡ key_bytes c.key ++ extension_bytes a.extensions
key_is a c bs h e =
    let is = is_credential a c h.0 e in
    let front = before_id a c ++ (to_be_bytes w16 (length c.id) ++ c.id) in
    let behind = key_bytes c.key ++ extension_bytes a.extensions in
    let l = length-append (before_id a c) (to_be_bytes w16 (length c.id) ++ c.id) in
    let n = length-before_id a c h.0 is in
    let i = id_len_is a c bs h e in
    let len : length front ≡ 55 + id_len_in bs = omega (arith, l, n, i) in
    let same : bs ≡ front ++ behind = parts a c bs h e ∙ simp append_assoc in
    ap (drop (55 + id_len_in bs)) same ∙ drop_at front behind (55 + id_len_in bs) len

pub none_applies : (p : Profile) (a : AuthenticatorData) (bs : List ℕ) (e : Error) → AuthOf p a bs → Applies p bs e → ⊥
none_applies p a bs errors.Short h q = elim q [
  | inl short ↦ let l = ap length h.1 ∙ length-data a h.0 in omega (arith, l, short)
  | inr q ↦
      let some = some_credential a bs h q.0 in
      let l = length-full a some.0 bs h some.1 in
      let i = id_len_is a some.0 bs h some.1 in
      let short = q.1 in
      omega (arith, l, i, short)
]
none_applies p a bs errors.Extensions h q =
    let f = flags_are a bs h in
    let set : is_set a.flags ED ≡ true = ap (λ (f : ℕ). is_set f ED) (sym f) ∙ q.1 in
    let clear : is_some a.extensions ≡ false = ap is_some (h.0.no_extensions q.0) in
    let flag = h.0.extensions_flag in
    absurd cc
none_applies p a bs errors.BadBackup h q = q (subst HasBackup (sym (flags_are a bs h)) h.0.backup)
none_applies p a bs errors.BadId h q =
    let some = some_credential a bs h q.0 in
    let i = id_len_is a some.0 bs h some.1 in
    let is = is_credential a some.0 h.0 some.1 in
    let low = is.id_low in let high = is.id_high in
    q.1 (omega (arith, i, low), omega (arith, i, high))
none_applies p a bs errors.BadKey h q =
    let some = some_credential a bs h q.0 in
    let is = is_credential a some.0 h.0 some.1 in
    q.1 (some.0.key, extension_bytes a.extensions, is.key, key_is a some.0 bs h some.1)
none_applies p a bs errors.BadExtensions h q = q.1 a bs [] h (sym (append-nil bs))
none_applies p a bs errors.ExtraBytes h (b, front, rest, of, some, e) =
    let k = one_front p p a b bs front [] rest h of (append-nil bs ∙ e) in
    let n : length rest ≡ 0 = ap length (sym k.2) in
    omega (arith, n, some)
none_applies p a bs _ h q = q

pub key_inside : (a : AuthenticatorData) (c : AttestedCredential) (bs : List ℕ) → AuthOf Strict a bs → a.attested ≡ Some c → IsKey c.key
    × Canon (item_of c.key) (drop (55 + length c.id) bs)
key_inside a c bs h e =
    let is = is_credential a c h.0 e in
    let same : drop (55 + length c.id) bs ≡ key_bytes c.key =
    ap (λ (n : ℕ). drop (55 + n) bs) (sym (id_len_is a c bs h e)) ∙ key_is a c bs h e
    ∙ ap (λ o. key_bytes c.key ++ extension_bytes o) (h.0.no_extensions refl) ∙ append-nil (key_bytes c.key) in
    (is.key, subst (λ (l : List ℕ). Canon (item_of c.key) l) (sym same) (key_canon c.key is.key))

pub not_refused : (p : Profile) (a : AuthenticatorData) (bs : List ℕ) (e : Error) → First (Applies p bs) order e → AuthOf p a bs → ⊥
not_refused p a bs e first h = none_applies p a bs e h (stops_at first)

-- the first refusal that applies is not that memory ran out
pub no_memory : (p : Profile) (bs : List ℕ) (e : Error) → First (Applies p bs) order e → e ≡ errors.Memory → ⊥
no_memory p bs e first is = subst (λ (x : Error). Applies p bs x) is (stops_at first)

-- ---- the profiles

-- what is authenticator data in one profile is in another whose rules it meets
of_profile : (p q : Profile) (a : AuthenticatorData) → IsAuthenticatorData p a → (q ≡ Strict → a.extensions ≡ None)
    → IfSome a.attested (IsAttestedCredential q) → IsAuthenticatorData q a
of_profile p q a is none attested = record {
  rp_id_hash = is.rp_id_hash;
  flags = is.flags;
  sign_count = is.sign_count;
  attested_flag = is.attested_flag;
  extensions_flag = is.extensions_flag;
  no_extensions = none;
  backup = is.backup;
  attested = attested;
  extensions = is.extensions;
}

-- two profiles of the same limits take the same
alike : (p q : Profile) → (q ≡ Strict → ⊥) → max_id p ≡ max_id q → (a : AuthenticatorData) (bs : List ℕ) → AuthOf p a bs → AuthOf q a bs
alike p q wide same a bs h = (of_profile p q a h.0 (λ bad. absurd (wide bad)) (of a.attested h.0.attested), h.1) where
  of : (o : Option AttestedCredential) → IfSome o (IsAttestedCredential p) → IfSome o (IsAttestedCredential q)
  of None is = is
  of (Some c) is = record { aaguid = is.aaguid; id_low = is.id_low; id_high = omega (arith, is.id_high, same); key = is.key }

pub level3 : (a : AuthenticatorData) (bs : List ℕ) → AuthOf Level3 a bs ↔ AuthOf Open a bs
level3 a bs = (alike Level3 Open (λ bad. absurd cc) refl a bs, alike Open Level3 (λ bad. absurd cc) refl a bs)

to_open : (a : AuthenticatorData) (bs : List ℕ) → AuthOf Strict a bs → AuthOf Open a bs
to_open a bs h = (of_profile Strict Open a h.0 (λ bad. absurd cc) (of a.attested h.0.attested), h.1) where
  of : (o : Option AttestedCredential) → IfSome o (IsAttestedCredential Strict) → IfSome o (IsAttestedCredential Open)
  of None is = is
  of (Some c) is = record { aaguid = is.aaguid; id_low = is.id_low; id_high = omega (arith, is.id_high); key = is.key }

pub opened : (p : Profile) (a : AuthenticatorData) (bs : List ℕ) → AuthOf Strict a bs → AuthOf p a bs
opened Strict a bs h = h
opened Open a bs h = to_open a bs h
opened Level3 a bs h = (level3 a bs).1 (to_open a bs h)

pub closed : (a : AuthenticatorData) (bs : List ℕ) → AuthOf Open a bs → a.extensions ≡ None → IfSome a.attested (λ c. length c.id ≤ 64) → AuthOf Strict a bs
closed a bs h none low = (of_profile Open Strict a h.0 (λ _. none) (of a.attested h.0.attested low), h.1) where
  of : (o : Option AttestedCredential) → IfSome o (IsAttestedCredential Open) → IfSome o (λ c. length c.id ≤ 64) → IfSome o (IsAttestedCredential Strict)
  of None is low = is
  of (Some c) is low = record { aaguid = is.aaguid; id_low = is.id_low; id_high = low; key = is.key }
