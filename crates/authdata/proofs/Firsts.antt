-- The first refusal that applies.
use Rattle.std.proofs.Common.{◌≡◌, ℕ, ◌<◌, ◌^◌, true, false, List, [], ◌∷◌, ◌++◌, length, Bool, Option, Some, None, option_map, is_some, refl, sym, ap}
use Rattle.std.proofs.Common.{◌∙◌, append_assoc, append-nil, arith, inl, inr}
use Rattle.std.specs.Prelude.{IfSome, IsTrue}
use Rattle.std.specs.Int.{w32, to_be_bytes}
use Rattle.refusal_order.specs.Lines.{First}
use Rattle.refusal_order.proofs.Laws.{first_at, first_behind}
use Rattle.authdata.specs.declared.error.Error.{Error}
use Rattle.authdata.specs.declared.error.Error.TheVariants as errors
use Rattle.authdata.specs.declared.auth.AttestedView.{AttestedView}
use Rattle.authdata.specs.Flags.{is_set, HasBackup, AT, ED}
use Rattle.authdata.specs.declared.profile.Profile.{Profile}
use Rattle.authdata.specs.declared.profile.Profile.TheVariants.{Strict}
use Rattle.authdata.specs.Layout.{AttestedCredential, AuthenticatorData, IsAttestedCredential, IsAuthenticatorData, attested_bytes}
use Rattle.authdata.specs.Layout.{IsExtensionMap, lent_attested_view, data_bytes, extension_bytes}
use Rattle.authdata.specs.Refusals.{flags_in, Applies, IsAttested, later_order, order}
use Rattle.authdata.specs.Private.{BeginsWithExtensions, WrongCredential}
use Rattle.authdata.proofs.Unique.{same_front}

pub lifted : (p : Profile) (bs : List ℕ) (e : Error) → (Applies p bs errors.Short → ⊥) → (Applies p bs errors.Extensions → ⊥)
    → (Applies p bs errors.BadBackup → ⊥)
    → First (Applies p bs) later_order e → First (Applies p bs) order e
lifted p bs e s x b h = first_behind (errors.Short ∷ errors.Extensions ∷ errors.BadBackup ∷ []) (s, (x, (b, tt))) h

pub short_first : (p : Profile) (bs : List ℕ) → Applies p bs errors.Short → First (Applies p bs) order errors.Short
short_first p bs q = first_at 0 refl tt q

pub extensions_first : (p : Profile) (bs : List ℕ) → (Applies p bs errors.Short → ⊥) → Applies p bs errors.Extensions
    → First (Applies p bs) order errors.Extensions
extensions_first p bs s q = first_at 1 refl (s, tt) q

pub backup_first : (p : Profile) (bs : List ℕ) → (Applies p bs errors.Short → ⊥) → (Applies p bs errors.Extensions → ⊥) → Applies p bs errors.BadBackup
    → First (Applies p bs) order errors.BadBackup
backup_first p bs s x q = first_at 2 refl (s, (x, tt)) q

pub extra_first : (p : Profile) (bs : List ℕ) → (Applies p bs errors.Short → ⊥) → (Applies p bs errors.Extensions → ⊥) → (Applies p bs errors.BadBackup → ⊥)
    → (Applies p bs errors.BadId → ⊥)
    → (Applies p bs errors.BadKey → ⊥) → (Applies p bs errors.BadExtensions → ⊥) → Applies p bs errors.ExtraBytes → First (Applies p bs) order errors.ExtraBytes
extra_first p bs s x b i k m q = first_at 6 refl (s, (x, (b, (i, (k, (m, tt)))))) q

-- what a test told
pub out : {A : Type 0} {b : Bool} → (IsTrue b → A) × (A → IsTrue b) → b ≡ false → A → ⊥
out same f a = let t = same.1 a in absurd cc

pub no_map_first : (p : Profile) (bs : List ℕ) → (Applies p bs errors.Short → ⊥) → (Applies p bs errors.Extensions → ⊥)
    → (Applies p bs errors.BadBackup → ⊥) → (Applies p bs errors.BadId → ⊥) → (Applies p bs errors.BadKey → ⊥)
    → Applies p bs errors.BadExtensions → First (Applies p bs) order errors.BadExtensions
no_map_first p bs s x b i k q = first_at 5 refl (s, (x, (b, (i, (k, tt))))) q

-- what reading the credential found wrong
pub credential_refused : (p : Profile) (bs : List ℕ) (e : Error) → IsAttested bs → WrongCredential p bs e → First (Applies p bs) later_order e
credential_refused p bs e at wrong = elim wrong [
  | inl q ↦ rw q.0 (first_at 0 refl tt (at, q.1))
  | inr q ↦ rw q.0 (first_at 1 refl ((λ h. h.1 q.1), tt) (at, q.2))
]

pub is_some-map : {A B : Type 0} (f : A → B) (o : Option A) → is_some (option_map f o) ≡ is_some o
is_some-map f None = refl
is_some-map f (Some x) = refl

-- the parts that were read, as authenticator data
abbrev pub auth_from : List ℕ → ℕ → ℕ → Option AttestedCredential → Option (List ℕ) → AuthenticatorData
auth_from hash flags count m x = record { rp_id_hash = hash; flags = flags; sign_count = count; attested = m; extensions = x }

-- what was read: the bytes are the fixed part, then the credential and the rest; the flags are the bytes' own
pub record WasRead (p : Profile) (bs hash : List ℕ) (flags count : ℕ) (o : Option AttestedView) (rest : List ℕ) : Type 0 where
  pub hash_length : length hash ≡ 32
  pub flags_low : flags < 256
  pub count_low : count < 2 ^ 32
  pub flags_same : flags ≡ flags_in bs
  pub at : is_set (flags_in bs) AT ≡ is_some o
  pub backup : HasBackup flags
  pub attested : IfSome (option_map lent_attested_view o) (IsAttestedCredential p)
  pub behind : List ℕ
  pub parts : bs ≡ hash ++ (flags ∷ (to_be_bytes w32 count ++ behind))
  pub credential : behind ≡ attested_bytes (option_map lent_attested_view o) ++ rest

-- the bytes are the parts, and what is left
whole : {p : Profile} {bs hash rest : List ℕ} {flags count : ℕ} {o : Option AttestedView} (w : WasRead p bs hash flags count o rest)
    → bs ≡ hash ++ (flags ∷ (to_be_bytes w32 count ++ (attested_bytes (option_map lent_attested_view o) ++ rest)))
whole {p} {bs} {hash} {rest} {flags} {count} w =
    w.parts ∙ ap (λ (l : List ℕ). hash ++ (flags ∷ (to_be_bytes w32 count ++ l))) w.credential

flag_of : {p : Profile} {bs hash rest : List ℕ} {flags count : ℕ} {o : Option AttestedView} (w : WasRead p bs hash flags count o rest)
    → is_set flags AT ≡ is_some (option_map lent_attested_view o)
flag_of {p} {bs} {hash} {rest} {flags} {count} {o} w = ap (λ (n : ℕ). is_set n AT) w.flags_same ∙ w.at ∙ sym (is_some-map lent_attested_view o)

pub auth_is : {p : Profile} {bs hash rest : List ℕ} {flags count : ℕ} {o : Option AttestedView} (x : Option (List ℕ))
    → WasRead p bs hash flags count o rest → is_set flags ED ≡ is_some x → ((p ≡ Strict) × (is_set flags ED ≡ true) → ⊥) → IfSome x IsExtensionMap
    → IsAuthenticatorData p (auth_from hash flags count (option_map lent_attested_view o) x)
auth_is x w ed strict is = record {
  rp_id_hash = w.hash_length;
  flags = w.flags_low;
  sign_count = w.count_low;
  attested_flag = flag_of w;
  extensions_flag = ed;
  no_extensions = λ e. none x (λ some. strict (e, ed ∙ some));
  backup = w.backup;
  attested = w.attested;
  extensions = is;
} where
  none : (o : Option (List ℕ)) → (is_some o ≡ true → ⊥) → o ≡ None
  none None not = refl
  none (Some y) not = absurd (not refl)

pub parts_join : {p : Profile} {bs hash rest : List ℕ} {flags count : ℕ} {o : Option AttestedView} (x : Option (List ℕ)) (left : List ℕ)
    → WasRead p bs hash flags count o rest → rest ≡ extension_bytes x ++ left
    → bs ≡ data_bytes (auth_from hash flags count (option_map lent_attested_view o) x) ++ left
parts_join {p} {bs} {hash} {rest} {flags} {count} {o} x left w e =
    whole w ∙ ap (λ (l : List ℕ). hash ++ (flags ∷ (to_be_bytes w32 count ++ (attested_bytes (option_map lent_attested_view o) ++ l)))) e
    ∙ simp append_assoc

pub parts_whole : {p : Profile} {bs hash rest : List ℕ} {flags count : ℕ} {o : Option AttestedView} (x : Option (List ℕ)) (left : List ℕ)
    → WasRead p bs hash flags count o rest → rest ≡ extension_bytes x ++ left → (0 < length left → ⊥)
    → bs ≡ data_bytes (auth_from hash flags count (option_map lent_attested_view o) x)
parts_whole x [] w e none = parts_join x [] w e ∙ append-nil _
parts_whole x (y ∷ ys) w e none = absurd (none (omega arith))

pub extra_applies : {p : Profile} {bs hash rest : List ℕ} {flags count : ℕ} {o : Option AttestedView} (x : Option (List ℕ)) (left : List ℕ)
    → (w : WasRead p bs hash flags count o rest) → IsAuthenticatorData p (auth_from hash flags count (option_map lent_attested_view o) x)
    → rest ≡ extension_bytes x ++ left → 0 < length left → Applies p bs errors.ExtraBytes
extra_applies x left w is e some = (_, _, left, (is, refl), some, parts_join x left w e)

-- where no map of extensions follows, no front of the bytes is authenticator data
pub no_map_applies : {p : Profile} {bs hash rest : List ℕ} {flags count : ℕ} {o : Option AttestedView} (w : WasRead p bs hash flags count o rest)
    → is_set flags ED ≡ true → (BeginsWithExtensions rest → ⊥) → Applies p bs errors.BadExtensions
no_map_applies {p} {bs} {hash} {rest} {flags} {count} {o} w ed none = (
  ap (λ (n : ℕ). is_set n ED) (sym w.flags_same) ∙ ed,
  λ a front left of e.
      let k = same_front p p (option_map lent_attested_view o) hash flags count rest left a w.hash_length w.count_low (flag_of w) w.attested of.0
      (sym (whole w) ∙ e ∙ ap (λ (l : List ℕ). l ++ left) of.1) in
      let some : is_some a.extensions ≡ true = sym of.0.extensions_flag ∙ ap (λ (n : ℕ). is_set n ED) (sym k.0.1) ∙ ed in
      begins a.extensions some of.0.extensions left k.2,
) where
  begins : (x : Option (List ℕ)) → is_some x ≡ true → IfSome x IsExtensionMap → (left : List ℕ) → rest ≡ extension_bytes x ++ left → ⊥
  begins None some is left e = absurd cc
  begins (Some map) some is left e = none (map, left, is, e)
