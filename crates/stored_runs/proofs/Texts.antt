-- Texts that were handed out: each is that of one session, whose number is its own.
use Rattle.std.proofs.Common.{◌≡◌, ◌<◌, ◌≤◌, ◌+◌, ◌^◌, ◌↔◌, length, inl, inr, ℕ, zero, suc, Bool, true, false, List, [], ◌∷◌, ◌++◌, filter, refl, sym, ap, ◌∙◌, subst, arith, cond}
use Rattle.std.proofs.lemmas.Grind.{common_steps}
use Rattle.std.proofs.lemmas.List.Elements.{Contains-append_cases}
use Rattle.std.specs.Prelude.{Contains, IfSome, None, Option, Some, min, nat_lt}
use Rattle.sha2.specs.Sha256.{sha256}
use Rattle.cose.specs.Schemes.{Validity}
use Rattle.verification.specs.Records.{Credential, ExpectedSignIn}
use Rattle.verification.specs.SignIn.{JudgedSignIn, PassesSignInStep}
use Rattle.verification.specs.declared.refusal.SignInRefusal.{SignInRefusal}
use Rattle.site_state.specs.Sessions.{IsInput, Opening, OpensRegistration, OpensSignIn, challenge_of, expected_of, max_listed, sign_in_of}
use Rattle.site.specs.Laws.{SiteLaws}
use Rattle.site_rows.specs.Endings.{Endings}
use Rattle.site_seal.specs.Judged.{TellsApart, judged_by}
use Rattle.site_seal.specs.Seal.{IsExpectedOf, IsSession, IsSignIn, IsWithin, Session, sealed_sign_in, sealed_text}
use Rattle.site_seal.proofs.Texts.{sealed_within}
use Rattle.sqlite_trees.proofs.ListLemmas.{all_weaker}
use Rattle.authdata.specs.Profiles.{max_id}
use Rattle.authdata.specs.declared.profile.Profile.{Profile}
use Rattle.authdata.specs.declared.profile.Profile.TheVariants.{Level3, Open, Strict}
use Rattle.std.specs.Option.{ForSome}
use Rattle.std.proofs.lemmas.List.{length-append}
use Rattle.site_stored.specs.Laws.{KeptLaws}
use Rattle.site_stored.specs.Sessions.{IsOpen, ceremony_of, challenge_in, last_second, longest, until}
use Rattle.site_stored.specs.State.{StoredState}
use Rattle.agreement.specs.World.{words_of}
use Rattle.stored_runs.specs.History.{AreBegun, Begun, Begins, IsSealed, MayBegin, begun_at, begun_by, session_in}

-- ---- the laws that this one stands on

pub record Laws (valid : Validity) : Type 0 where
  pub stored : KeptLaws
  pub site : SiteLaws valid
  pub one_text : (key rp_id_hash other_key other_rp_id_hash : List ℕ) (s t : Session) → IsSession s → IsSession t
      → sealed_text key rp_id_hash s ≡ sealed_text other_key other_rp_id_hash t → s ≡ t
  pub same_steps : (key : List ℕ) (e f : ExpectedSignIn) (x : JudgedSignIn) (c : Credential) (step : SignInRefusal)
      → 1 ≤ length c.user → 1 ≤ length x.response.credential → TellsApart key e c.user x.response.credential
      → IsExpectedOf key (sealed_sign_in key e) c.user x.response.credential f
      → PassesSignInStep valid (judged_by x e c) step ↔ PassesSignInStep valid (judged_by x f c) step

-- ---- lists

pub among : {X : Type 0} (test : X → Bool) (xs : List X) (x : X) → Contains (filter test xs) x → Contains xs x × (test x ≡ true)
among test [] x there = let bad : there.0 < 0 = there.1 in absurd (omega arith)
among {X} test (y ∷ ys) x there = go (among test ys x) (test y) refl
  where
    further : Contains ys x × (test x ≡ true) → Contains (y ∷ ys) x × (test x ≡ true)
    further more = ((suc more.0.0, omega (arith, more.0.1), more.0.2), more.1)

    first : (Contains (filter test ys) x → Contains ys x × (test x ≡ true)) → test y ≡ true → Contains (y ∷ filter test ys) x
        → Contains (y ∷ ys) x × (test x ≡ true)
    first rest t (zero, within, is) = ((zero, omega arith, is), ap test (sym is) ∙ t)
    first rest t (suc k, within, is) = further (rest (k, omega (arith, within), is))

    go : (Contains (filter test ys) x → Contains ys x × (test x ≡ true)) → (b : Bool) → test y ≡ b → Contains (y ∷ ys) x × (test x ≡ true)
    go rest true t = first rest t (subst (λ (b : Bool). Contains (cond b (y ∷ filter test ys) (filter test ys)) x) t there)
    go rest false t = further (rest (subst (λ (b : Bool). Contains (cond b (y ∷ filter test ys) (filter test ys)) x) t there))

pub only_one : {X : Type 0} (y x : X) → Contains (y ∷ []) x → y ≡ x
only_one y x (zero, within, is) = is
only_one y x (suc k, within, is) = absurd (omega (arith, within))

-- ---- what may begin

few : (profile : Profile) (n : ℕ) → n ≤ max_listed profile → n ≤ 64
few Strict n le = omega (arith, le)
few Open n le = le
few Level3 n le = le

short : (profile : Profile) (id : List ℕ) → IsWithin (max_id profile) id → IsWithin 1023 id
short Strict id w = (w.0, omega (arith, w.1))
short Open id w = w
short Level3 id w = w

named : (user : Option (List ℕ)) → ForSome user (IsWithin 64) → IfSome user (IsWithin 64)
named None f = tt
named (Some u) f = f u refl

sealable : (profile : Profile) (n : ℕ) (user : Option (List ℕ)) (allow : List (List ℕ)) (uv : Bool) (words : List ℕ)
    → IsInput profile (OpensSignIn user allow uv words) → IsSignIn (sign_in_of n user allow uv words)
sealable profile n user allow uv words i = record {
  user = named user i.0;
  count = few profile (length allow) i.1;
  allow = all_weaker _ _ (short profile) allow i.2;
}

whole : (n : ℕ) (words : List ℕ) → length words ≡ 24 → length (challenge_of n words) ≡ 32
whole n words is = rw length-append (omega (arith, is))

in_time : (now seconds : ℕ) → until now seconds < 2 ^ 64
in_time now seconds = go (nat_lt (now + seconds) last_second) refl
  where
    go : (b : Bool) → nat_lt (now + seconds) last_second ≡ b → until now seconds < 2 ^ 64
    go true t = grind (arith, common_steps, t)
    go false t = grind (arith, common_steps, t)

numbered : (key : List ℕ) (n : ℕ) (o : Opening) → challenge_in (ceremony_of key (expected_of n o)) ≡ challenge_of n (words_of o)
numbered key n (OpensSignIn user allow uv words) = refl
numbered key n (OpensRegistration user algorithms uv words asks) = refl

-- an open session by a text that was handed out is the one of that text
pub own_session : {S : Type 0} (valid : Validity) (laws : Laws valid) (s : StoredState S) (ended : Endings) (now : ℕ) (text : List ℕ) (n : ℕ) (x : Session) (b : Begun)
    → s.next < 2 ^ 63 → b.number < s.next → IsSealed s.key s.rp.rp_id b → b.text ≡ text → IsOpen s ended now text n x
    → (session_in s.key b ≡ x) × (b.number ≡ n)
own_session valid laws s ended now text n x b below given begun same is =
    let mine : session_in s.key b ≡ x =
    laws.one_text s.key (sha256 s.rp.rp_id) s.key (sha256 s.rp.rp_id) (session_in s.key b) x begun.is is.0.is (sym begun.text ∙ same ∙ is.0.sealed) in
    let its = is.0.given in
    let challenges : challenge_of b.number (words_of b.opening) ≡ challenge_of n is.0.number.0 =
    sym (numbered s.key b.number b.opening) ∙ ap (λ (y : Session). challenge_in y.ceremony) mine ∙ is.0.number.1 in
    (mine, (laws.site.one_number b.number n (words_of b.opening) is.0.number.0 (omega arith) (omega arith) challenges).0)

-- what is within the limits a text can hold
pub fits : {S : Type 0} (s : StoredState S) (o : Opening) (now : ℕ) → MayBegin s.rp.profile o → IsSession (session_in s.key (begun_at s o now))
fits s (OpensSignIn user allow uv words) now may = (
  in_time now (min s.lifetime longest),
  sealed_within s.key (sign_in_of s.next user allow uv words) (sealable s.rp.profile s.next user allow uv words may.0) (whole s.next words may.1),
)
fits s (OpensRegistration user algorithms uv words asks) now may =
    (in_time now (min s.lifetime longest), record { user = may.0.0; algorithms = may.2; challenge = whole s.next words may.1 })

-- a session more
pub one_more : {S : Type 0} (s : StoredState S) (o : Opening) (now : ℕ) (bs : List Begun) → MayBegin s.rp.profile o → AreBegun s.key s.rp.rp_id s.next bs
    → AreBegun s.key s.rp.rp_id (s.next + 1) (bs ++ begun_by s (Begins o now))
one_more s o now bs may are = record {
  each = λ b there. elim (Contains-append_cases bs (begun_at s o now ∷ []) b there) [
    | inl old ↦ are.each b old
    | inr last ↦ subst (λ (c : Begun). IsSealed s.key s.rp.rp_id c) (only_one (begun_at s o now) b last) (record { text = refl; is = fits s o now may })
  ];
  given = λ b there. elim (Contains-append_cases bs (begun_at s o now ∷ []) b there) [
    | inl old ↦ let below = are.given b old in omega arith
    | inr last ↦ let same : s.next ≡ b.number = ap (λ (c : Begun). c.number) (only_one (begun_at s o now) b last) in omega arith
  ];
  own = λ b c there here same. elim (Contains-append_cases bs (begun_at s o now ∷ []) b there) [
    | inl old ↦ elim (Contains-append_cases bs (begun_at s o now ∷ []) c here) [
      | inl too ↦ are.own b c old too same
      | inr last ↦ let below = are.given b old in let number : s.next ≡ c.number = ap (λ (d : Begun). d.number) (only_one (begun_at s o now) c last) in absurd (omega arith)
    ]
    | inr last ↦ elim (Contains-append_cases bs (begun_at s o now ∷ []) c here) [
      | inl too ↦ let below = are.given c too in let number : s.next ≡ b.number = ap (λ (d : Begun). d.number) (only_one (begun_at s o now) b last) in absurd (omega arith)
      | inr too ↦ sym (only_one (begun_at s o now) b last) ∙ only_one (begun_at s o now) c too
    ]
  ];
}
