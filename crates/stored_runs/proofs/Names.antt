-- Each credential of a history has a user and an id.
use Rattle.std.proofs.Common.{◌≡◌, ◌≤◌, ◌+◌, arith, ℕ, Bool, true, false, length, refl, sym, ap, ◌∙◌, subst, inl, inr}
use Rattle.std.proofs.lemmas.Grind.{common_steps}
use Rattle.std.proofs.lemmas.Option.{same_Some}
use Rattle.std.specs.Prelude.{IfSome, None, Option, Some, if◌then◌else◌, option_map}
use Rattle.std.specs.FinMap.{gets}
use Rattle.std.specs.FinMap as finite
use Rattle.cose.specs.Schemes.{Validity}
use Rattle.authdata.specs.declared.profile.Profile.{Profile}
use Rattle.authdata.specs.Layout.{AttestedCredential, AuthenticatorData, IsAttestedCredential}
use Rattle.authdata.specs.Responses as responses
use Rattle.verification.specs.Records.{Credential}
use Rattle.verification.specs.Registration.{Attests}
use Rattle.authdata.specs.Objects.{Attestation}
use Rattle.site_rows.specs.Held.{Placed}
use Rattle.site_state.specs.Table.{retired, signed_in}
use Rattle.authdata.specs.Flags.{is_set, BE}
use Rattle.site_stored.specs.Calls as calls
use Rattle.site_stored.specs.Calls.{is_users}
use Rattle.std.specs.Str.{bytes_eq}
use Rattle.stored_runs.specs.History.{Abandons, AreNamed, Begins, Call, Deletes, Does, Erases, Kept, Registers, Retires, RetiresAll, SignsIn}
use Rattle.stored_runs.proofs.Standing.{same_number}

abbrev IsNamed : Credential → Type 0
IsNamed c = (1 ≤ length c.user) × (1 ≤ length c.id)

put_there : (m : Placed) (place : ℕ) (c : Credential) → IsNamed c → AreNamed m → AreNamed (finite.insert m place c)
put_there m place c named are q d there = elim (same_number q place) [
  | inl same ↦ let it : c ≡ d = same_Some c d (sym (at q same) ∙ there) in subst IsNamed it named
  | inr apart ↦ are q d (sym (other q apart) ∙ there)
] where
  at : (q : ℕ) → q ≡ place → finite.get (finite.insert m place c) q ≡ Some c
  at q same = grind (arith, gets, common_steps, same)

  other : (q : ℕ) → (q ≡ place → ⊥) → finite.get (finite.insert m place c) q ≡ finite.get m q
  other q apart = grind (arith, gets, common_steps, apart)

taken_out : (m : Placed) (place : ℕ) → AreNamed m → AreNamed (finite.remove m place)
taken_out m place are q d there = elim (same_number q place) [
  | inl same ↦ let no : None ≡ Some d = sym (at q same) ∙ there in absurd cc
  | inr apart ↦ are q d (sym (other q apart) ∙ there)
] where
  at : (q : ℕ) → q ≡ place → finite.get (finite.remove m place) q ≡ None
  at q same = grind (arith, gets, common_steps, same)

  other : (q : ℕ) → (q ≡ place → ⊥) → finite.get (finite.remove m place) q ≡ finite.get m q
  other q apart = grind (arith, gets, common_steps, apart)

attested_id : (profile : Profile) (r : responses.AuthenticatorAttestationResponse) (o : Attestation) (a : AuthenticatorData) (c : AttestedCredential) → Attests profile r o a c
    → 1 ≤ length c.id
attested_id profile r o a c is = (subst (λ (x : Option AttestedCredential). IfSome x (IsAttestedCredential profile)) is.attested is.auth_data.0.attested).id_low

pub named_after : {S : Type 0} (valid : Validity) (old new : Kept S) (c : Call) → Does valid old c new → AreNamed old.placed → AreNamed new.placed
named_after valid old new (Begins o now) h are = subst AreNamed (sym h.2) are
named_after valid old new (Abandons text now) h are = subst AreNamed (sym h.0) are
named_after valid old new (Retires id true now) h are =
    subst AreNamed (sym h.0.4) (put_there old.placed h.0.0 (retired h.0.1) (are h.0.0 h.0.1 h.0.2.there) are)
named_after valid old new (Retires id false now) h are = subst AreNamed (sym h.0.0) are
named_after valid old new (Deletes id true now) h are = subst AreNamed (sym h.0.3) (taken_out old.placed h.0.0 are)
named_after valid old new (Deletes id false now) h are = subst AreNamed (sym h.0.0) are
named_after valid old new (RetiresAll user ids now) h are =
    λ q c there. among (finite.get old.placed q) c (λ d was. are q d was) (sym (h.1.1 q) ∙ there)
  where
    among : (o : Option Credential) (c : Credential) → ((d : Credential) → o ≡ Some d → IsNamed d)
        → (if is_users user o then option_map retired o else o) ≡ Some c → IsNamed c
    among None c named is = absurd cc
    among (Some d) c named is = go (bytes_eq d.user user) refl
      where
        go : (b : Bool) → bytes_eq d.user user ≡ b → IsNamed c
        go true t = subst IsNamed (same_Some (retired d) c (sym (ap (λ x. if x then Some (retired d) else Some d) t) ∙ is)) (named d refl)
        go false t = subst IsNamed (same_Some d c (sym (ap (λ x. if x then Some (retired d) else Some d) t) ∙ is)) (named d refl)
named_after valid old new (Erases user ids now) h are =
    λ q c there. among (finite.get old.placed q) c (λ d was. are q d was) (sym (h.1.1 q) ∙ there)
  where
    among : (o : Option Credential) (c : Credential) → ((d : Credential) → o ≡ Some d → IsNamed d)
        → (if is_users user o then None else o) ≡ Some c → IsNamed c
    among None c named is = absurd cc
    among (Some d) c named is = go (bytes_eq d.user user) refl
      where
        go : (b : Bool) → bytes_eq d.user user ≡ b → IsNamed c
        go true t = let no : None ≡ Some c = sym (ap (λ x. if x then None else Some d) t) ∙ is in absurd cc
        go false t = subst IsNamed (same_Some d c (sym (ap (λ x. if x then None else Some d) t) ∙ is)) (named d refl)
named_after valid old new (SignsIn n text r now) h are =
    let x = h.0.1 in
    let names = are x.place x.credential x.found.there in
    subst AreNamed (sym x.after_is) (put_there old.placed x.place (signed_in x.data_read.sign_count (is_set x.data_read.flags BE) x.credential) names are)
named_after valid old new (Registers n text r now) h are =
    let x = h.0.2 in
    let user = x.session.2.0.is.1.user.0 in
    subst AreNamed (sym x.after_is)
    (put_there old.placed (old.state.last + 1) (calls.registered x.expected x.data_read x.credential) (user, attested_id old.state.rp.profile r x.object x.data_read x.credential x.attests) are)
