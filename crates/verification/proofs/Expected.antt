-- Client data that are the expected text say what is expected.
use Rattle.std.proofs.Common.{◌≡◌, ◌⊎◌, ℕ, Bool, true, false, List, Some, refl, ap, inl, inr, ◌∙◌}
use Rattle.refusal_order.specs.Lines.{Each}
use Rattle.clientdata.specs.Reading.{crossing_of, seen_of}
use Rattle.clientdata.specs.Serialised.{challenge_text_of, type_of}
use Rattle.clientdata.specs.declared.record.CeremonyType.{CeremonyType}
use Rattle.clientdata.specs.declared.seen.Binding.TheVariants.{Absent}
use Rattle.clientdata.specs.declared.seen.CrossOrigin.TheVariants as cross
use Rattle.clientdata.specs.declared.seen.TopOrigin.TheVariants as top
use Rattle.clientdata.specs.declared.seen.Seen.{Seen}
use Rattle.authdata.specs.declared.profile.Profile.TheVariants.{Level3}
use Rattle.clientdata.proofs.ReadBack.{seen_of-text}
use Rattle.verification.specs.Records.{RelyingParty}
use Rattle.verification.specs.ClientData.{IsSerialised, PassesClientDataStep, client_data_order}
use Rattle.verification.specs.Shared.{HasType, HasChallenge, HasOrigin, HasNoBinding, HasTopOrigin, IsUnframed, MayBeFramed}
use Rattle.verification.proofs.Steps.{of_some}

not_cross : (says : Bool) → says ≡ false → (crossing_of says ≡ cross.Absent) ⊎ (crossing_of says ≡ cross.False)
not_cross false unsaid = inr refl
not_cross true unsaid = absurd cc

pub expected_says : (kind : CeremonyType) (challenge t : List ℕ) (rp : RelyingParty) → IsSerialised kind challenge rp t
    → Each (PassesClientDataStep kind challenge rp t) client_data_order
expected_says kind challenge t rp (origin, cross, crosses, there, utf8, is) =
    let seen : Seen = record {
      kind = type_of kind;
      challenge = challenge_text_of challenge;
      origin = origin;
      binding = Absent;
      cross_origin = crossing_of cross;
      top_origin = top.Absent;
    } in
    let alone : rp.profile ≡ Level3 → IsUnframed seen = λ level3. (not_cross cross (crosses level3), refl) in
    let e : seen_of t ≡ Some seen = ap seen_of is ∙ seen_of-text kind challenge origin cross utf8 in (
      rw e refl,
      (
        of_some (HasType kind) (seen_of t) seen e refl,
        (
          of_some (HasChallenge challenge) (seen_of t) seen e refl,
          (
            of_some (HasOrigin rp) (seen_of t) seen e there,
            (
              of_some (MayBeFramed rp) (seen_of t) seen e (λ level3. inl (alone level3)),
              (
                of_some (HasTopOrigin rp) (seen_of t) seen e (λ level3. inl (alone level3)),
                (of_some (HasNoBinding rp.profile) (seen_of t) seen e (inl refl), tt),
              ),
            ),
          ),
        ),
      ),
    )
