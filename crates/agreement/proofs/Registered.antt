-- An accepted registration of a run answers its session.
use Rattle.std.proofs.Common.{◌≡◌, ◌⊎◌, inl, inr, ℕ, Bool, true, false, List, [], ◌∷◌, ◌++◌, refl, ◌∙◌, ap}
use Rattle.clientdata.specs.Reading.{seen_of}
use Rattle.sha2.specs.Sha256.{sha256}
use Rattle.authdata.specs.declared.profile.Profile.{Profile}
use Rattle.authdata.specs.declared.profile.Profile.TheVariants.{Level3, Open, Strict}
use Rattle.authdata.specs.Objects.{Attestation}
use Rattle.authdata.specs.Statements.{IsNone, IsSelfSigned}
use Rattle.cose.specs.Schemes.{Validity}
use Rattle.cose.specs.declared.key.CoseKey.{CoseKey}
use Rattle.verification.specs.Registration.{IsStated, counted}
use Rattle.site_state.specs.Table.{row_of}
use Rattle.site.specs.State.{SiteState, registered}
use Rattle.authenticator.specs.Steps.{Keys}
use Rattle.agreement.specs.World.{AtSite, Moment}
use Rattle.agreement.specs.Agreement.{Registered}
use Rattle.agreement.specs.Below.{Below}
use Rattle.agreement.proofs.Sites.{registered_in, unregistered}
use Rattle.agreement.proofs.Storing.{row_last}
use Rattle.agreement.proofs.Worlds.{Lived}
use Rattle.agreement.proofs.Accepted.{the_one}
use Rattle.agreement.proofs.Retired.{effect_at}

-- what the object shows, as it counts
as_shown : (valid : Validity) (p : Profile) (asked : Bool) (o : Attestation) (key : CoseKey) (hash : List ℕ) → IsStated valid (counted p asked o) key hash
    → ((p ≡ Level3) × (asked ≡ false)) ⊎ IsNone o ⊎ IsSelfSigned valid o key hash
as_shown valid Strict asked o key hash shown = inr shown
as_shown valid Open asked o key hash shown = inr shown
as_shown valid Level3 true o key hash shown = inr shown
as_shown valid Level3 false o key hash shown = inl (refl, refl)

module _ (valid : Validity) (public : Keys) (b : Below valid public) where
  pub fits_registration : (m : Moment) → Lived valid public b m → Registered valid m
  fits_registration m l i n r is =
      let effect = effect_at valid public b m (AtSite i is.event) l is.here is.done in
      let old = m.old.site i in
      let x = registered_in valid public b old effect.0 is.event n r effect.1 is.brings in
      let after = x.after in
      let e = after.0 in
      let a = after.2 in
      let c = after.3 in
      let seen = the_one (seen_of r.client_data) x.passes.1.0 in
      let absent = unregistered valid public b old effect.0 n r x in
      let rows : (m.new.site i).rows ≡ old.rows ++ registered e a c ∷ [] = ap (λ (s : SiteState). s.rows) (effect.2.now ∙ after.6) in
      record {
        expected = e;
        session = after.4;
        says = record {
          seen = seen.0;
          reads = seen.1;
          kind_is = x.passes.1.1.0 seen.0 seen.1;
          challenge_is = x.passes.1.1.1.0 e after.4 seen.0 seen.1;
          origin = x.passes.1.1.1.1.0 seen.0 seen.1;
          framed = x.passes.1.1.1.1.1.1.0 seen.0 seen.1;
        };
        object = after.1;
        auth = a;
        credential = c;
        attests = after.5;
        rp_id = x.passes.1.1.1.1.1.1.1.1.1.0 after.1 a c after.5;
        present = x.passes.1.1.1.1.1.1.1.1.1.1.0 e after.4 after.1 a c after.5;
        verified = x.passes.1.1.1.1.1.1.1.1.1.1.1.0 e after.4 after.1 a c after.5;
        offered = x.passes.1.1.1.1.1.1.1.1.1.1.1.1.0 e after.4 after.1 a c after.5;
        statement = as_shown valid old.rp.profile e.attestation after.1 c.key (sha256 r.client_data)
            (x.passes.1.1.1.1.1.1.1.1.1.1.1.1.1.1.1.0 e after.4 after.1 a c after.5);
        new = absent;
        row = registered e a c;
        stored = ap (row_of c.id) rows ∙ row_last old.rows (registered e a c) absent;
        user = refl;
        key = refl;
        sign_count = refl;
        not_retired = refl;
      }
