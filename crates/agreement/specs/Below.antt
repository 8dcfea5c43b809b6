-- What is used of the laws of the crates below.
use Rattle.std.specs.Prelude.{◌≡◌, ◌++◌, ℕ, List}
use Rattle.base64.specs.GeneralPurpose.{IsBytes}
use Rattle.clientdata.specs.Serialised.{challenge_text_of}
use Rattle.cose.specs.Keys.{alg_of, signed_alg}
use Rattle.cose.specs.Schemes.{Validity}
use Rattle.cose.specs.declared.key.SigningAlg.{SigningAlg}
use Rattle.authdata.specs.declared.profile.Profile.{Profile}
use Rattle.authdata.specs.declared.profile.Profile.TheVariants.{Strict}
use Rattle.authdata.specs.Layout.{AuthenticatorData, AuthOf}
use Rattle.authdata.specs.Objects.{Attestation, ObjectOf}
use Rattle.site.specs.Laws.{SiteLaws}
use Rattle.authenticator.specs.Laws.{StepLaws}
use Rattle.authenticator.specs.Saved.{SavingLaws}
use Rattle.authenticator.specs.Steps.{Keys}
use Rattle.agreement.specs.Links.{Links}

-- bytes are one object, and of one authenticator's data
pub record Readings : Type 0 where
  pub one_object : (o p : Attestation) (bs : List ℕ) → ObjectOf o bs → ObjectOf p bs → o ≡ p
  pub one_value : (p q : Profile) (a b : AuthenticatorData) (bs : List ℕ) → AuthOf p a bs → AuthOf q b bs → a ≡ b
  pub one_front : (p q : Profile) (a b : AuthenticatorData) (x y u v : List ℕ) → AuthOf p a x → AuthOf q b y → x ++ u ≡ y ++ v
      → (a ≡ b) × (x ≡ y) × (u ≡ v)
  -- each profile takes what the strict one takes
  pub taken : (p : Profile) (a : AuthenticatorData) (bs : List ℕ) → AuthOf Strict a bs → AuthOf p a bs

-- a secret's public key has the algorithm that it was made for
abbrev pub KeepsAlg : Keys → Type 0
KeepsAlg public = (alg : SigningAlg) (secret : List ℕ) → alg_of (public alg secret) ≡ signed_alg alg

pub record Below (valid : Validity) (public : Keys) : Type 0 where
  pub links : Links
  pub readings : Readings
  pub challenge_texts : (a b : List ℕ) → IsBytes a → IsBytes b → challenge_text_of a ≡ challenge_text_of b → a ≡ b
  pub sites : SiteLaws valid
  pub steps : StepLaws valid public
  pub saving : SavingLaws
