-- What an act is for, by the options that it was asked with (WebAuthn Level 2, sections 5.1.3 and 5.1.4).
use Rattle.std.specs.Prelude.{◌≡◌, ℕ, List, MatchOption, false, string_bytes}
use Rattle.client.specs.Steps.{MayAsk}
use Rattle.clientdata.specs.Serialised.{client_data_text, hash_of}
use Rattle.clientdata.specs.declared.record.CeremonyType.{CeremonyType}
use Rattle.clientdata.specs.declared.record.CeremonyType.TheVariants.{Create, Get}
use Rattle.client_acts.specs.declared.act.Aim.{Aim}
use Rattle.client_acts.specs.declared.act.Aim.TheVariants as aims
use Rattle.client_acts.specs.declared.options.CreationOptions.{CreationOptions}
use Rattle.client_acts.specs.declared.options.RequestOptions.{RequestOptions}
use Rattle.client_lines.specs.declared.purpose.Purpose.{Purpose}
use Rattle.client_lines.specs.declared.purpose.Purpose.TheVariants.{Registers, SignsIn, Informs, SetsPin, ChangesPin}
use Rattle.client_lines.specs.declared.purpose.Registration.{Registration}
use Rattle.client_lines.specs.declared.purpose.SignIn.{SignIn}

-- The origin may ask for the rp id, which is the one that is named, where one is; the client data are of this ceremony, this
-- challenge and this origin, not cross-origin; and the hash is theirs (section 5.8.1).
pub record IsAskedBy (kind : CeremonyType) (challenge origin rp_id client_data hash : List ℕ) : Type 0 where
  pub may_ask : MayAsk origin rp_id
  pub text : client_data ≡ client_data_text kind challenge origin false
  pub hash_is : hash ≡ hash_of client_data

-- a registration of these options
pub record IsRegistrationOf (o : CreationOptions) (r : Registration) : Type 0 where
  pub asked : IsAskedBy Create o.challenge.items (string_bytes o.origin) (string_bytes r.rp_id) (string_bytes r.client_data) r.hash
  pub rp_id : MatchOption o.rp_id (Unit {0}) (λ id. r.rp_id ≡ id)
  pub user : r.user ≡ o.user
  pub algorithms : r.algorithms ≡ o.algorithms
  pub exclude : r.exclude ≡ o.exclude
  pub resident : r.resident ≡ o.resident
  pub verification : r.verification ≡ o.verification

-- a sign-in of these options
pub record IsSignInOf (o : RequestOptions) (s : SignIn) : Type 0 where
  pub asked : IsAskedBy Get o.challenge.items (string_bytes o.origin) (string_bytes s.rp_id) (string_bytes s.client_data) s.hash
  pub rp_id : MatchOption o.rp_id (Unit {0}) (λ id. s.rp_id ≡ id)
  pub allow : s.allow ≡ o.allow
  pub verification : s.verification ≡ o.verification

-- what an act of this aim is for
abbrev pub IsPurposeOf : Aim → Purpose → Type 0
IsPurposeOf (aims.Register o) (Registers r) = IsRegistrationOf o r
IsPurposeOf (aims.SignIn o) (SignsIn s) = IsSignInOf o s
IsPurposeOf aims.Inform p = p ≡ Informs
IsPurposeOf (aims.SetPin new) p = p ≡ SetsPin new
IsPurposeOf (aims.ChangePin new) p = p ≡ ChangesPin new
IsPurposeOf _ _ = ⊥
