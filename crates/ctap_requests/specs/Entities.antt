-- The maps inside requests: each as a table of its members, the key, whether it is required, and what it
-- holds; and as a record, whose content by the table stands beside it. CTAP 2.1, sections 6.1 and 6.2, names
-- them by WebAuthn's dictionaries.
use Rattle.std.specs.Prelude.{ℕ, List, Bool, true, false, Option, ℤ, codes}
use Rattle.ccbor.specs.Item as of
use Rattle.ctap_encoding.specs.Table.{Members, no_more, listed, a_number, some_bytes, a_text, a_truth, sized}
use Rattle.ctap_encoding.specs.Content.{Contents}
use Rattle.ctap_encoding.specs.declared.fault.Fault.TheVariants as faults

-- ---- PublicKeyCredentialDescriptor (WebAuthn section 5.8.3)

pub record CredentialDescriptor : Type 0 where
  pub id : List ℕ
  pub kind : List ℕ

abbrev pub descriptor_members : Members
descriptor_members =
    listed (of.text (codes "id")) true (sized 1 64 faults.OverLimit some_bytes) (
    listed (of.text (codes "type")) true a_text no_more)

abbrev pub descriptor_content : CredentialDescriptor → Contents descriptor_members
descriptor_content q = (q.id, (q.kind, tt))

-- ---- PublicKeyCredentialRpEntity (WebAuthn section 5.4.2)

pub record RpEntity : Type 0 where
  pub id : List ℕ
  pub name : Option (List ℕ)

abbrev pub rp_members : Members
rp_members =
    listed (of.text (codes "id")) true (sized 1 253 faults.OverLimit a_text) (
    listed (of.text (codes "name")) false a_text no_more)

abbrev pub rp_content : RpEntity → Contents rp_members
rp_content q = (q.id, (q.name, tt))

-- ---- PublicKeyCredentialUserEntity (WebAuthn section 5.4.3)

pub record UserEntity : Type 0 where
  pub id : List ℕ
  pub name : Option (List ℕ)
  pub display_name : Option (List ℕ)

abbrev pub user_members : Members
user_members =
    listed (of.text (codes "id")) true (sized 1 64 faults.OverLimit some_bytes) (
    listed (of.text (codes "name")) false a_text (
    listed (of.text (codes "displayName")) false a_text no_more))

abbrev pub user_content : UserEntity → Contents user_members
user_content q = (q.id, (q.name, (q.display_name, tt)))

-- ---- PublicKeyCredentialParameters (WebAuthn section 5.3)

pub record CredentialParameters : Type 0 where
  pub alg : ℤ
  pub kind : List ℕ

abbrev pub parameters_members : Members
parameters_members =
    listed (of.text (codes "alg")) true a_number (
    listed (of.text (codes "type")) true a_text no_more)

abbrev pub parameters_content : CredentialParameters → Contents parameters_members
parameters_content q = (q.alg, (q.kind, tt))

-- ---- options of authenticatorMakeCredential (CTAP 2.1, section 6.1)

pub record CreationFlags : Type 0 where
  pub rk : Option Bool
  pub up : Option Bool
  pub uv : Option Bool

abbrev pub creation_options_members : Members
creation_options_members =
    listed (of.text (codes "rk")) false a_truth (
    listed (of.text (codes "up")) false a_truth (
    listed (of.text (codes "uv")) false a_truth no_more))

abbrev pub creation_options_content : CreationFlags → Contents creation_options_members
creation_options_content q = (q.rk, (q.up, (q.uv, tt)))

-- ---- options of authenticatorGetAssertion (CTAP 2.1, section 6.2)

pub record AssertionFlags : Type 0 where
  pub up : Option Bool
  pub uv : Option Bool

abbrev pub assertion_options_members : Members
assertion_options_members =
    listed (of.text (codes "up")) false a_truth (
    listed (of.text (codes "uv")) false a_truth no_more)

abbrev pub assertion_options_content : AssertionFlags → Contents assertion_options_members
assertion_options_content q = (q.up, (q.uv, tt))
