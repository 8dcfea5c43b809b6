-- Requests as keys take them: CTAP 2.1, sections 6.1 and 6.2, in the message encoding of section 8.
use Rattle.std.specs.Prelude.{ℕ, List, [], ◌∷◌, map, true, false, Bool, Option, Some, None, option_map, ℤ, codes}
use Rattle.ccbor.specs.Item as of
use Rattle.ccbor.specs.Item.{Item}
use Rattle.ctap_encoding.specs.Table.{Members, no_more, listed, some_bytes, a_text, any_map, unsigned, list_of, record_of, sized}
use Rattle.ctap_encoding.specs.Content.{Contents}
use Rattle.ctap_encoding.specs.declared.fault.Fault.TheVariants as faults
use Rattle.ctap_requests.specs.Entities.{RpEntity, rp_members, rp_content, UserEntity, user_members, user_content, parameters_members, parameters_content}
use Rattle.ctap_requests.specs.Entities.{CreationFlags, creation_options_members, creation_options_content}
use Rattle.ctap_open_replies.specs.Replies.{credential_members, credential_content}
use Rattle.pin_client_messages.specs.Commands.{MessageOf}

-- pinUvAuthParam and pinUvAuthProtocol (section 6.5)
pub record Auth : Type 0 where
  pub param : List ℕ
  pub protocol : ℕ

-- the descriptors of a list, which is not written where it is empty
abbrev pub descriptors : List (List ℕ) → Option (List (Contents credential_members))
descriptors [] = None
descriptors (id ∷ ids) = Some (map credential_content (id ∷ ids))

-- the options, which are not written where none is there
abbrev pub options_content : CreationFlags → Option (Contents creation_options_members)
options_content o = present o.rk o.up o.uv where
  present : Option Bool → Option Bool → Option Bool → Option (Contents creation_options_members)
  present None None None = None
  present rk up uv = Some (creation_options_content (record { rk = rk; up = up; uv = uv }))

-- an algorithm that is wanted, of type public-key (WebAuthn sections 5.3 and 5.8.2)
abbrev pub algorithm_content : ℤ → Contents parameters_members
algorithm_content alg = parameters_content (record { alg = alg; kind = codes "public-key" })

-- ---- authenticatorMakeCredential (section 6.1)

pub record Creation : Type 0 where
  pub client_data_hash : List ℕ
  pub rp : RpEntity
  pub user : UserEntity
  pub algorithms : List ℤ
  pub exclude : List (List ℕ)
  pub extensions : Option Item
  pub options : CreationFlags
  pub auth : Option Auth

abbrev pub creation_members : Members
creation_members =
    listed (of.uint 1) true (sized 32 32 faults.InvalidSize some_bytes) (
    listed (of.uint 2) true (record_of rp_members) (
    listed (of.uint 3) true (record_of user_members) (
    listed (of.uint 4) true (list_of (record_of parameters_members)) (
    listed (of.uint 5) false (list_of (record_of credential_members)) (
    listed (of.uint 6) false any_map (
    listed (of.uint 7) false (record_of creation_options_members) (
    listed (of.uint 8) false some_bytes (
    listed (of.uint 9) false (unsigned 0) no_more))))))))

abbrev pub creation_content : Creation → Contents creation_members
creation_content q = (
  q.client_data_hash,
  (
    rp_content q.rp,
    (
      user_content q.user,
      (
        map algorithm_content q.algorithms,
        (
          descriptors q.exclude,
          (q.extensions, (options_content q.options, (option_map (λ a. a.param) q.auth, (option_map (λ a. a.protocol) q.auth, tt)))),
        ),
      ),
    ),
  ),
)

-- the bytes are the command byte 1 and the canonical encoding of the request's map, which has no fault by its table
abbrev pub CreationOf : Creation → List ℕ → Type 0
CreationOf q bs = MessageOf 1 creation_members (creation_content q) bs

-- ---- authenticatorGetAssertion (section 6.2)

pub record Assertion : Type 0 where
  pub rp_id : List ℕ
  pub client_data_hash : List ℕ
  pub allow : List (List ℕ)
  pub extensions : Option Item
  pub options : CreationFlags
  pub auth : Option Auth

abbrev pub assertion_members : Members
assertion_members =
    listed (of.uint 1) true (sized 1 253 faults.OverLimit a_text) (
    listed (of.uint 2) true (sized 32 32 faults.InvalidSize some_bytes) (
    listed (of.uint 3) false (list_of (record_of credential_members)) (
    listed (of.uint 4) false any_map (
    listed (of.uint 5) false (record_of creation_options_members) (
    listed (of.uint 6) false some_bytes (
    listed (of.uint 7) false (unsigned 0) no_more))))))

-- rk is no option of it
abbrev pub assertion_content : Assertion → Contents assertion_members
assertion_content q = (
  q.rp_id,
  (
    q.client_data_hash,
    (
      descriptors q.allow,
      (
        q.extensions,
        (
          options_content (record { rk = None; up = q.options.up; uv = q.options.uv }),
          (option_map (λ a. a.param) q.auth, (option_map (λ a. a.protocol) q.auth, tt)),
        ),
      ),
    ),
  ),
)

-- and the command byte 2
abbrev pub AssertionOf : Assertion → List ℕ → Type 0
AssertionOf q bs = MessageOf 2 assertion_members (assertion_content q) bs
