-- Which replies of an authenticator a client reads, by its profile: the strict one those that `ctap_replies` has,
-- the others those that keys on sale give (CTAP 2.1, sections 6.1.2, 6.2.2 and 6.3).
use Rattle.std.specs.Prelude.{◌≡◌, ℕ, List, Option, option_map}
use Rattle.authdata.specs.declared.profile.Profile.{Profile}
use Rattle.authdata.specs.declared.profile.Profile.TheVariants as profiles
use Rattle.ctap_replies.specs.Replies.{Assertion, Creation, IsReply, ReplyRefused, assertion_reply, creation_reply}
use Rattle.ctap_replies.specs.declared.reply.Kind.TheVariants as kinds
use Rattle.ctap_encoding.specs.declared.error.Error.{Error}
use Rattle.ctap_open_replies.specs.Replies as key

-- what of a key's reply goes to the relying party: of a user the id, and none of the keys for large blobs
abbrev pub assertion_of_key : key.Assertion → Assertion
assertion_of_key k = record {
  credential = k.credential;
  auth_data = k.auth_data;
  signature = k.signature;
  user = option_map (λ u. u.id) k.user;
  number = k.number;
}

abbrev pub creation_of_key : key.Creation → Creation
creation_of_key k = record { fmt = k.fmt; auth_data = k.auth_data; statement = k.statement }

-- The bytes are this assertion. `alone` is the id of the one credential of the request's allow list, if that list
-- has exactly one; the strict profile has no use for it, since its replies tell their credential.
abbrev pub IsAssertionBy : Profile → Option (List ℕ) → Assertion → List ℕ → Type 0
IsAssertionBy profiles.Strict alone q bs = IsReply kinds.GetAssertion (assertion_reply q) bs
IsAssertionBy profile alone q bs = (k : key.Assertion) × key.IsReply (key.TellsAssertion alone) k bs × (q ≡ assertion_of_key k)

-- the bytes are none, for this reason
abbrev pub IsNoAssertionBy : Profile → Option (List ℕ) → List ℕ → Error → Type 0
IsNoAssertionBy profiles.Strict alone bs e = ReplyRefused kinds.GetAssertion bs e
IsNoAssertionBy profile alone bs e = key.Refused (key.TellsAssertion alone) bs e

-- the same for a reply to makeCredential
abbrev pub IsCreationBy : Profile → Creation → List ℕ → Type 0
IsCreationBy profiles.Strict q bs = IsReply kinds.MakeCredential (creation_reply q) bs
IsCreationBy profile q bs = (k : key.Creation) × key.IsReply key.TellsCreation k bs × (q ≡ creation_of_key k)

abbrev pub IsNoCreationBy : Profile → List ℕ → Error → Type 0
IsNoCreationBy profiles.Strict bs e = ReplyRefused kinds.MakeCredential bs e
IsNoCreationBy profile bs e = key.Refused key.TellsCreation bs e
