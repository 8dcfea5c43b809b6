-- What a client asks an authenticator for: WebAuthn Level 2, sections 5.1.3 and 5.1.4; CTAP 2.1, sections 6.1
-- and 6.2.
use Rattle.std.specs.Prelude.{◌≡◌, ◌≤◌, ℕ, List, [], ◌∷◌, map, length, Bool, true, false, ◌||◌, Option, Some, None, codes, if◌then◌else◌}
use Rattle.refusal_order.specs.Lines.{Each, FirstFailing}
use Rattle.hidframe.specs.declared.Packet.{Packet}
use Rattle.hidframe.specs.declared.ctaphid.TheConstants.{CTAPHID_CBOR, MAX_PAYLOAD_SIZE}
use Rattle.hidframe.specs.Frames.{TheZeroFrames}
use Rattle.clientdata.specs.declared.record.CeremonyType.TheVariants.{Create, Get}
use Rattle.clientdata.specs.Serialised.{client_data_text, hash_of}
use Rattle.cose.specs.declared.key.Alg.{Alg}
use Rattle.cose.specs.Keys.{number_of}
use Rattle.ctap_requests.specs.Entities.{CredentialDescriptor, CredentialParameters, CreationFlags, AssertionFlags}
use Rattle.ctap_requests.specs.Requests.{AssertionRequest, CreationRequest, RequestMessage, RequestOf, make_credential, get_assertion}
use Rattle.ctap_requests.specs.Status.{NoStatus}
use Rattle.client.specs.declared.error.RequestError.{RequestError}
use Rattle.client.specs.declared.error.RequestError.TheVariants as refusals
use Rattle.client.specs.declared.outgoing.Outgoing.{Outgoing}
use Rattle.client.specs.Options.{SignInOptions, RegistrationOptions}
use Rattle.client.specs.Origins.{IsOriginOn, IsRpIdOf}

-- ---- members

-- the type of a public key credential (WebAuthn, section 5.8.2)
abbrev pub public_key : List ℕ
public_key = codes "public-key"

-- a credential's descriptor (WebAuthn, section 5.8.3)
abbrev pub descriptor_of : List ℕ → CredentialDescriptor
descriptor_of id = record { id = id; kind = public_key }

-- a list of them, left out where it is empty
abbrev pub descriptors_of : List (List ℕ) → Option (List CredentialDescriptor)
descriptors_of [] = None
descriptors_of (id ∷ ids) = Some (map descriptor_of (id ∷ ids))

-- an algorithm that is wanted (WebAuthn, section 5.3)
abbrev pub parameters_of : Alg → CredentialParameters
parameters_of alg = record { alg = number_of alg; kind = public_key }

-- an option, left out where it is false
abbrev pub wanted : Bool → Option Bool
wanted flag = if flag then Some true else None

-- the options, left out where there is none
abbrev pub assertion_flags : Bool → Option AssertionFlags
assertion_flags uv = if uv then Some (record { up = None; uv = Some true }) else None

abbrev pub creation_flags : Bool → Bool → Option CreationFlags
creation_flags rk uv = if rk || uv then Some (record { rk = wanted rk; up = None; uv = wanted uv }) else None

-- ---- the calls

-- who asks for which relying party: the caller's origin and the rp id; the client data, and the request
pub record ClientCall : Type 0 where
  pub origin : List ℕ
  pub rp_id : List ℕ
  pub client_data : List ℕ
  pub request : RequestMessage

-- the client data of a sign-in at an origin, which is not cross-origin (WebAuthn, section 5.8.1)
abbrev pub sign_in_data : List ℕ → SignInOptions → List ℕ
sign_in_data origin o = client_data_text Get o.challenge origin false

-- what authenticatorGetAssertion is asked for with these client data
abbrev pub assertion_of : SignInOptions → List ℕ → AssertionRequest
assertion_of o client_data = record {
  rp_id = o.rp_id;
  client_data_hash = hash_of client_data;
  allow_list = descriptors_of o.allow;
  options = assertion_flags o.uv;
}

-- a sign-in (section 5.1.4)
abbrev pub sign_in_call : List ℕ → SignInOptions → ClientCall
sign_in_call origin o = record {
  origin = origin;
  rp_id = o.rp_id;
  client_data = sign_in_data origin o;
  request = get_assertion (assertion_of o (sign_in_data origin o));
}

-- the client data of a registration
abbrev pub registration_data : List ℕ → RegistrationOptions → List ℕ
registration_data origin o = client_data_text Create o.challenge origin false

-- what authenticatorMakeCredential is asked for with these client data
abbrev pub creation_of : RegistrationOptions → List ℕ → CreationRequest
creation_of o client_data = record {
  client_data_hash = hash_of client_data;
  rp = record { id = o.rp_id; name = Some o.rp_name };
  user = record { id = o.user_id; name = Some o.user_name; display_name = Some o.display_name };
  pub_key_cred_params = map parameters_of o.algs;
  exclude_list = descriptors_of o.exclude;
  options = creation_flags o.rk o.uv;
}

-- a registration (section 5.1.3)
abbrev pub registration_call : List ℕ → RegistrationOptions → ClientCall
registration_call origin o = record {
  origin = origin;
  rp_id = o.rp_id;
  client_data = registration_data origin o;
  request = make_credential (creation_of o (registration_data origin o));
}

-- ---- what is handed out

-- the client data, for the relying party, and the packets, for the authenticator
pub record Sent : Type 0 where
  pub client_data : List ℕ
  pub packets : List Packet

abbrev pub sent_view : Outgoing → Sent
sent_view out = record { client_data = out.client_data.items; packets = out.packets.items }

-- the bytes are the request's, without extensions, and no reader refuses them
abbrev pub IsWritten : RequestMessage → List ℕ → Type 0
IsWritten q bs = RequestOf q None bs × NoStatus bs

-- the client data are the call's, and the packets are its request on the channel, as CBOR and zero-filled
pub record Asks (x : ClientCall) (c : ℕ) (out : Sent) : Type 0 where
  pub client_data : out.client_data ≡ x.client_data
  pub message : List ℕ
  pub written : IsWritten x.request message
  pub packets : TheZeroFrames c CTAPHID_CBOR message out.packets

-- ---- refusals

-- what a call has to meet, a line a refusal
abbrev pub PassesRequestStep : ClientCall → RequestError → Type 0
-- the origin is one on some host
PassesRequestStep x refusals.BadOrigin = (host : List ℕ) × IsOriginOn host x.origin
-- the rp id is one of that host
PassesRequestStep x refusals.RpIdNotOfOrigin = (host : List ℕ) → IsOriginOn host x.origin → IsRpIdOf host x.rp_id
-- the request has bytes
PassesRequestStep x refusals.Unfit = (bs : List ℕ) × IsWritten x.request bs
-- they fit into a message
PassesRequestStep x refusals.TooLong = (bs : List ℕ) → IsWritten x.request bs → length bs ≤ MAX_PAYLOAD_SIZE
PassesRequestStep x refusals.Memory = Unit {0}

-- the refusals in their order
abbrev pub refusals_in_order : List RequestError
refusals_in_order = refusals.BadOrigin ∷ refusals.RpIdNotOfOrigin ∷ refusals.Unfit ∷ refusals.TooLong ∷ []

abbrev pub PassesRequest : ClientCall → Type 0
PassesRequest x = Each (PassesRequestStep x) refusals_in_order

-- the first line that the call does not meet: it meets each earlier one
abbrev pub IsRefused : ClientCall → RequestError → Type 0
IsRefused x refusals.Memory = Unit {0}
IsRefused x e = FirstFailing (PassesRequestStep x) refusals_in_order e
