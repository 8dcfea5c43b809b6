-- What the authenticator's types stand for.
use Rattle.std.specs.Prelude.{ℕ, List, [], ◌∷◌, Option, Some, None, map, reverse, string_bytes}
use Rattle.authenticator.specs.State.{CredentialSource, Asked, Remembered}
use Rattle.authenticator.specs.declared.credential.StoredCredential.{StoredCredential}
use Rattle.authenticator.specs.declared.remembered.AskedAssertion.{AskedAssertion}
use Rattle.authenticator.specs.declared.remembered.RememberedAssertion.{RememberedAssertion}
use Rattle.authenticator.specs.declared.remembered.Candidates.{Candidates}

abbrev pub credential_source_view : StoredCredential → CredentialSource
credential_source_view c = record {
  id = c.id;
  rp_id = string_bytes c.rp_id;
  user = c.user.items;
  secret = c.secret;
  alg = c.alg;
  resident = c.resident;
  sign_count = c.sign_count;
}

abbrev pub credential_sources_view : List StoredCredential → List CredentialSource
credential_sources_view cs = map credential_source_view cs

abbrev pub asked_view : AskedAssertion → Asked
asked_view a = record { channel = a.channel; client_data_hash = a.client_data_hash.items; up = a.up; uv = a.uv; consent = a.consent }

-- the later ones stand in order of creation, so the last of them comes first
abbrev pub remembered_view : RememberedAssertion → Remembered
remembered_view r = record { asked = asked_view r.asked; next = r.candidates.first; later = reverse r.candidates.later.items }

abbrev pub candidates_view : Option Candidates → List (List ℕ)
candidates_view None = []
candidates_view (Some c) = c.first ∷ reverse c.later.items
