-- What the run that is written out is made of: a relying party, what its sessions ask for, and what the authenticator is
-- handed; and that its requests and its replies have bytes.
use Rattle.std.proofs.Common.{◌≡◌, ◌≤◌, ℕ, List, [], ◌∷◌, true, false, None, length, refl, arith, rules, codes, replicate}
use Rattle.sha2.specs.Sha256.{sha256}
use Rattle.sha2.proofs.Facts256.{length-sha256}
use Rattle.ccbor.specs.Item.{Item}
use Rattle.ccbor.specs.Canon.{Fits, before, head, spelling}
use Rattle.cose.specs.declared.key.Alg.TheVariants as algs
use Rattle.ctap_replies.proofs.Texts.{plain}
use Rattle.ctap_requests.specs.Requests.{assertion_item, creation_item, get_assertion, make_credential}
use Rattle.ctap_requests.specs.Status.{IsRequest}
use Rattle.ctap_requests.proofs.Laws.{assertion_is, creation_is}
use Rattle.client.specs.Asked.{IsWritten, assertion_of, creation_of}
use Rattle.client.specs.Options.{RegistrationOptions, SignInOptions}
use Rattle.authenticator.specs.declared.consent.Consent.{Consent}
use Rattle.authenticator.specs.declared.consent.Words.{Words}
use Rattle.authenticator.proofs.Replies.{short}
use Rattle.hidframe.proofs.Bytes.{AreBytes, bytes-cons}
use Rattle.agreement.proofs.Spelled.{HasBytes, sha256_bytes, small, spelled}

-- ---- the relying party and the options

abbrev pub rp_id : List ℕ
rp_id = codes "example.com"

abbrev pub origin : List ℕ
origin = codes "https://example.com"

abbrev pub user : List ℕ
user = 1 ∷ []

-- an id, and a secret
abbrev pub zeros : List ℕ
zeros = replicate 32 0

abbrev pub words : Words
words = record { id = zeros; secret = zeros }

abbrev pub consent : Consent
consent = record { present = true; verified = true }

-- a resident credential by EdDSA
abbrev pub registering : List ℕ → RegistrationOptions
registering challenge = record {
  challenge = challenge;
  rp_id = rp_id;
  rp_name = codes "Example";
  user_id = user;
  user_name = codes "a";
  display_name = codes "A";
  algs = algs.EdDsa ∷ [];
  exclude = [];
  rk = true;
  uv = false;
}

-- by any credential
abbrev pub signing_in : List ℕ → SignInOptions
signing_in challenge = record { challenge = challenge; rp_id = rp_id; allow = []; uv = false }

-- ---- requests, whatever the challenge and the client data are

module _ (challenge text : List ℕ) where
  size : length (sha256 text) ≡ 32
  size = length-sha256 text

  abbrev creation_value : Item
  creation_value = creation_item (creation_of (registering challenge) text) None

  creation_fits : Fits 4 creation_value
  unfolding head before
  creation_fits = search (rules, arith, size, plain)

  abbrev pub creating : List ℕ
  creating = 1 ∷ spelling creation_value

  pub creation_request : IsRequest (make_credential (creation_of (registering challenge) text)) creating
  creation_request =
      creation_is creation_value (spelling creation_value) (creation_fits, refl) (creation_of (registering challenge) text) (rw size refl)

  pub creation_written : IsWritten (make_credential (creation_of (registering challenge) text)) creating
  creation_written = ((spelling creation_value, refl, (creation_fits, refl)), creation_request.clean)

  creation_parts : HasBytes creation_value
  creation_parts = search (rules, sha256_bytes text, small)

  pub creation_bytes : AreBytes creating
  creation_bytes = bytes-cons 1 (spelling creation_value) (omega arith) (spelled 4 creation_value creation_fits creation_parts)

  abbrev assertion_value : Item
  assertion_value = assertion_item (assertion_of (signing_in challenge) text) None

  assertion_fits : Fits 4 assertion_value
  unfolding head before
  assertion_fits = search (rules, arith, size, plain)

  abbrev pub asserting : List ℕ
  asserting = 2 ∷ spelling assertion_value

  pub assertion_request : IsRequest (get_assertion (assertion_of (signing_in challenge) text)) asserting
  assertion_request =
      assertion_is assertion_value (spelling assertion_value) (assertion_fits, refl) (assertion_of (signing_in challenge) text) (rw size refl)

  pub assertion_written : IsWritten (get_assertion (assertion_of (signing_in challenge) text)) asserting
  assertion_written = ((spelling assertion_value, refl, (assertion_fits, refl)), assertion_request.clean)

  assertion_parts : HasBytes assertion_value
  assertion_parts = search (rules, sha256_bytes text, small)

  pub assertion_bytes : AreBytes asserting
  assertion_bytes = bytes-cons 2 (spelling assertion_value) (omega arith) (spelled 4 assertion_value assertion_fits assertion_parts)

  -- they are few

  pub creating_size : length creating ≤ 7609
  creating_size = let most = short creation_value in omega (arith, size, most)

  pub asserting_size : length asserting ≤ 7609
  asserting_size = let most = short assertion_value in omega (arith, size, most)
