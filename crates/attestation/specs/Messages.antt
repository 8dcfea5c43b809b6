-- The messages that attestation signatures are over.
use Rattle.std.specs.Prelude.{ℕ, List, ◌∷◌, ◌++◌}
use Rattle.attestation.specs.declared.signature.Message.{Message}
use Rattle.attestation.specs.declared.signature.Message.TheVariants as messages

-- WebAuthn Level 2, 8.2: authenticator data, then the hash of the client data
abbrev pub response_message : List ℕ → List ℕ → List ℕ
response_message auth_data hash = auth_data ++ hash

-- 8.6: a byte 0, rpIdHash, the hash, the credential id, and the point as X9.62 writes it, without compression
abbrev pub u2f_message : List ℕ → List ℕ → List ℕ → List ℕ → List ℕ → List ℕ
u2f_message rp_id_hash hash id x y = 0x00 ∷ (rp_id_hash ++ (hash ++ (id ++ (0x04 ∷ (x ++ y)))))

abbrev pub message_bytes : Message → List ℕ
message_bytes (messages.Response auth_data hash) = response_message auth_data.now hash.now
message_bytes (messages.FidoU2f rp_id_hash hash id x y) = u2f_message rp_id_hash.now hash.now id.now x.now y.now
