-- Attestation statements and their one encoding: WebAuthn Level 2, section 8, the syntax of each format, in canonical CBOR.
use Rattle.std.specs.Prelude.{◌≤◌, ℕ, List, [], ◌∷◌, length, map, take, codes, Option, Some, None}
use Rattle.ccbor.specs.Item as of
use Rattle.ccbor.specs.Item.{Item, Items, Pairs, no_items, item, no_pairs, pair, text, array}
use Rattle.ccbor.specs.Canon.{Canon}
use Rattle.attestation.specs.declared.algorithm.Algorithm.{Algorithm}
use Rattle.attestation.specs.declared.certificate_list.Certificates.{Certificates}
use Rattle.attestation.specs.declared.statement.Format.{Format}
use Rattle.attestation.specs.declared.statement.Format.TheVariants as formats
use Rattle.attestation.specs.declared.statement.Statement.{Statement}
use Rattle.attestation.specs.declared.statement.Content.{Content}
use Rattle.attestation.specs.declared.statement.Content.TheVariants as contents
use Rattle.attestation.specs.Algorithms.{algorithm_item}

-- a statement, without where it lies in memory
pub data StatementForm : Type 0 where
  no_attestation : StatementForm
  -- packed without x5c: alg, sig
  self_attestation : Algorithm → List ℕ → StatementForm
  -- packed: alg, sig, x5c
  packed : Algorithm → List ℕ → List (List ℕ) → StatementForm
  -- sig, x5c
  fido_u2f : List ℕ → List (List ℕ) → StatementForm
  -- x5c; alg where it is there
  apple : Option Algorithm → List (List ℕ) → StatementForm

abbrev pub certificates_view : Certificates → List (List ℕ)
certificates_view c = map (λ b. b.now) (take c.count c.list)

abbrev pub content_view : Content → List (List ℕ) → StatementForm
content_view contents.None cs = no_attestation
content_view (contents.SelfSigned a sig) cs = self_attestation a sig.now
content_view (contents.Packed a sig) cs = packed a sig.now cs
content_view (contents.FidoU2f sig) cs = fido_u2f sig.now cs
content_view (contents.Apple a) cs = apple a cs

abbrev pub statement_view : Statement → StatementForm
statement_view s = content_view s.content (certificates_view s.certificates)

-- ---- syntax

-- attestation statement format identifiers: 8.1
abbrev pub format_name : Format → List ℕ
format_name formats.None = codes "none"
format_name formats.Packed = codes "packed"
format_name formats.FidoU2f = codes "fido-u2f"
format_name formats.Apple = codes "apple"

abbrev pub format_of : StatementForm → Format
format_of no_attestation = formats.None
format_of (self_attestation a sig) = formats.Packed
format_of (packed a sig cs) = formats.Packed
format_of (fido_u2f sig cs) = formats.FidoU2f
format_of (apple a cs) = formats.Apple

-- x5c: the certificates as byte strings, the leaf first
abbrev pub byte_strings : List (List ℕ) → Items
byte_strings [] = no_items
byte_strings (c ∷ cs) = item (of.bytes c) (byte_strings cs)

abbrev pub x5c_item : List (List ℕ) → Item
x5c_item cs = array (byte_strings cs)

abbrev pub with_alg : Algorithm → Pairs → Pairs
with_alg a ps = pair (text (codes "alg")) (algorithm_item a) ps

-- a byte string of this name
abbrev pub with_bytes : List ℕ → List ℕ → Pairs → Pairs
with_bytes name bs ps = pair (text name) (of.bytes bs) ps

abbrev pub with_sig : List ℕ → Pairs → Pairs
with_sig sig ps = with_bytes (codes "sig") sig ps

abbrev pub with_x5c : List (List ℕ) → Pairs → Pairs
with_x5c cs ps = pair (text (codes "x5c")) (x5c_item cs) ps

-- 8.8 has no alg; what Apple's devices send has one
abbrev pub with_optional_alg : Option Algorithm → Pairs → Pairs
with_optional_alg None ps = ps
with_optional_alg (Some a) ps = with_alg a ps

-- the members of a statement, in the order of canonical CBOR: 8.7; 8.2; 8.6; 8.8
abbrev pub members_of : StatementForm → Pairs
members_of no_attestation = no_pairs
members_of (self_attestation a sig) = with_alg a (with_sig sig no_pairs)
members_of (packed a sig cs) = with_alg a (with_sig sig (with_x5c cs no_pairs))
members_of (fido_u2f sig cs) = with_sig sig (with_x5c cs no_pairs)
members_of (apple a cs) = with_optional_alg a (with_x5c cs no_pairs)

-- ---- limits

-- the leaf is there, and no more certificates than are taken
pub record AreCertificates (cs : List (List ℕ)) : Type 0 where
  pub some : 1 ≤ length cs
  pub limit : length cs ≤ 8

abbrev pub HasCertificates : StatementForm → Type 0
HasCertificates no_attestation = Unit {0}
HasCertificates (self_attestation a sig) = Unit {0}
HasCertificates (packed a sig cs) = AreCertificates cs
HasCertificates (fido_u2f sig cs) = AreCertificates cs
HasCertificates (apple a cs) = AreCertificates cs

-- the bytes, of which at most so many are taken, are the statement's
pub record StatementOf (f : StatementForm) (bs : List ℕ) : Type 0 where
  pub certificates : HasCertificates f
  pub size : length bs ≤ 65536
  pub canon : Canon (of.map (members_of f)) bs
