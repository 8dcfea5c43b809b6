-- The plain program that private functions are proved against; no public clause cites it.
-- It reads a key from the pairs of a map, front first.
use Rattle.std.specs.Prelude.{ℕ, List, length, Option, Some, None, ◌==◌, if◌then◌else◌}
use Rattle.ccbor.specs.Item.{Item, uint, nint, Pairs}
use Rattle.ccbor.specs.Reading.{◌>>=◌}
use Rattle.ccbor.specs.View.{pairs_view}
use Rattle.ccbor.specs.Viewing.{shown_pairs}
use Rattle.ccbor.specs.Access.{split_key, is_same_key, is_end, bytes_in}
use Rattle.cose.specs.Rsa.{RsaPublicKey}
use Rattle.cose.specs.declared.key.CoseKey.{CoseKey}
use Rattle.cose.specs.declared.key.CoseKey.TheVariants as keys
use Rattle.cose.specs.declared.reading.Members.{Members}
use Rattle.cose.specs.declared.reading.Members.TheVariants as members

-- the members, wherever they lie
abbrev pub members_view : Members → Pairs
members_view (members.Made pairs) = pairs_view pairs.now
members_view (members.Lent pairs) = shown_pairs pairs

unfoldable pub constant_at : Item → Item → Pairs → Option Pairs
constant_at k v ps = do
  m ← split_key k ps
  if is_same_key m.0 v then Some m.1 else None

unfoldable pub bytes_at : Item → Pairs → Option (List ℕ × Pairs)
bytes_at k ps = do
  m ← split_key k ps
  bs ← bytes_in m.0
  Some (bs, m.1)

unfoldable pub coordinate_at : Item → Pairs → Option (List ℕ × Pairs)
coordinate_at k ps = do
  m ← bytes_at k ps
  if length m.0 == 32 then Some (m.0, m.1) else None

unfoldable pub es256_at : Pairs → Option CoseKey
es256_at ps = do
  ps ← constant_at (uint 1) (uint 2) ps
  ps ← constant_at (uint 3) (nint 6) ps
  ps ← constant_at (nint 0) (uint 1) ps
  x ← coordinate_at (nint 1) ps
  y ← coordinate_at (nint 2) x.1
  if is_end y.1 then Some (keys.Es256 x.0 y.0) else None

unfoldable pub eddsa_at : Pairs → Option CoseKey
eddsa_at ps = do
  ps ← constant_at (uint 1) (uint 1) ps
  ps ← constant_at (uint 3) (nint 7) ps
  ps ← constant_at (nint 0) (uint 6) ps
  x ← coordinate_at (nint 1) ps
  if is_end x.1 then Some (keys.EdDsa x.0) else None

-- the modulus and the exponent as they are
unfoldable pub rsa_at : Pairs → Option RsaPublicKey
rsa_at ps = do
  ps ← constant_at (uint 1) (uint 3) ps
  ps ← constant_at (uint 3) (nint 256) ps
  n ← bytes_at (nint 0) ps
  e ← bytes_at (nint 1) n.1
  if is_end e.1 then Some (record { n = n.0; e = e.0 }) else None
