-- Keys, as lines have them.
use Rattle.std.proofs.Common.{◌≡◌, ℕ, List, codes, sym, subst}
use Rattle.cose.specs.declared.key.Alg.{Alg}
use Rattle.cose.specs.declared.key.Alg.TheVariants as algs
use Rattle.cose.specs.declared.key.CoseKey.{CoseKey}
use Rattle.serde_json.specs.Data.{Data}
use Rattle.verification.specs.Coordinates.{key_with}
use Rattle.json_lines.specs.Members.{HasBytes}
use Rattle.site_acts.specs.Lines.{HasKey}
use Rattle.site_acts.specs.Faults.{HasYOf, IsAlgorithmOf}

has_key : (d : Data) (alg : Alg) (x y : List ℕ) → IsAlgorithmOf d alg → HasBytes (codes "x") d x → HasYOf alg d y → HasKey d (key_with alg x y)
has_key d algs.Es256 x y a has_x has_y = record { algorithm = a; x = has_x; y = has_y }
has_key d algs.EdDsa x y a has_x has_y = record { algorithm = a; x = has_x; y = has_y }
has_key d algs.Rs256 x y a has_x has_y = record { algorithm = a; x = has_x; y = has_y }

pub key_is : (d : Data) (alg : Alg) (x y : List ℕ) (key : CoseKey) → IsAlgorithmOf d alg → HasBytes (codes "x") d x → HasYOf alg d y → key ≡ key_with alg x y → HasKey d key
key_is d alg x y key a has_x has_y is = subst (HasKey d) (sym is) (has_key d alg x y a has_x has_y)
