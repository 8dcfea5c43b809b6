-- What is owed of `passkey_key_to_cose`.
use Rattle.std.proofs.Common.{arith, rules}
use Rattle.std.proofs.lemmas.Grind.{common_steps, elements, moves, pieces}
use Rattle.passkey_c.proofs.keys.passkey_key_to_cose.Goals as goal

pub returns : goal.returns
returns c = record {
  kept = first_of (search rules, grind (arith, common_steps));
  written = first_of (search rules, grind (arith, common_steps));
  untouched = first_of (grind (arith, elements), grind (arith, moves), search (pieces, arith));
}
