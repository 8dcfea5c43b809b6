-- What is owed of `passkey_key_from_cose`.
use Rattle.std.proofs.Common.{rules}
use Rattle.passkey_c.proofs.keys.passkey_key_from_cose.Goals as goal

pub returns-in-None : goal.returns-in-None
returns-in-None c = record {
  is = (λ h. search rules, λ w. absurd (c.in-None.ensures w.0 w.1));
  told = search rules;
  untouched = search rules;
}
