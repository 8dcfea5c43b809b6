-- What is owed of `StoredSite::create`.
use Rattle.std.proofs.Common.{rules, arith}
use Rattle.std.specs.FinMap.{len-empty}
use Rattle.std.specs.Ordering.{nat_cmp}
use Rattle.verification.specs.Records.{Credential}
use Rattle.site_stored.proofs.New.{none_there}
use Rattle.site_stored.proofs.kept.StoredSite.create.Goals as goal

pub returns-in-Ok-clause-made : goal.returns-in-Ok-clause-made
returns-in-Ok-clause-made g c = record {
  started = search rules;
  next = search rules;
  given = search (rules, arith);
  held = λ clean. record {
    holds = c.in-Ok.ensures.held clean;
    count = len-empty nat_cmp Credential;
    last = λ place d there. absurd (none_there place d there);
  };
  key = λ clean. c.in-Ok.ensures.key clean;
  none = λ clean. c.in-Ok.ensures.none clean;
}
