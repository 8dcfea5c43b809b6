-- What is owed of `transports`.
use Rattle.std.proofs.Common.{refl, rules}
use Rattle.std.specs.Prelude.{codes, string_bytes}
use Rattle.serde_json.specs.View.{view}
use Rattle.site_acts.proofs.Amiss.{many_transports, transports_amiss}
use Rattle.site_acts.proofs.Lists.{texts_are}
use Rattle.site_acts.proofs.transports.transports.Goals as goal

pub returns-clause-found : goal.returns-clause-found
returns-clause-found c =
    texts_are string_bytes (codes "transports") (view c.args.line.now) c.in_ok-items.items.now c.in_ok-list.list.items c.in_ok-items.ensures.found c.in_ok-list.ensures.found

pub returns-in_err-list-clause-amiss : goal.returns-in_err-list-clause-amiss
returns-in_err-list-clause-amiss c =
    let amiss = transports_amiss _ (view c.args.line.now) c.in_ok-items.items.now c.in_err-list.field-0.0 c.in_ok-items.ensures.found c.in_err-list.ensures.refused in
    search (rules, amiss)

pub returns-then-items-gt-MOST_TRANSPORTS-clause-amiss : goal.returns-then-items-gt-MOST_TRANSPORTS-clause-amiss
returns-then-items-gt-MOST_TRANSPORTS-clause-amiss c = (refl, many_transports (codes "transports") (view c.args.line.now) c.in_ok-items.items.now c.in_ok-items.ensures.found (search rules))
