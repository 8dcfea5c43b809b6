-- What is owed of `StoredSite::open`.
use Rattle.std.proofs.Common.{rules, sym, subst}
use Rattle.site_stored.specs.State.{HoldsSite}
use Rattle.site_stored.proofs.kept.StoredSite.open.Goals as goal

pub returns-in-Ok-clause-opened : goal.returns-in-Ok-clause-opened
returns-in-Ok-clause-opened g c = record {
  started = search rules;
  next = search rules;
  fits = c.in-Ok.ensures.limits.1;
  key = search rules;
  party = search rules;
  held = λ clean placed next h.
      let found = c.in-Ok.ensures.found clean placed next (subst (λ id. HoldsSite placed id next (g.S.Store.view c.read_all.new.store).trees) (sym c.rp_id.ensures) h) in
      record {
        holds = subst (λ n. HoldsSite placed c.args.opening.party.rp_id n (g.S.Store.view c.read_all.new.store).trees) (sym found.0) h;
        count = found.1;
        last = found.2;
      };
  newer = search rules;
}
