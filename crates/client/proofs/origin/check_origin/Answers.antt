-- What is owed of `check_origin`.
use Rattle.std.proofs.Common.{sym, ◌∙◌, ap}
use Rattle.std.specs.Prelude.{option_copied}
use Rattle.client.specs.Origins.{IsOriginOn}
use Rattle.client.proofs.origin.check_origin.Goals as goal

pub returns-then-not-is_rp_id_of-clause-refused : goal.returns-then-not-is_rp_id_of-clause-refused
returns-then-not-is_rp_id_of-clause-refused c =
    let u = c.in_ok-url.ensures.url in
    let on : IsOriginOn c.in-Some.host.now c.args.origin.now = record {
      size = u.size;
      url = c.in_ok-url.url;
      read = u.read;
      scheme = u.scheme;
      domain = sym c.domain.ensures ∙ ap option_copied c.in-Some.is;
      serialised = u.serialised;
    } in
    (c.in-Some.host.now, on, λ own. let yes = c.is_rp_id_of.ensures.1 own in let off = c.if-not-is_rp_id_of.true in absurd cc)
