use Rattle.std.proofs.Common.{◌≡◌, ◌++◌, map, take}
use Rattle.std.specs.List.{concat}
use Rattle.site_seal.specs.Seal.{id_hash}
use Rattle.site_seal.proofs.sealing.push_ids.Given as goal

abbrev pub invariant-loop-id : goal.invariant-loop-id
invariant-loop-id l = l.text.items ≡ l.fn.text.items ++ concat (map (id_hash l.key l.session.challenge) (map (λ id. id.items) (take l.id-index l.session.allow.items)))
