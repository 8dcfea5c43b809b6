-- What the loop of `parameters` keeps.
use Rattle.std.proofs.Common.{◌≡◌, map, take}
use Rattle.ctap_requests.specs.RequestView.{parameters_view}
use Rattle.client.specs.Asked.{parameters_of}
use Rattle.client.proofs.entities.parameters.Given as goal

abbrev pub invariant-loop-alg : goal.invariant-loop-alg
invariant-loop-alg l = map parameters_view l.all.items ≡ map parameters_of (take l.alg-index l.algs)
