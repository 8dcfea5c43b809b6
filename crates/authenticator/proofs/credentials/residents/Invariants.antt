-- What the loop of `residents` keeps.
use Rattle.std.proofs.Common.{◌≡◌, ◌++◌, [], None, map, take}
use Rattle.std.specs.Prelude.{filter, option_to_list}
use Rattle.authenticator.specs.Credentials.{is_resident_for}
use Rattle.authenticator.specs.Views.{credential_source_view}
use Rattle.authenticator.proofs.credentials.residents.Given as goal

-- the last one found, after those before it
abbrev pub invariant-loop-credential : goal.invariant-loop-credential
invariant-loop-credential l = (l.later.items ++ option_to_list l.last ≡ map (λ c. c.id)
    (filter (λ c. is_resident_for l.rp_id (credential_source_view c)) (take l.credential-index l.credentials)))
    × (l.last ≡ None → l.later.items ≡ [])
