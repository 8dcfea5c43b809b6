-- What is owed of `token_of`.
use Rattle.client_ceremony.specs.Pieces.{so}
use Rattle.std.proofs.Common.{Bor, List, ap, inl, inr, refl, ℕ}
use Rattle.std.specs.Prelude.{option_map}
use Rattle.client_ceremony.proofs.tokens.token_of.Goals as goal

pub returns-in-None-clause-halts : goal.returns-in-None-clause-halts
returns-in-None-clause-halts c =
    so (inl ((ap (option_map (λ (b : Bor (List ℕ)). b.now)) c.in-None.is), refl))

pub returns-in-Ok-clause-token : goal.returns-in-Ok-clause-token
returns-in-Ok-clause-token c =
    (c.in-Some.token.now, (ap (option_map (λ (b : Bor (List ℕ)). b.now)) c.in-Some.is), c.in-Ok.ensures.token)

pub returns-in-Err-clause-halts : goal.returns-in-Err-clause-halts
returns-in-Err-clause-halts c =
    so (inr (c.in-Some.token.now, (ap (option_map (λ (b : Bor (List ℕ)). b.now)) c.in-Some.is), (c.in-Err.stop, c.in-Err.ensures.none, c.stopped.ensures)))
