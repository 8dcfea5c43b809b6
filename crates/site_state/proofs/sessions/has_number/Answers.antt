-- What is owed of `has_number`.
use Rattle.std.proofs.Common.{◌≡◌, ◌∙◌, drop, subst, sym}
use Rattle.std.proofs.Math.Dec.{eqb}
use Rattle.std.proofs.lemmas.Bool.Decides.{Decides-eqb}
use Rattle.std.proofs.lemmas.Slice.Eq.{starts_is}
use Rattle.std.specs.Int.{w64, to_be_bytes}
use Rattle.std.specs.List.{starts_with}
use Rattle.site_state.proofs.sessions.has_number.Goals as goal

pub returns-then-number-next : goal.returns-then-number-next
returns-then-number-next c =
    let challenge = c.challenge_in-challenge.result.now in
    let value = subst (λ p. c.starts_with.result ≡ starts_with eqb challenge p) c.to_be_bytes.ensures c.starts_with.ensures.value in
    let is = starts_is Decides-eqb challenge (to_be_bytes w64 c.args.number) c.starts_with.result value in (
      λ t. (c.if-number-next.true, (drop 8 challenge, sym c.challenge_in-challenge.ensures ∙ is.0 t)),
      λ has. is.1 has.1.0 (c.challenge_in-challenge.ensures ∙ has.1.1),
    )
