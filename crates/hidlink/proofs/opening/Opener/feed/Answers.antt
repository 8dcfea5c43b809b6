-- What is owed of `Opener::feed`.
use Rattle.std.proofs.Common.{◌≡◌, ℕ, [], ◌∷◌, ◌++◌, sym, ap, subst}
use Rattle.std.specs.Prelude.{Option}
use Rattle.hidlink.specs.Opens.{Asked, Heard}
use Rattle.hidlink.proofs.opening.Opener.feed.Goals as goal

pub returns-clause-heard : goal.returns-clause-heard
returns-clause-heard c = λ ps h.
    let nonce : c.self.inside.nonce ≡ c.args.self.now.nonce = ap Asked.nonce c.self.view_is in
    let channel : c.self.inside.channel ≡ c.args.self.now.channel = ap Asked.channel c.self.view_is in
    subst (λ n. Heard n (ps ++ c.args.packet.now ∷ []) c.channel_after-self-inside.result) nonce
    (c.channel_after-self-inside.ensures ps
    (subst (λ n. Heard n ps c.self.inside.channel) (sym nonce) (subst (λ (o : Option ℕ). Heard c.args.self.now.nonce ps o) (sym channel) h)))
