-- What is owed of `Authenticator::handle`.
use Rattle.std.proofs.Common.{◌≡◌, List, OnErr, ℕ, refl, subst, sym}
use Rattle.authenticator.specs.Signing.{message_of}
use Rattle.authenticator.specs.Steps.{IsSignature}
use Rattle.authenticator.proofs.Waiting.{composed_ok, on_err, replied}
use Rattle.authenticator.proofs.authenticator.Authenticator.handle.Goals as goal

pub returns-in-Replied-clause-stepped : goal.returns-in-Replied-clause-stepped
returns-in-Replied-clause-stepped g c =
    replied (g.S.Verifier.valid c.args.scheme.now) (g.S.Signer.public_of c.args.scheme.now) c.args.self.now c.begin-begun.new.self c.args.channel
    c.args.request.now c.args.consent c.args.words c.in-Replied.reply.items (rw c.in-Replied.is at (c.in_ok-reply.ensures.begun (g.S.Signer.public_of c.args.scheme.now) (λ alg. refl)))

pub returns-in_ok-signature-in-Signs-clause-stepped : goal.returns-in_ok-signature-in-Signs-clause-stepped
returns-in_ok-signature-in-Signs-clause-stepped g c =
    let valid = g.S.Verifier.valid c.args.scheme.now in
    let public = g.S.Signer.public_of c.args.scheme.now in
    let p = c.in-Signs.pending in
    composed_ok valid public c.args.self.now c.begin-begun.new.self c.finish.new.self c.args.channel
    c.args.request.now c.args.consent c.args.words p c.as_slice.result.now c.finish.result (rw c.in-Signs.is at (c.in_ok-reply.ensures.begun public (λ alg. refl)))
    (subst (λ (s : List ℕ). IsSignature valid (public p.alg p.secret) (message_of p) s) (sym c.as_slice.ensures.value)
    c.in_ok-signature-in-Signs.ensures)
    c.finish.ensures.finished

pub returns-in_err-signature-in-Signs-clause-memory : goal.returns-in_err-signature-in-Signs-clause-memory
returns-in_err-signature-in-Signs-clause-memory g c =
    let public = g.S.Signer.public_of c.args.scheme.now in
    let waits = rw c.in-Signs.is at (c.in_ok-reply.ensures.begun public (λ alg. refl)) in
    on_err c.from_residual-in_err-signature-in-Signs.result (c.begin-begun.new.self ≡ c.args.self.now) waits.0

pub returns-in_ok-signature-in-Signs-clause-memory : goal.returns-in_ok-signature-in-Signs-clause-memory
returns-in_ok-signature-in-Signs-clause-memory g c =
    let public = g.S.Signer.public_of c.args.scheme.now in
    let waits = rw c.in-Signs.is at (c.in_ok-reply.ensures.begun public (λ alg. refl)) in
    subst (λ s. OnErr c.finish.result (c.finish.new.self ≡ s)) waits.0 c.finish.ensures.memory
