-- What is owed of `serve`.
use Rattle.std.proofs.Common.{◌≡◌, List, ℕ, subst, sym}
use Rattle.std.specs.Prelude.{OnErr}
use Rattle.hidlink.specs.Ranks.{DeviceState, IsWorking}
use Rattle.authenticator.proofs.Waiting.{on_err}
use Rattle.authenticator.specs.Signing.{message_of}
use Rattle.authenticator.specs.Steps.{IsSignature}
use Rattle.security_key.proofs.Acting.{agrees_itself, asks_at_work, at_once, both}
use Rattle.security_key.proofs.serving.serve.Goals as goal

pub returns-in-Done-clause-served : goal.returns-in-Done-clause-served
returns-in-Done-clause-served g c =
    at_once (g.S.Verifier.valid c.args.scheme.now) (g.S.Signer.public_of c.args.scheme.now) c.args.device.now c.begin_serving-served.new.device
    c.args.authenticator.now c.begin_serving-served.new.authenticator c.args.act c.in-Done.field-0 c.args.out.now.items
    c.begin_serving-served.new.out.items (rw c.in-Done.is at (c.in_ok-served.ensures.begun (g.S.Signer.public_of c.args.scheme.now) (agrees_itself c.args.act (g.S.Signer.public_of c.args.scheme.now))))

pub returns-in_ok-signature-in-Signs-clause-served : goal.returns-in_ok-signature-in-Signs-clause-served
returns-in_ok-signature-in-Signs-clause-served g c =
    let valid = g.S.Verifier.valid c.args.scheme.now in
    let public = g.S.Signer.public_of c.args.scheme.now in
    let p = c.in-Signs.pending in
    both valid public c.args.device.now c.begin_serving-served.new.device c.finish_serving.new.device c.args.authenticator.now
    c.begin_serving-served.new.authenticator c.finish_serving.new.authenticator c.args.act p c.as_slice.result.now c.args.out.now.items
    c.begin_serving-served.new.out.items c.finish_serving.new.out.items c.finish_serving.result (rw c.in-Signs.is at (c.in_ok-served.ensures.begun public (agrees_itself c.args.act public)))
    (subst (λ (s : List ℕ). IsSignature valid (public p.alg p.secret) (message_of p) s) (sym c.as_slice.ensures.value)
    c.in_ok-signature-in-Signs.ensures)
    c.finish_serving.ensures.finished

pub returns-in_err-signature-in-Signs-clause-device : goal.returns-in_err-signature-in-Signs-clause-device
returns-in_err-signature-in-Signs-clause-device g c =
    let public = g.S.Signer.public_of c.args.scheme.now in
    let waits = rw c.in-Signs.is at (c.in_ok-served.ensures.begun public (agrees_itself c.args.act public)) in
    on_err c.from_residual-in_err-signature-in-Signs.result (c.begin_serving-served.new.device ≡ c.args.device.now) waits.1

pub returns-in_err-signature-in-Signs-clause-authenticator : goal.returns-in_err-signature-in-Signs-clause-authenticator
returns-in_err-signature-in-Signs-clause-authenticator g c =
    let public = g.S.Signer.public_of c.args.scheme.now in
    let waits = rw c.in-Signs.is at (c.in_ok-served.ensures.begun public (agrees_itself c.args.act public)) in
    on_err c.from_residual-in_err-signature-in-Signs.result (c.begin_serving-served.new.authenticator ≡ c.args.authenticator.now) waits.2

pub returns-in_err-signature-in-Signs-clause-out : goal.returns-in_err-signature-in-Signs-clause-out
returns-in_err-signature-in-Signs-clause-out g c =
    let public = g.S.Signer.public_of c.args.scheme.now in
    let waits = rw c.in-Signs.is at (c.in_ok-served.ensures.begun public (agrees_itself c.args.act public)) in
    on_err c.from_residual-in_err-signature-in-Signs.result (c.begin_serving-served.new.out.items ≡ c.args.out.now.items) waits.3

pub returns-in_ok-signature-in-Signs-clause-not_working : goal.returns-in_ok-signature-in-Signs-clause-not_working
returns-in_ok-signature-in-Signs-clause-not_working g c is =
    let public = g.S.Signer.public_of c.args.scheme.now in
    let waits = rw c.in-Signs.is at (c.in_ok-served.ensures.begun public (agrees_itself c.args.act public)) in
    let working = asks_at_work public c.args.device.now.state c.args.authenticator.now c.args.act c.in-Signs.pending waits.0 in
    absurd (c.finish_serving.ensures.not_working is (subst (λ (d : DeviceState). IsWorking d.state) (sym waits.1) working))

pub returns-in_ok-signature-in-Signs-clause-device : goal.returns-in_ok-signature-in-Signs-clause-device
returns-in_ok-signature-in-Signs-clause-device g c =
    let public = g.S.Signer.public_of c.args.scheme.now in
    let waits = rw c.in-Signs.is at (c.in_ok-served.ensures.begun public (agrees_itself c.args.act public)) in
    subst (λ old. OnErr c.finish_serving.result (c.finish_serving.new.device ≡ old)) waits.1 c.finish_serving.ensures.device

pub returns-in_ok-signature-in-Signs-clause-authenticator : goal.returns-in_ok-signature-in-Signs-clause-authenticator
returns-in_ok-signature-in-Signs-clause-authenticator g c =
    let public = g.S.Signer.public_of c.args.scheme.now in
    let waits = rw c.in-Signs.is at (c.in_ok-served.ensures.begun public (agrees_itself c.args.act public)) in
    subst (λ old. OnErr c.finish_serving.result (c.finish_serving.new.authenticator ≡ old)) waits.2 c.finish_serving.ensures.authenticator

pub returns-in_ok-signature-in-Signs-clause-out : goal.returns-in_ok-signature-in-Signs-clause-out
returns-in_ok-signature-in-Signs-clause-out g c =
    let public = g.S.Signer.public_of c.args.scheme.now in
    let waits = rw c.in-Signs.is at (c.in_ok-served.ensures.begun public (agrees_itself c.args.act public)) in
    subst (λ old. OnErr c.finish_serving.result (c.finish_serving.new.out.items ≡ old)) waits.3 c.finish_serving.ensures.out
