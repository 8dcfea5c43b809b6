-- What is owed of `session_in`.
use Rattle.std.proofs.Common.{ℕ, ap, ◌∙◌}
use Rattle.site_seal.specs.Seal.{text_of}
use Rattle.site_seal.proofs.Texts.{no_registration, no_sign_in}
use Rattle.site_seal.proofs.opening.session_in.Goals as goal

pub returns-in-None-clause-none : goal.returns-in-None-clause-none
returns-in-None-clause-none c =
    let front = c.in-Some.front in
    let kind = ap (λ (k : ℕ). text_of k front.ends front.challenge front.rest.now) c.in-1.is in
    no_registration c.args.text.now front.challenge front.rest.now front.ends (c.in-Some.ensures.parts ∙ kind) c.in-Some.ensures.challenge
    (rw c.in-None.is at c.in_ok-session-in-1.ensures.none)

pub returns-in-None-2-clause-none : goal.returns-in-None-2-clause-none
returns-in-None-2-clause-none c =
    let front = c.in-Some.front in
    let kind = ap (λ (k : ℕ). text_of k front.ends front.challenge front.rest.now) c.in-2.is in
    no_sign_in c.args.text.now front.challenge front.rest.now front.ends (c.in-Some.ensures.parts ∙ kind) c.in-Some.ensures.challenge
    (rw c.in-None-2.is at c.in_ok-session-in-2.ensures.none)
