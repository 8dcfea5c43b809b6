-- What is owed of `Site::finish_sign_in`.
use Rattle.std.proofs.Common.{subst}
use Rattle.std.specs.Prelude.{IfOk, IfErr}
use Rattle.verification.specs.SignInAnswers.{IsRefused}
use Rattle.verification.specs.SignIn.{PassesSignIn}
use Rattle.site.specs.Answers.{IsSignedIn}
use Rattle.site.specs.State.{judged_sign_in}
use Rattle.site.proofs.site.Site.finish_sign_in.Goals as goal

pub returns-clause-accepted : goal.returns-clause-accepted
returns-clause-accepted g c =
    subst (λ r. IfOk c.finish_parts.result (λ x. PassesSignIn (g.V.Verifier.valid c.args.verifier.now) (judged_sign_in c.args.self.now c.args.session r)
    × IsSignedIn c.args.self.now r x))
    c.parts.ensures c.finish_parts.ensures.accepted

pub returns-clause-refused : goal.returns-clause-refused
returns-clause-refused g c =
    subst (λ r. IfErr c.finish_parts.result (IsRefused (g.V.Verifier.valid c.args.verifier.now) (judged_sign_in c.args.self.now c.args.session r)))
    c.parts.ensures c.finish_parts.ensures.refused
