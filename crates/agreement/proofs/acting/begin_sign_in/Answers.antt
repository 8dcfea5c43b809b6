-- What is owed of `begin_sign_in`.
use Rattle.std.proofs.Common.{arith, map}
use Rattle.std.specs.Prelude.{option_map}
use Rattle.site_state.specs.Sessions.{OpensSignIn}
use Rattle.agreement.proofs.Acted.{begins}
use Rattle.agreement.proofs.acting.begin_sign_in.Goals as goal

pub returns : goal.returns
returns c =
    begins c.args.site.now _ (OpensSignIn (option_map (λ u. u.now) c.args.user) (map (λ id. id.now) c.args.allow.now) c.args.uv c.args.words.now)
    c.begin_sign_in.result (λ i. omega (arith, c.fits-words i)) c.begin_sign_in.ensures.passes c.begin_sign_in.ensures.begun
