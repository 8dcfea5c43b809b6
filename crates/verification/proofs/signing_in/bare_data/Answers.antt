-- What is owed of `bare_data`.
use Rattle.std.proofs.Common.{◌≡◌, ap, sym, ◌∙◌}
use Rattle.authdata.specs.Flags.{is_set, AT}
use Rattle.authdata.specs.Layout.{lent_auth_view}
use Rattle.authdata.proofs.Unique.{one_value}
use Rattle.verification.proofs.signing_in.bare_data.Goals as goal

pub returns-then-is_set-clause-none : goal.returns-then-is_set-clause-none
returns-then-is_set-clause-none c = λ _ a read clear.
    let p = c.args.profile in
    let same : lent_auth_view c.in-Ok.data ≡ a = one_value p p _ a c.args.bytes.now c.in-Ok.ensures.found read in
    let set = ap (λ b. is_set b.flags AT) same ∙ clear in
    let told = sym c.is_set.ensures ∙ c.if-is_set.true in
    absurd cc
