-- What is owed of `counted_signature`.
use Rattle.std.proofs.Common.{◌≡◌, sym, ◌∙◌, codes}
use Rattle.authdata.specs.Objects.{lent_object_view}
use Rattle.verification.proofs.Registrations.{counted_none, counted_whole}
use Rattle.passkey_c.proofs.asked.counted_signature.Goals as goal

pub returns-then-counts_as_none : goal.returns-then-counts_as_none
returns-then-counts_as_none c = λ signature packed.
    let none = counted_none c.args.profile c.args.asked (lent_object_view c.args.object.now) (c.counts_as_none.ensures.0 c.if-counts_as_none.true) in
    let same : codes "none" ≡ codes "packed" = sym none.0 ∙ packed.0 in absurd cc

pub returns : goal.returns
returns c =
    let whole = counted_whole c.args.profile c.args.asked (lent_object_view c.args.object.now)
    (λ counts. let yes = c.counts_as_none.ensures.1 counts in let no = c.if-counts_as_none.false in absurd cc) in
    rw whole c.self_signature.ensures
