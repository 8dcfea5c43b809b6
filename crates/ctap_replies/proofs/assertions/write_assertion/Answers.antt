-- What is owed of `write_assertion`.
use Rattle.std.proofs.Common.{◌<◌, ◌^◌, ◌++◌, ◌∷◌, length, refl, ap, ◌∙◌, rules}
use Rattle.std.specs.Prelude.{IfSome}
use Rattle.ccbor.specs.Canon.{spelling}
use Rattle.ctap_replies.specs.Pieces.{HasSizes}
use Rattle.ctap_replies.specs.Replies.{assertion_reply_item}
use Rattle.ctap_replies.specs.ReplyView.{lent_assertion_view}
use Rattle.ctap_replies.proofs.AssertionBytes.{assertion_clean, assertion_fits, next_clean}
use Rattle.ctap_replies.proofs.assertions.write_assertion.Goals as goal

pub returns-clause-spelled : goal.returns-clause-spelled
returns-clause-spelled c =
    let q = lent_assertion_view c.args.reply.now in
    let sizes : HasSizes q = search rules in
    let auth : length q.auth_data < 2 ^ 64 = search rules in
    let signature : length q.signature < 2 ^ 64 = search rules in
    let number : IfSome q.number (λ n. n < 2 ^ 64) = search (rules, c.has_sizes.ensures.fits) in (
      spelling (assertion_reply_item q),
      c.in_ok-put_assertion.ensures ∙ ap (λ l. l ++ 0 ∷ spelling (assertion_reply_item q)) c.in_ok-out.ensures.items,
      (assertion_fits q sizes auth signature number, refl),
      assertion_clean q sizes,
    )

pub returns-clause-next : goal.returns-clause-next
returns-clause-next c = λ none.
    let q = lent_assertion_view c.args.reply.now in
    let sizes : HasSizes q = search rules in
    let spelled = returns-clause-spelled c in
    (spelled.0, spelled.1, spelled.2, next_clean q none sizes)
