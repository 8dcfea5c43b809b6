-- What is owed of `object`.
use Rattle.std.proofs.Common.{◌≡◌, ◌∙◌, true≢false, sym, ap, Err}
use Rattle.client.specs.declared.error.ResponseError.TheVariants as errors
use Rattle.ccbor.specs.Canon.{spelling}
use Rattle.authdata.specs.Objects.{object_item}
use Rattle.ctap_replies.specs.ReplyView.{creation_reply_view}
use Rattle.client.specs.Responses.{object_of}
use Rattle.ceremony.proofs.Objects.{has_object}
use Rattle.ceremony.proofs.registration.object.Goals as goal
use Rattle.ceremony.proofs.registration.object.Goals.{in-Unfit, in_default}

pub prove-unreachable-requires : goal.prove-unreachable-requires
prove-unreachable-requires c =
    let r = creation_reply_view c.args.reply in
    elim c.match-matches.branch [
      | in-Unfit w ↦ let e : c.in-Err.error ≡ errors.Unfit = w.in-Unfit.is in
          c.in-Err.ensures.unfit (ap Err e) (spelling (object_item (object_of r))) (has_object r c.requires.0 c.requires.1)
      | in_default w ↦ true≢false (sym c.if-prove.true ∙ w.matches-is)
    ]
