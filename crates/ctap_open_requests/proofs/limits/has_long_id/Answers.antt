-- What is owed of `has_long_id`.
use Rattle.std.proofs.Common.{sym, ◌∙◌, length}
use Rattle.ctap_open_replies.specs.ReplyView.{info_view}
use Rattle.ctap_open_requests.specs.Limits.{is_over}
use Rattle.ctap_open_requests.proofs.Told.{any_lent}
use Rattle.ctap_open_requests.proofs.limits.has_long_id.Goals as goal

pub returns : goal.returns
returns c = c.any_over.ensures ∙ sym (any_lent (λ id. is_over (info_view c.args.info.now).max_credential_id_length (length id)) c.args.ids.now)
