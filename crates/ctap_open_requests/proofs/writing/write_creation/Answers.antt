-- What is owed of `write_creation`.
use Rattle.std.proofs.Common.{ℕ, Vec, Global, map, subst}
use Rattle.ctap_open_replies.specs.ReplyView.{info_view}
use Rattle.ctap_open_requests.specs.Pieces.{Finishes}
use Rattle.ctap_open_requests.specs.Requests.{CreationOf}
use Rattle.ctap_open_requests.specs.RequestView.{creation_view, options_view}
use Rattle.ctap_open_requests.proofs.Finishing.{beyond, refused}
use Rattle.ctap_open_requests.proofs.writing.write_creation.Goals as goal

pub returns-clause-refused : goal.returns-clause-refused
returns-clause-refused c =
    refused {V = Vec ℕ Global} (λ v. v.items) (info_view c.args.info.now) (options_view c.args.request.options) (map (λ b. b.now) c.args.request.exclude.now)
    (CreationOf (creation_view c.args.request)) c.in_default.ensures.within c.creation_bytes.result
    (subst (λ (m : ℕ). Finishes {V = Vec ℕ Global} (λ v. v.items) m (CreationOf (creation_view c.args.request)) c.creation_bytes.result) c.max_message.ensures
    c.creation_bytes.ensures)

pub returns-in-Err-clause-refused : goal.returns-in-Err-clause-refused
returns-in-Err-clause-refused c =
    beyond (info_view c.args.info.now) (options_view c.args.request.options) (map (λ b. b.now) c.args.request.exclude.now) (CreationOf (creation_view c.args.request))
    c.in-Err.e c.in-Err.ensures.beyond
