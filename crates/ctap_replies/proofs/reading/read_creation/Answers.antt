-- What is owed of `read_creation`.
use Rattle.std.proofs.Common.{List, ℕ, sym, subst}
use Rattle.ctap_replies.specs.Replies.{ReplyRefused}
use Rattle.ctap_replies.specs.declared.reply.Kind.TheVariants as kinds
use Rattle.ctap_replies.proofs.Laws.{creation_never_both}
use Rattle.ctap_replies.proofs.reading.read_creation.Goals as goal

pub returns-in-Err-clause-refused : goal.returns-in-Err-clause-refused
returns-in-Err-clause-refused c = c.in-Err.ensures.refused kinds.MakeCredential

pub returns-in-Err-clause-none : goal.returns-in-Err-clause-none
returns-in-Err-clause-none c = creation_never_both c.args.bytes.now c.in-Err.e (c.in-Err.ensures.refused kinds.MakeCredential)

pub returns-in-Err-creation_reply_after-clause-none : goal.returns-in-Err-creation_reply_after-clause-none
returns-in-Err-creation_reply_after-clause-none c =
    let h = c.in-Err-creation_reply_after in
    creation_never_both c.args.bytes.now h.e (subst (λ (l : List ℕ). ReplyRefused kinds.MakeCredential l h.e) (sym c.in-Ok.ensures.found) h.ensures.refused)
