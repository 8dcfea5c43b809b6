-- What is owed of `write_reply`.
use Rattle.std.proofs.Common.{List, ℕ, subst}
use Rattle.std.specs.Prelude.{IsErrOf}
use Rattle.ctap_encoding.specs.declared.error.Error.TheVariants as errors
use Rattle.ctap_replies.specs.Replies.{Assertion, ReplyOf, assertion_reply, next_reply, creation_reply_members, info_members, creation_reply_item, info_item}
use Rattle.ctap_replies.specs.ReplyView.{creation_reply_view, info_view}
use Rattle.ctap_replies.proofs.Laws.{unfit_map}
use Rattle.ctap_replies.proofs.writing.write_reply.Goals as goal

pub returns-in-MakeCredential-clause-unfit : goal.returns-in-MakeCredential-clause-unfit
returns-in-MakeCredential-clause-unfit c =
    rw c.in-MakeCredential.is (unfit_map (λ v. v.items) creation_reply_members
    (creation_reply_item (creation_reply_view c.in-MakeCredential.reply)) c.creation_reply_bytes.result c.creation_reply_bytes.ensures)

pub returns-in-GetAssertion-clause-unfit : goal.returns-in-GetAssertion-clause-unfit
returns-in-GetAssertion-clause-unfit c =
    rw c.in-GetAssertion.is (subst (λ (q : Assertion). IsErrOf c.write_assertion.result errors.Unfit → (bs : List ℕ) → ReplyOf (assertion_reply q) bs → ⊥)
    c.lent.ensures c.write_assertion.ensures.unfit)

pub returns-in-GetNextAssertion-clause-unfit : goal.returns-in-GetNextAssertion-clause-unfit
returns-in-GetNextAssertion-clause-unfit c =
    rw c.in-GetNextAssertion.is (subst (λ (q : Assertion). IsErrOf c.next_reply_bytes.result errors.Unfit → (bs : List ℕ) → ReplyOf (next_reply q) bs
    → ⊥) c.lent-in-GetNextAssertion.ensures c.next_reply_bytes.ensures.unfit)

pub returns-in-GetInfo-clause-unfit : goal.returns-in-GetInfo-clause-unfit
returns-in-GetInfo-clause-unfit c =
    rw c.in-GetInfo.is (unfit_map (λ v. v.items) info_members (info_item (info_view c.in-GetInfo.reply)) c.info_reply_bytes.result c.info_reply_bytes.ensures)
