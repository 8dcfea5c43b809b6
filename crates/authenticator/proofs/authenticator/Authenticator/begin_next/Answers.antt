-- What is owed of `Authenticator::begin_next`.
use Rattle.std.proofs.Common.{◌≡◌, None, Option, ◌++◌, refl, subst, rules}
use Rattle.refusal_order.specs.Lines.{first_true}
use Rattle.ctap_replies.specs.Replies.{next_reply}
use Rattle.authenticator.specs.State.{Remembered}
use Rattle.authenticator.specs.Orders.{next_order, remembered_on}
use Rattle.authenticator.specs.Signing.{no_signature, only}
use Rattle.authenticator.specs.Steps.{Comes, NextAnswers, key_of}
use Rattle.authenticator.specs.Views.{credential_source_view, remembered_view}
use Rattle.authenticator.proofs.Refusing.{allowed, next_end, next_goes, next_none, not_at_end, refused, remembered_is}
use Rattle.authenticator.proofs.Waiting.{answers}
use Rattle.authenticator.proofs.authenticator.Authenticator.begin_next.Goals as goal

pub returns-in_default-clause-done : goal.returns-in_default-clause-done
returns-in_default-clause-done c = λ public.
    refused c.args.self.now c.refuse.new.self 0x30 _ (first_true (next_order c.args.self.now c.args.channel))
    (λ out. NextAnswers no_signature public c.args.self.now (remembered_on c.args.channel c.args.self.now.remembered) out)
    (next_none c.args.self.now c.args.channel c.in_default.ensures) c.in_ok-refuse.ensures.reply c.in_ok-refuse.ensures.ok

pub returns-in_default-countable-clause-done : goal.returns-in_default-countable-clause-done
returns-in_default-countable-clause-done c = λ public.
    refused c.args.self.now c.refuse-in_default-countable.new.self 0x7F _ (first_true (next_order c.args.self.now c.args.channel))
    (λ out. NextAnswers no_signature public c.args.self.now (remembered_on c.args.channel c.args.self.now.remembered) out)
    (next_end c.args.self.now c.args.channel (remembered_view c.in-Some.remembered.now) c.in-Some.ensures c.in_default-countable.ensures)
    c.in_ok-refuse-2.ensures.reply c.in_ok-refuse-2.ensures.ok

pub returns-clause-done : goal.returns-clause-done
returns-clause-done c = λ public.
    let r = remembered_view c.in-Some.remembered.now in
    let held = credential_source_view c.in-Some-countable.found.credential.now in
    let auth = c.in_ok-auth_data.auth_data.items in
    let hash : c.in_ok-client_data_hash.client_data_hash.items ≡ r.asked.client_data_hash = search rules in
    let is = remembered_is c.args.channel c.args.self.now.remembered r c.in-Some.ensures in (
      refl,
      λ signature reply new low high f.
          allowed c.args.self.now new reply (first_true (next_order c.args.self.now c.args.channel))
          (λ out. NextAnswers (only (key_of public held) (auth ++ c.in_ok-client_data_hash.client_data_hash.items) signature) public c.args.self.now
          (remembered_on c.args.channel c.args.self.now.remembered) out)
          (next_goes c.args.self.now c.args.channel r c.in-Some.ensures
          (not_at_end r.next c.args.self.now.credentials held c.in-Some-countable.ensures.0 c.in-Some-countable.ensures.1))
          (subst (λ (o : Option Remembered). Comes
          (λ out. NextAnswers (only (key_of public held) (auth ++ c.in_ok-client_data_hash.client_data_hash.items) signature)
          public c.args.self.now o out) reply
          new) c.in-Some.ensures
          (rw hash (answers public c.args.self.now new held r.next r.asked r.later next_reply None auth signature reply
          c.in-Some-countable.ensures.0 c.in-Some-countable.ensures.1 c.in_ok-auth_data.ensures.spelled low high (f r is)))),
    )
