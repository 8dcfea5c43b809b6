-- What is owed of `Authenticator::begin_first`.
use Rattle.std.proofs.Common.{None, [], ◌∷◌, ◌++◌, reverse, refl}
use Rattle.authenticator.specs.Signing.{no_signature, only}
use Rattle.authenticator.specs.Steps.{FirstAnswers, key_of, number_with}
use Rattle.authenticator.specs.Views.{asked_view, credential_source_view}
use Rattle.ctap_replies.specs.Replies.{assertion_reply}
use Rattle.authenticator.proofs.Refusing.{allowed, here, not_at_end, past, refused}
use Rattle.authenticator.proofs.Waiting.{answers}
use Rattle.authenticator.proofs.authenticator.Authenticator.begin_first.Goals as goal

pub returns-in_default-clause-done : goal.returns-in_default-clause-done
returns-in_default-clause-done c = λ public.
    refused c.args.self.now c.refuse.new.self 0x7F _ _
    (λ out. FirstAnswers no_signature public c.args.self.now (c.args.candidates.first ∷ reverse c.args.candidates.later.items) (asked_view c.args.asked) out)
    (here _ 0x7F [] c.in_default.ensures) c.in_ok-refuse.ensures.reply c.in_ok-refuse.ensures.ok

pub returns-clause-done : goal.returns-clause-done
returns-clause-done c = λ public.
    let later = reverse c.args.candidates.later.items in
    let held = credential_source_view c.in-Some.found.credential.now in
    let asked = asked_view c.args.asked in (
      refl,
      λ signature reply new low high f.
          allowed c.args.self.now new reply _
          (λ out. FirstAnswers (only (key_of public held) (c.in_ok-auth_data.auth_data.items ++ asked.client_data_hash) signature) public c.args.self.now
          (c.args.candidates.first ∷ later) asked out)
          (past _ 0x7F [] None (not_at_end c.args.candidates.first c.args.self.now.credentials held c.in-Some.ensures.0 c.in-Some.ensures.1) refl)
          (answers public c.args.self.now new held c.args.candidates.first asked later assertion_reply (number_with later)
          c.in_ok-auth_data.auth_data.items signature
          reply c.in-Some.ensures.0 c.in-Some.ensures.1 c.in_ok-auth_data.ensures.spelled low high f),
    )
