-- Replies without where they lie in memory.
use Rattle.std.specs.Prelude.{map, option_map, string_bytes}
use Rattle.ccbor.specs.View.{view}
use Rattle.ctap_replies.specs.declared.reply.CreationReply.{CreationReply}
use Rattle.ctap_replies.specs.declared.reply.AssertionReply.{AssertionReply}
use Rattle.ctap_replies.specs.declared.reply.AssertionView.{AssertionView}
use Rattle.ctap_replies.specs.declared.reply.InfoReply.{InfoReply}
use Rattle.ctap_replies.specs.declared.reply.Reply.{Reply}
use Rattle.ctap_replies.specs.declared.reply.Reply.TheVariants as replies
use Rattle.ctap_replies.specs.Replies.{Creation, Assertion, Info, ReplyMessage, creation_reply, assertion_reply, next_reply, info_reply, reset_reply}

abbrev pub creation_reply_view : CreationReply → Creation
creation_reply_view r = record { fmt = string_bytes r.fmt; auth_data = r.auth_data.items; statement = view r.statement }

abbrev pub assertion_reply_view : AssertionReply → Assertion
assertion_reply_view r = record {
  credential = r.credential.items;
  auth_data = r.auth_data.items;
  signature = r.signature.items;
  user = option_map (λ v. v.items) r.user;
  number = r.number;
}

abbrev pub lent_assertion_view : AssertionView → Assertion
lent_assertion_view r = record {
  credential = r.credential.now;
  auth_data = r.auth_data.now;
  signature = r.signature.now;
  user = option_map (λ b. b.now) r.user;
  number = r.number;
}

abbrev pub info_view : InfoReply → Info
info_view r = record {
  versions = map string_bytes r.versions.items;
  aaguid = r.aaguid.items;
  options = map (λ o. (string_bytes o.0, o.1)) r.options.items;
  max_msg_size = r.max_msg_size;
  max_credential_count_in_list = r.max_credential_count_in_list;
  max_credential_id_length = r.max_credential_id_length;
}

abbrev pub reply_view : Reply → ReplyMessage
reply_view (replies.MakeCredential r) = creation_reply (creation_reply_view r)
reply_view (replies.GetAssertion r) = assertion_reply (assertion_reply_view r)
reply_view (replies.GetNextAssertion r) = next_reply (assertion_reply_view r)
reply_view (replies.GetInfo r) = info_reply (info_view r)
reply_view replies.Reset = reset_reply
