-- Replies, under the names that they have here; the crate `ctap_replies` defines them.
pub use Rattle.ctap_replies.specs.Replies.{credential_members, credential_content, reply_user_members, reply_user_content, Creation}
pub use Rattle.ctap_replies.specs.Replies.{creation_reply_members, creation_reply_content, creation_reply_item, Assertion, assertion_reply_members}
pub use Rattle.ctap_replies.specs.Replies.{assertion_reply_content, assertion_reply_item, next_reply_members, Info, info_members, info_content}
pub use Rattle.ctap_replies.specs.Replies.{info_item, ReplyMessage, kind_of, MapReply, ReplyOf, IsNoValue, IsNoReply, HasOtherShape, ReplyRefused}
pub use Rattle.ctap_replies.specs.Replies.{IsReply, creation_reply, assertion_reply, next_reply, info_reply, reset_reply}
