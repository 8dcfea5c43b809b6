-- What replies are seen as; the crate `ctap_replies` defines it.
pub use Rattle.ctap_replies.specs.ReplyView.{creation_reply_view, assertion_reply_view, lent_assertion_view, info_view, reply_view}
