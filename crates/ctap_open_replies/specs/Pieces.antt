-- What the private functions of reading are proved against; no public clause cites it.
use Rattle.std.specs.Prelude.{false, map, option_map}
use Rattle.ccbor.specs.Item as of
use Rattle.ctap_encoding.specs.Table.{a_text, unsigned, list_of, record_of, Members, no_more, listed}
use Rattle.ctap_encoding.specs.Content.{Contents}
use Rattle.ctap_open_replies.specs.declared.reply.AssertionMembers.{AssertionMembers}
use Rattle.ctap_open_replies.specs.declared.reply.InfoFeatures.{InfoFeatures}
use Rattle.ctap_open_replies.specs.declared.reply.InfoLimits.{InfoLimits}
use Rattle.ctap_open_replies.specs.Replies.{assertion_members, credential_content, parameters_content, parameters_members, user_content}
use Rattle.ctap_open_replies.specs.ReplyView.{parameters_view, user_view}

-- the members of a reply to getAssertion as they were read
abbrev pub content_of : AssertionMembers → Contents assertion_members
content_of r = (
  option_map credential_content (option_map (λ b. b.now) r.told),
  (
    r.auth_data.now,
    (
      r.signature.now,
      (
        option_map user_content (option_map user_view r.user),
        (r.number, (r.user_selected, (option_map (λ b. b.now) r.large_blob_key, tt))),
      ),
    ),
  ),
)

-- the members of a reply to getInfo from transports on, and as they were read
abbrev pub feature_members : Members
feature_members =
    listed (of.uint 9) false (list_of a_text) (
    listed (of.uint 10) false (list_of (record_of parameters_members)) (
    listed (of.uint 13) false (unsigned 0) (
    listed (of.uint 14) false (unsigned 0) (
    listed (of.uint 20) false (unsigned 0) no_more))))

abbrev pub feature_content : InfoFeatures → Contents feature_members
feature_content r = (
  option_map (λ v. map (λ b. b.now) v.items) r.transports,
  (
    option_map (map parameters_content) (option_map (λ v. map parameters_view v.items) r.algorithms),
    (r.min_pin_length, (r.firmware_version, (r.remaining_discoverable_credentials, tt))),
  ),
)

-- and those after its options
abbrev pub limit_members : Members
limit_members =
    listed (of.uint 5) false (unsigned 0) (
    listed (of.uint 6) false (list_of (unsigned 0)) (
    listed (of.uint 7) false (unsigned 0) (
    listed (of.uint 8) false (unsigned 0) feature_members)))

abbrev pub limit_content : InfoLimits → Contents limit_members
limit_content r = (
  r.max_msg_size,
  (
    option_map (λ v. v.items) r.pin_uv_auth_protocols,
    (r.max_credential_count_in_list, (r.max_credential_id_length, feature_content r.features)),
  ),
)
