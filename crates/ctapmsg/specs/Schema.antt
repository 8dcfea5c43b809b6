-- Tables of members, under the names that they have here; the crate `ctap_encoding` defines them.
pub use Rattle.ctap_encoding.specs.Table.{Holds, Members, all_faults, place, fails, within, size_of, any_item, is_listed, all_keys, all_truths, in_member}
pub use Rattle.ctap_encoding.specs.Table.{has_fault, in_members, gravest, Clean, a_number, some_bytes, a_text, a_truth, any_map, that_text, unsigned}
pub use Rattle.ctap_encoding.specs.Table.{truths, list_of, record_of, not_empty, sized, no_more, listed}
pub use Rattle.ctap_encoding.specs.Content.{Member, Content, Contents, number_item, truth_pair, optional, member_pair, item_of, members_item}
