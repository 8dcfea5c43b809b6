-- What the crate's private types stand for; no public clause cites it.
use Rattle.std.specs.Prelude.{ℕ, List}
use Rattle.ccbor.specs.Item.{Items}
use Rattle.ccbor.specs.Viewing.{shown, shown_items}
use Rattle.ctap_encoding.specs.Content.{Contents}
use Rattle.site.specs.Private.{credential_members}
use Rattle.site.specs.declared.reading.CredentialMembers.{CredentialMembers}
use Rattle.site.specs.declared.reading.TableMembers.{TableMembers}

abbrev pub members_content : CredentialMembers → Contents credential_members
members_content m = (m.id.now, (m.user.now, (shown m.key, (m.sign_count, (m.eligible, (m.retired, tt))))))

abbrev pub table_members_view : TableMembers → ℕ × List ℕ × ℕ × Items
table_members_view m = (m.version, m.rp_id.now, m.next, shown_items m.credentials)
