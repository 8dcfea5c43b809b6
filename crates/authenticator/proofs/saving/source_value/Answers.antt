-- What is owed of `source_value`.
use Rattle.std.proofs.Common.{◌<◌, ◌^◌, length, rules, string_bytes}
use Rattle.std.proofs.lemmas.Str.{IsUtf8-string_bytes}
use Rattle.authenticator.specs.Saved.{IsSource}
use Rattle.authenticator.specs.Views.{credential_source_view}
use Rattle.authenticator.proofs.SavedMaps.{source_fits}
use Rattle.authenticator.proofs.saving.source_value.Goals as goal

pub returns-clause-fits : goal.returns-clause-fits
returns-clause-fits c =
    let credential = c.args.credential.now in
    let is : IsSource (credential_source_view credential) = search rules in
    let short : length (string_bytes credential.rp_id) < 2 ^ 64 = search rules in
    source_fits (credential_source_view credential) is short (IsUtf8-string_bytes credential.rp_id)
