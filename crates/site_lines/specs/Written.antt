-- What the text of an answer says: a JSON object with the number of the line and what is answered, each member whole.
use Rattle.std.specs.Prelude.{◌≡◌, ◌==◌, ◌++◌, ◌+◌, ℕ, ℤ, Bool, true, List, [], ◌∷◌, Option, Some, None, codes, decimal, if◌then◌else◌, length, map, option_and_then, option_map, string_bytes}
use Rattle.json_lines.specs.Written.{base64url, natural, number_or_null}
use Rattle.serde_json.specs.Data.{Data, Members, array, boolean, member, no_members, null, number, object, put, string}
use Rattle.serde_json.specs.Find.{of_integer}
use Rattle.serde_json.specs.View.{items_of}
use Rattle.cose.specs.declared.key.CoseKey.{CoseKey}
use Rattle.cose.specs.declared.key.CoseKey.TheVariants as keys
use Rattle.cose.specs.Keys.{alg_of, number_of, x_of}
use Rattle.authdata.specs.Flags.{is_set, BS, UV}
use Rattle.verification.specs.Numbers.{registration_number, sign_in_number}
use Rattle.verification.specs.Records.{Credential}
use Rattle.verification.specs.declared.signature.VerifiedSignature.{VerifiedSignature}
use Rattle.site_state.specs.RowViews.{row_view}
use Rattle.site_state.specs.declared.row.Row.{Row}
use Rattle.site_state.specs.Details.{detail_view}
use Rattle.site_stored.specs.declared.finish.SignedIn.{SignedIn}
use Rattle.site_stored.specs.declared.session.Begun.{Begun}
use Rattle.site_stored.specs.declared.registration.Registered.{Registered}
use Rattle.site_stored.specs.declared.summary.Summary.{Summary}
use Rattle.site_acts.specs.Options.{creation_options, request_options}
use Rattle.site_lines.specs.declared.answer.Answer.{Answer}
use Rattle.site_lines.specs.declared.answer.Answer.TheVariants as answers
use Rattle.site_lines.specs.declared.answer.Counts.{Counts}
use Rattle.site_acts.specs.declared.known.Known.{Known}
use Rattle.site_lines.specs.declared.tally.Tally.{Tally}
use Rattle.site_lines.specs.declared.writing.Teller.{Teller}

-- ---- values, null where they are not known

abbrev pub flag_or_null : Option Bool → Data
flag_or_null None = null
flag_or_null (Some b) = boolean b

abbrev pub integer_or_null : Option ℤ → Data
integer_or_null None = null
integer_or_null (Some n) = number (of_integer n)

abbrev pub bytes_or_null : Option (List ℕ) → Data
bytes_or_null None = null
bytes_or_null (Some bs) = base64url bs

-- an aaguid has 16 bytes (WebAuthn Level 2, section 6.5.1)
abbrev pub aaguid_or_null : Option (List ℕ) → Data
aaguid_or_null None = null
aaguid_or_null (Some bs) = if length bs == 16 then base64url bs else null

-- ---- credentials

-- the coordinate y of a key, of an RSA key its exponent; of EdDSA none
abbrev pub y_of : CoseKey → List ℕ
y_of (keys.Es256 x y) = y
y_of (keys.EdDsa x) = []
y_of (keys.Rs256 k) = k.e

-- a public key, with the COSE number of its algorithm
abbrev pub key_members : CoseKey → Members → Members
key_members key ms =
    put (codes "y") (base64url (y_of key)) (put (codes "x") (base64url (x_of key)) (put (codes "algorithm") (number (of_integer (number_of (alg_of key)))) ms))

-- a credential, as its row has it
abbrev pub row_members : Credential → Members → Members
row_members c ms =
    put (codes "retired") (boolean c.retired) (put (codes "eligible") (flag_or_null c.eligible) (put (codes "sign_count") (natural c.sign_count)
    (key_members c.key (put (codes "user") (base64url c.user) (put (codes "credential") (base64url c.id) ms)))))

-- what is known of it beside that
abbrev pub known_members : Known → Members → Members
known_members k ms =
    let detail = option_map detail_view k.detail in
    put (codes "aaguid") (aaguid_or_null (option_and_then (λ d. d.aaguid) detail))
    (put (codes "transports") (array (items_of (map (λ t. string (string_bytes t)) k.transports.items)))
    (put (codes "used_at") (integer_or_null (option_and_then (λ d. d.used_at) detail))
    (put (codes "created_at") (integer_or_null (option_and_then (λ d. d.created_at) detail)) ms)))

abbrev pub whole_row : Row → Known → Data
whole_row row k = object (known_members k (row_members (row_view row) no_members))

-- each credential, with what is known of it
abbrev pub whole_rows : List Row → List Known → List Data
whole_rows [] ks = []
whole_rows (row ∷ rows) [] = []
whole_rows (row ∷ rows) (k ∷ ks) = whole_row row k ∷ whole_rows rows ks

-- ---- acceptances

-- what authenticator data say (WebAuthn Level 3, section 6.1)
abbrev pub data_members : Summary → Members → Members
data_members s ms =
    put (codes "extensions") (bytes_or_null (option_map (λ e. e.items) s.extensions))
    (put (codes "flags") (natural s.flags) (put (codes "user_verified") (boolean (is_set s.flags UV)) ms))

-- and those of a registration, with the format of what counts as their object
abbrev pub attested_members : Registered → Members → Members
attested_members x ms =
    data_members x.summary (put (codes "backed_up") (boolean (is_set x.summary.flags BS)) (put (codes "format") (string (string_bytes x.format))
    (put (codes "aaguid") (base64url x.aaguid) ms)))

-- a credential that was registered: its row, and what its response says
abbrev pub registered : Registered → Data
registered x = object (attested_members x (row_members (row_view x.credential) no_members))

abbrev pub who_members : SignedIn → Members
who_members x =
    put (codes "backed_up") (boolean (is_set x.summary.flags BS))
    (put (codes "user") (base64url x.user.items) (put (codes "credential") (base64url x.credential.items) no_members))

-- who signed in, and what the response says
abbrev pub signed_in : SignedIn → Data
signed_in x = object (data_members x.summary (put (codes "sign_count") (natural x.summary.sign_count) (who_members x)))

-- ---- other answers

-- a signature that is to be verified
abbrev pub to_verify : VerifiedSignature → Data
to_verify t = object (put (codes "signature") (base64url t.signature.items) (put (codes "message") (base64url t.message.items) (key_members t.key no_members)))

-- a step: a letter and its number
abbrev pub step_name : List ℕ → ℕ → List ℕ
step_name letter n = letter ++ decimal n

abbrev pub step : List ℕ → ℕ → List ℕ → Data
step letter n text = object (member (codes "name") (string (step_name letter n)) (member (codes "number") (natural n) (member (codes "text") (string text) no_members)))

-- a count under the name of its step, where it is above 0
abbrev pub with_count : List ℕ → ℕ → ℕ → Members → Members
with_count letter n count ms = if count == 0 then ms else put (step_name letter n) (natural count) ms

-- counts by the number of a step
abbrev pub counts_from : List ℕ → ℕ → List ℕ → Members → Members
counts_from letter n [] ms = ms
counts_from letter n (count ∷ counts) ms = counts_from letter (n + 1) counts (with_count letter n count ms)

abbrev pub by_step : List ℕ → List ℕ → Data
by_step letter counts = object (counts_from letter 0 counts no_members)

-- how the site is, and what has been counted since the start
abbrev pub status : List ℕ → Tally → Counts → Data
status version t counts =
    object (put (codes "lost_log_lines") (natural t.lost_log_lines)
    (put (codes "registrations_refused") (by_step (codes "G") t.registration_refusals)
    (put (codes "sign_ins_refused") (by_step (codes "W") t.sign_in_refusals)
    (put (codes "registrations") (natural t.registrations)
    (put (codes "sign_ins") (natural t.sign_ins)
    (put (codes "last_commit_microseconds") (natural t.last_commit)
    (put (codes "commits") (natural t.commits)
    (put (codes "next_session") (natural counts.next_session)
    (put (codes "credentials") (natural counts.credentials)
    (put (codes "version") (string version) no_members))))))))))

-- ---- lines out

-- an answer of one member beside the number
abbrev pub answered : Option ℕ → List ℕ → Data → Data
answered id name d = object (put name d (member (codes "id") (number_or_null id) no_members))

-- one that is committed, with what tells copies that lack the commit from the file
abbrev pub committed : Option ℕ → List ℕ → Data → ℕ → Data
committed id name d known = object (put (codes "known") (natural known) (put name d (member (codes "id") (number_or_null id) no_members)))

-- a session that has begun: its number, for the log, the options for the page, and its text, by which it is finished
abbrev pub begun : Option ℕ → Begun → Data → Data
begun id b options =
    object (member (codes "id") (number_or_null id) (member (codes "number") (natural b.session) (member (codes "options") options
    (member (codes "session") (base64url b.text.items) no_members))))

-- what is written of an answer; of a text that says why, some text
abbrev pub Writes : Teller → Option ℕ → Answer → Data → Type 0
Writes t id (answers.RegistrationBegun x b known) d =
    d ≡ begun id x (creation_options t.party.now.rp_id t.rp_name.now x.challenge b known.items)
Writes t id (answers.SignInBegun x b known) d = d ≡ begun id x (request_options t.party.now.rp_id x.challenge b known.items)
Writes t id (answers.Registered x) d = d ≡ committed id (codes "accepted") (registered x) t.known
Writes t id (answers.SignedIn x) d = d ≡ committed id (codes "accepted") (signed_in x) t.known
Writes t id (answers.Verify asked) d = d ≡ answered id (codes "verify") (to_verify asked)
Writes t id (answers.RegistrationRefused why credential) d = (text : List ℕ) × (d ≡ answered id (codes "refused") (step (codes "G") (registration_number why) text))
Writes t id (answers.SignInRefused why credential) d = (text : List ℕ) × (d ≡ answered id (codes "refused") (step (codes "W") (sign_in_number why) text))
Writes t id (answers.Retired was) d = d ≡ committed id (codes "retired") (boolean was) t.known
Writes t id (answers.Deleted was) d = d ≡ committed id (codes "deleted") (boolean was) t.known
Writes t id (answers.RetiredAll count) d = d ≡ committed id (codes "retired_all") (natural count) t.known
Writes t id (answers.Erased count) d = d ≡ committed id (codes "erased") (natural count) t.known
Writes t id (answers.Abandoned was) d = d ≡ committed id (codes "abandoned") (boolean was) t.known
Writes t id (answers.Rows rows known) d = d ≡ answered id (codes "rows") (array (items_of (whole_rows rows.items known.items)))
Writes t id (answers.Status counts) d = d ≡ committed id (codes "status") (status t.version.now t.tally.now counts) t.known
Writes t id (answers.Backup path) d = d ≡ answered id (codes "backup") (boolean true)
Writes t id (answers.NotBackedUp why) d = d ≡ answered id (codes "error") (string (string_bytes why))
Writes t id (answers.NotBegun why) d = (text : List ℕ) × (d ≡ answered id (codes "error") (string text))
Writes t id (answers.Error why) d = (text : List ℕ) × (d ≡ answered id (codes "error") (string text))
Writes t id (answers.Failed why) d = (text : List ℕ) × (d ≡ answered id (codes "failed") (string text))
