-- What is written nests no deeper than what is read.
use Rattle.std.proofs.Common.{◌≡◌, ◌≤◌, ◌+◌, ◌==◌, ℕ, ℤ, Bool, true, false, List, [], ◌∷◌, length, map, Option, Some, None, String, Global, string_bytes, codes, if◌then◌else◌, sym, subst, arith}
use Rattle.std.specs.Prelude.{option_and_then, option_map}
use Rattle.serde_json.specs.Data.{Data, Members, depth, items_depth, members_depth, no_members, null, object, put, string}
use Rattle.serde_json.specs.Read.{max_depth}
use Rattle.serde_json.specs.View.{items_of}
use Rattle.cose.specs.declared.key.Alg.{Alg}
use Rattle.site_stored.specs.declared.finish.SignedIn.{SignedIn}
use Rattle.site_stored.specs.declared.registration.Registered.{Registered}
use Rattle.site_stored.specs.declared.session.Begun.{Begun}
use Rattle.site_state.specs.declared.row.Row.{Row}
use Rattle.site_state.specs.Details.{Detail, detail_view}
use Rattle.site_acts.specs.Options.{creation_options, descriptor, parameter, request_options}
use Rattle.json_lines.proofs.Depths.{put_within}
use Rattle.json_lines.specs.Written.{base64url, natural, number_or_null}
use Rattle.site_lines.specs.Written.{Writes, aaguid_or_null, begun, by_step, bytes_or_null, counts_from, flag_or_null, integer_or_null, registered, signed_in, status, step_name, whole_row, whole_rows, with_count}
use Rattle.site_acts.specs.declared.act.BeginRegistration.{BeginRegistration}
use Rattle.site_acts.specs.declared.act.BeginSignIn.{BeginSignIn}
use Rattle.site_lines.specs.declared.answer.Answer.{Answer}
use Rattle.site_lines.specs.declared.answer.Answer.TheVariants as answers
use Rattle.site_lines.specs.declared.answer.Counts.{Counts}
use Rattle.site_acts.specs.declared.known.Known.{Known}
use Rattle.site_lines.specs.declared.tally.Tally.{Tally}
use Rattle.site_lines.specs.declared.writing.Teller.{Teller}

-- ---- members

flag_flat : (o : Option Bool) → depth (flag_or_null o) ≤ 0
flag_flat None = omega arith
flag_flat (Some b) = omega arith

integer_flat : (o : Option ℤ) → depth (integer_or_null o) ≤ 0
integer_flat None = omega arith
integer_flat (Some b) = omega arith

bytes_flat : (o : Option (List ℕ)) → depth (bytes_or_null o) ≤ 0
bytes_flat None = omega arith
bytes_flat (Some b) = omega arith

number_flat : (o : Option ℕ) → depth (number_or_null o) ≤ 0
number_flat None = omega arith
number_flat (Some b) = omega arith

either_flat : (b : Bool) (bs : List ℕ) → depth (if b then base64url bs else null) ≤ 0
either_flat true bs = omega arith
either_flat false bs = omega arith

aaguid_flat : (o : Option (List ℕ)) → depth (aaguid_or_null o) ≤ 0
aaguid_flat None = omega arith
aaguid_flat (Some bs) = either_flat (length bs == 16) bs

texts_flat : (ts : List (String Global)) → items_depth (items_of (map (λ t. string (string_bytes t)) ts)) ≤ 0
texts_flat [] = omega arith
texts_flat (t ∷ ts) = omega (arith, texts_flat ts)

-- ---- credentials

known_flat : (row : Row) (k : Known) → depth (whole_row row k) ≤ 2
known_flat row k =
    let detail = option_map detail_view k.detail in
    omega (
      arith,
      flag_flat row.eligible,
      aaguid_flat (option_and_then (λ (d : Detail). d.aaguid) detail),
      integer_flat (option_and_then (λ (d : Detail). d.used_at) detail),
      integer_flat (option_and_then (λ (d : Detail). d.created_at) detail),
      texts_flat k.transports.items,
    )

rows_within : (rows : List Row) (ks : List Known) → items_depth (items_of (whole_rows rows ks)) ≤ 2
rows_within [] ks = omega arith
rows_within (row ∷ rows) [] = omega arith
rows_within (row ∷ rows) (k ∷ ks) = omega (arith, known_flat row k, rows_within rows ks)

-- what is answered of an acceptance
registered_flat : (x : Registered) → depth (registered x) ≤ 1
registered_flat x = omega (arith, flag_flat x.credential.eligible, bytes_flat (option_map (λ e. e.items) x.summary.extensions))

signed_flat : (x : SignedIn) → depth (signed_in x) ≤ 1
signed_flat x = omega (arith, bytes_flat (option_map (λ e. e.items) x.summary.extensions))

-- ---- counts

count_at : (b : Bool) (letter : List ℕ) (n count : ℕ) (ms : Members) → members_depth ms ≤ 0
    → members_depth (if b then ms else put (step_name letter n) (natural count) ms) ≤ 0
count_at true letter n count ms h = h
count_at false letter n count ms h = put_within _ _ ms 0 (omega arith) h

counts_within : (letter : List ℕ) (n : ℕ) (counts : List ℕ) (ms : Members) → members_depth ms ≤ 0 → members_depth (counts_from letter n counts ms) ≤ 0
counts_within letter n [] ms h = h
counts_within letter n (count ∷ counts) ms h = counts_within letter (n + 1) counts (with_count letter n count ms) (count_at (count == 0) letter n count ms h)

steps_within : (letter : List ℕ) (counts : List ℕ) → depth (by_step letter counts) ≤ 1
steps_within letter counts = omega (arith, counts_within letter 0 counts no_members (omega arith))

status_within : (version : List ℕ) (t : Tally) (counts : Counts) → depth (status version t counts) ≤ 2
status_within version t counts = omega (arith, steps_within (codes "G") t.registration_refusals, steps_within (codes "W") t.sign_in_refusals)

-- ---- options

descriptor_at : (b : Bool) (x y : Members) → members_depth x ≤ 1 → members_depth y ≤ 1 → depth (if b then object x else object y) ≤ 2
descriptor_at true x y p q = omega (arith, p)
descriptor_at false x y p q = omega (arith, q)

descriptor_within : (k : Known) → depth (descriptor k) ≤ 2
descriptor_within k = descriptor_at (length k.transports.items == 0) _ _ (omega arith) (omega (arith, texts_flat k.transports.items))

descriptors_within : (ks : List Known) → items_depth (items_of (map descriptor ks)) ≤ 2
descriptors_within [] = omega arith
descriptors_within (k ∷ ks) = omega (arith, descriptor_within k, descriptors_within ks)

parameters_within : (algs : List Alg) → items_depth (items_of (map parameter algs)) ≤ 1
parameters_within [] = omega arith
parameters_within (alg ∷ algs) = omega (arith, parameters_within algs)

creation_within : (rp_id rp_name challenge : List ℕ) (b : BeginRegistration) (ks : List Known) → depth (creation_options rp_id rp_name challenge b ks) ≤ 4
creation_within rp_id rp_name challenge b ks = omega (arith, descriptors_within ks, parameters_within b.algorithms.items)

request_within : (rp_id challenge : List ℕ) (b : BeginSignIn) (ks : List Known) → depth (request_options rp_id challenge b ks) ≤ 4
request_within rp_id challenge b ks = omega (arith, descriptors_within ks)

-- ---- lines out

begun_within : (id : Option ℕ) (b : Begun) (options : Data) → depth options ≤ 4 → depth (begun id b options) ≤ 5
begun_within id b options h = omega (arith, h, number_flat id)

one : (d e : Data) (n : ℕ) → d ≡ e → depth e ≤ n → n ≤ max_depth → depth d ≤ max_depth
one d e n is h below = subst (λ x. depth x ≤ max_depth) (sym is) (omega (arith, h, below))

pub shallow : (t : Teller) (id : Option ℕ) (a : Answer) (d : Data) → Writes t id a d → depth d ≤ max_depth
shallow t id (answers.RegistrationBegun x b known) d w = one d _ 5 w (begun_within id x (creation_options t.party.now.rp_id t.rp_name.now x.challenge b known.items) (creation_within t.party.now.rp_id t.rp_name.now x.challenge b known.items)) (omega arith)
shallow t id (answers.SignInBegun x b known) d w = one d _ 5 w (begun_within id x (request_options t.party.now.rp_id x.challenge b known.items) (request_within t.party.now.rp_id x.challenge b known.items)) (omega arith)
shallow t id (answers.Registered x) d w = one d _ 2 w (omega (arith, registered_flat x, number_flat id)) (omega arith)
shallow t id (answers.SignedIn x) d w = one d _ 2 w (omega (arith, signed_flat x, number_flat id)) (omega arith)
shallow t id (answers.Verify asked) d w = one d _ 2 w (omega (arith, number_flat id)) (omega arith)
shallow t id (answers.RegistrationRefused why credential) d w = one d _ 2 w.1 (omega (arith, number_flat id)) (omega arith)
shallow t id (answers.SignInRefused why credential) d w = one d _ 2 w.1 (omega (arith, number_flat id)) (omega arith)
shallow t id (answers.Retired was) d w = one d _ 1 w (omega (arith, number_flat id)) (omega arith)
shallow t id (answers.Deleted was) d w = one d _ 1 w (omega (arith, number_flat id)) (omega arith)
shallow t id (answers.Abandoned was) d w = one d _ 1 w (omega (arith, number_flat id)) (omega arith)
shallow t id (answers.RetiredAll count) d w = one d _ 1 w (omega (arith, number_flat id)) (omega arith)
shallow t id (answers.Erased count) d w = one d _ 1 w (omega (arith, number_flat id)) (omega arith)
shallow t id (answers.Rows rows known) d w = one d _ 4 w (omega (arith, number_flat id, rows_within rows.items known.items)) (omega arith)
shallow t id (answers.Status counts) d w = one d _ 3 w (omega (arith, number_flat id, status_within t.version.now t.tally.now counts)) (omega arith)
shallow t id (answers.Backup path) d w = one d _ 1 w (omega (arith, number_flat id)) (omega arith)
shallow t id (answers.NotBackedUp why) d w = one d _ 1 w (omega (arith, number_flat id)) (omega arith)
shallow t id (answers.NotBegun why) d w = one d _ 1 w.1 (omega (arith, number_flat id)) (omega arith)
shallow t id (answers.Error why) d w = one d _ 1 w.1 (omega (arith, number_flat id)) (omega arith)
shallow t id (answers.Failed why) d w = one d _ 1 w.1 (omega (arith, number_flat id)) (omega arith)
