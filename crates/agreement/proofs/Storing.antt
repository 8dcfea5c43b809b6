-- Credentials that are stored and registered.
use Rattle.std.proofs.Common.{◌≡◌, ℕ, ◌<◌, ◌≤◌, List, [], ◌∷◌, ◌++◌, length, map, filter, reverse, Bool, true, Some, None, refl, ◌∙◌, ap, arith}
use Rattle.std.proofs.lemmas.List.{map-append, reverse-append}
use Rattle.std.proofs.lemmas.List.Elements.{filter-append}
use Rattle.std.specs.Str.{bytes_eq}
use Rattle.std.specs.Cmp.Lexicographic.{bytes_decides}
use Rattle.ctap_requests.specs.Requests.{CreationRequest}
use Rattle.authenticator.specs.State.{CredentialSource}
use Rattle.authenticator.specs.Credentials.{credential_of, is_resident_for, is_resident_of, resident_ids, without_first}
use Rattle.authenticator.specs.Orders.{candidates, is_stored_for, kept}
use Rattle.client.specs.Asked.{descriptor_of}
use Rattle.verification.specs.Records as registered
use Rattle.authenticator.proofs.Stored.{itself, none_without}
use Rattle.site_state.specs.Table.{row_of}
use Rattle.std.proofs.lemmas.Grind.{common_steps}

-- ---- at the authenticator

fewer : (test : CredentialSource → Bool) (cs : List CredentialSource) → length (without_first test cs) ≤ length cs
fewer test [] = omega arith
fewer test (c ∷ cs) = grind (arith, common_steps, fewer test cs)

pub none_kept : (cs : List CredentialSource) (q : CreationRequest) (id : List ℕ) → credential_of id cs ≡ None → credential_of id (kept cs q) ≡ None
none_kept cs q id none = grind (arith, common_steps, none, none_without (is_resident_of q.rp.id q.user.id) cs id none)

pub few_kept : (cs : List CredentialSource) (q : CreationRequest) → length cs < 256 → length (kept cs q) < 256
few_kept cs q few = grind (arith, common_steps, few, fewer (is_resident_of q.rp.id q.user.id) cs)

pub newest_first : (rp_id : List ℕ) (cs : List CredentialSource) (c : CredentialSource) → c.resident ≡ true → c.rp_id ≡ rp_id
    → resident_ids rp_id (cs ++ c ∷ []) ≡ c.id ∷ resident_ids rp_id cs
newest_first rp_id cs c resident of =
    let own : bytes_eq c.rp_id rp_id ≡ true = (bytes_decides c.rp_id rp_id).1 of in
    let is : is_resident_for rp_id c ≡ true = rw resident own in
    let last : filter (is_resident_for rp_id) (c ∷ []) ≡ c ∷ [] = rw is refl in
    let more : filter (is_resident_for rp_id) (cs ++ c ∷ []) ≡ filter (is_resident_for rp_id) cs ++ c ∷ [] =
    filter-append (is_resident_for rp_id) cs (c ∷ []) ∙ ap (λ xs. filter (is_resident_for rp_id) cs ++ xs) last in
    ap (λ xs. reverse (map (λ (x : CredentialSource). x.id) xs)) more
    ∙ ap reverse (map-append (λ (x : CredentialSource). x.id) (filter (is_resident_for rp_id) cs) (c ∷ []))
    ∙ reverse-append (map (λ (x : CredentialSource). x.id) (filter (is_resident_for rp_id) cs)) (c.id ∷ [])

-- a credential that is asked for by its id answers
pub listed : (cs : List CredentialSource) (rp_id : List ℕ) (c : CredentialSource) → credential_of c.id cs ≡ Some c → c.rp_id ≡ rp_id
    → candidates cs rp_id (Some (descriptor_of c.id ∷ [])) ≡ c.id ∷ []
listed cs rp_id c found of =
    let own : bytes_eq c.rp_id rp_id ≡ true = (bytes_decides c.rp_id rp_id).1 of in
    let is : is_stored_for rp_id cs (descriptor_of c.id) ≡ true = rw found own in
    rw is refl

-- ---- at the site

pub row_last : (rows : List registered.Credential) (row : registered.Credential) → row_of row.id rows ≡ None → row_of row.id (rows ++ row ∷ []) ≡ Some row
row_last [] row none = rw (itself row.id) refl
row_last (r ∷ rows) row none = grind (arith, common_steps, none, row_last rows row)
