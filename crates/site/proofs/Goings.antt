-- What happens to a site, and what it keeps.
use Rattle.std.proofs.Common.{◌≡◌, ◌<◌, ◌≤◌, ◌-◌, ◌^◌, ℕ, List, [], ◌∷◌, ◌++◌, Option, Some, None, true, false, sym, ◌∙◌, ap, refl, subst, arith, inl, inr}
use Rattle.std.specs.Prelude.{◌⊎◌, IsSome, take, drop}
use Rattle.std.specs.Int.{w64, to_be_bytes, from_be_bytes}
use Rattle.std.proofs.lemmas.Nat.{from_be_bytes-to_be_bytes_8}
use Rattle.std.proofs.lemmas.List.{drop_at, take_at}
use Rattle.std.proofs.lemmas.Grind.{common_steps}
use Rattle.std.specs.FinMap.{gets}
use Rattle.std.specs.FinMap as finite
use Rattle.authdata.specs.Flags.{is_set, BE}
use Rattle.authdata.specs.Layout.{AuthenticatorData, AuthOf}
use Rattle.authdata.specs.Responses.{AuthenticatorAssertionResponse}
use Rattle.authdata.specs.Responses as responses
use Rattle.verification.specs.Records.{RelyingParty, Credential, ExpectedRegistration, ExpectedSignIn}
use Rattle.cose.specs.Schemes.{Validity}
use Rattle.verification.specs.SignIn as authentication
use Rattle.verification.specs.SignIn.{IsCounted}
use Rattle.verification.specs.Registration as registration
use Rattle.site_state.specs.Table.{row_of, with_row, signed_in, retired}
use Rattle.site_state.proofs.RowLemmas.{found_id}
use Rattle.site.specs.Saved.{TableOf}
use Rattle.site.proofs.Tables.{one_saved}
use Rattle.site_state.specs.Sessions.{Expected, ForRegistration, ForSignIn, Opening, OpensSignIn, OpensRegistration, begun, challenge_in, challenge_of, closed, expected_of}
use Rattle.site_state.specs.Sessions.{for_registration, for_sign_in, sign_in_at}
use Rattle.site.specs.State.{SiteState, IsAfterRegistration, IsAfterSignIn, judged_sign_in, judged_registration, registered, saved_of}
use Rattle.site.specs.Laws.{GoesOn, IsFresh, IsGone, IsNumbered, Keeps, SiteLaws, Takes, after_abandon, after_begin, after_restart, after_retire}
use Rattle.site.proofs.Judged.{no_row, same_attempt}
use Rattle.site.proofs.Kept.{KeptBy, kept_changed, kept_here, kept_onward, row_before, row_changed}

-- ---- going on

stays : (s : SiteState) → GoesOn s s
stays s = record {
  rows = λ id row e. kept_here s.rows row (ap (λ x. row_of x s.rows) (found_id id s.rows row e) ∙ e);
  gone = λ n h. h;
  rp = refl;
}

onward : (s t u : SiteState) → GoesOn s t → GoesOn t u → GoesOn s u
onward s t u a b = record {
  rows = λ id row e.
      let x = a.rows id row e in
      let mine = found_id row.id t.rows x.now x.found in
      kept_onward u.rows t.rows row x (b.rows row.id x.now x.found) mine;
  gone = λ n h. b.gone n (a.gone n h);
  rp = b.rp ∙ a.rp;
}

-- ---- sessions

gone_closed : (s : SiteState) (rows : List Credential) (k n : ℕ) → IsGone s n → IsGone (record s { rows = rows; sessions = closed k s.sessions }) n
gone_closed s rows k n (lt, none) = (lt, grind (arith, gets, common_steps, none))

gone_begun : (s : SiteState) (o : Opening) (n : ℕ) → IsGone s n → IsGone (after_begin s o) n
gone_begun s o n (lt, none) = (omega arith, grind (arith, gets, common_steps, none, lt))

gone_restarted : (max_open : ℕ) (s : SiteState) (n : ℕ) → IsGone s n → IsGone (after_restart max_open s) n
gone_restarted max_open s n (lt, none) = (lt, grind (arith, gets, common_steps))

fresh_closed : (s : SiteState) (rows : List Credential) (k : ℕ) → IsFresh s → IsFresh (record s { rows = rows; sessions = closed k s.sessions })
fresh_closed s rows k fresh n is = grind (arith, gets, common_steps, fresh n, is)

fresh_begun : (s : SiteState) (o : Opening) → IsFresh s → IsFresh (after_begin s o)
fresh_begun s o fresh n is = grind (arith, gets, common_steps, fresh n, is)

fresh_restarted : (max_open : ℕ) (s : SiteState) → IsFresh (after_restart max_open s)
fresh_restarted max_open s n is = grind (arith, gets, common_steps, is)

stays_open : (s : SiteState) (o : Opening) (n : ℕ) (e : Expected) → IsFresh s → finite.get s.sessions.expected n ≡ Some e
    → finite.get (after_begin s o).sessions.expected n ≡ Some e
stays_open s o n e fresh is = let lt = fresh n (some_at (finite.get s.sessions.expected n) e is) in grind (arith, gets, common_steps, lt, is)
  where
    some_at : (o : Option Expected) (e : Expected) → o ≡ Some e → IsSome o
    some_at (Some x) e is = refl
    some_at None e is = absurd cc

gone_now : (s : SiteState) (rows : List Credential) (n : ℕ) → IsFresh s → IsSome (finite.get s.sessions.expected n)
    → IsGone (record s { rows = rows; sessions = closed n s.sessions }) n
gone_now s rows n fresh is = (fresh n is, grind (arith, gets, common_steps))

pub none_there : {X : Type 0} (o : Option X) → IsSome o → o ≡ None → ⊥
none_there o is e = grind (arith, common_steps, is, e)

empty_fresh : (s : SiteState) → s.sessions.expected ≡ finite.empty → IsFresh s
empty_fresh s e n is =
    let none : finite.get s.sessions.expected n ≡ None = rw e (grind (arith, gets, common_steps)) in
    absurd (none_there (finite.get s.sessions.expected n) is none)

-- ---- challenges

pub still : (s : SiteState) (k n : ℕ) (e : Expected) → finite.get (closed k s.sessions).expected n ≡ Some e → finite.get s.sessions.expected n ≡ Some e
still s k n e h = grind (arith, gets, common_steps, h)

numbered_closed : (s : SiteState) (rows : List Credential) (k : ℕ) → IsNumbered s → IsNumbered (record s { rows = rows; sessions = closed k s.sessions })
numbered_closed s rows k f n e h = f n e (still s k n e h)

new_challenge : (n : ℕ) (o : Opening) → (words : List ℕ) × (challenge_in (expected_of n o) ≡ challenge_of n words)
new_challenge n (OpensSignIn user allow uv words) = (words, refl)
new_challenge n (OpensRegistration user algorithms uv words asks) = (words, refl)

pub begun_or : (s : SiteState) (o : Opening) (n : ℕ) (e : Expected) → finite.get (begun s.sessions o).expected n ≡ Some e
    → ((n ≡ s.sessions.next) × (e ≡ expected_of s.sessions.next o)) ⊎ (finite.get s.sessions.expected n ≡ Some e)
begun_or s o n e h = grind (arith, gets, common_steps, h)

numbered_begun : (s : SiteState) (o : Opening) → s.sessions.next < 2 ^ 64 - 1 → IsNumbered s → IsNumbered (after_begin s o)
numbered_begun s o lt f n e h = elim (begun_or s o n e h) [
  | inl (here, is) ↦
      let c = new_challenge s.sessions.next o in
      (omega arith, (c.0, ap challenge_in is ∙ c.1 ∙ ap (λ k. challenge_of k c.0) (sym here)))
  | inr old ↦ f n e old
]

numbered_empty : (s : SiteState) → s.sessions.expected ≡ finite.empty → IsNumbered s
numbered_empty s e n x h = let none : finite.get s.sessions.expected n ≡ None = rw e (grind (arith, gets, common_steps)) in let bad : None ≡ Some x = sym none
    ∙ h in cc

one_number : (n k : ℕ) (v w : List ℕ) → n < 2 ^ 64 → k < 2 ^ 64 → challenge_of n v ≡ challenge_of k w → (n ≡ k) × (v ≡ w)
one_number n k v w ln lk e =
    let front : to_be_bytes w64 n ≡ to_be_bytes w64 k = sym (take_at (to_be_bytes w64 n) v 8 refl) ∙ ap (take 8) e ∙ take_at (to_be_bytes w64 k) w 8 refl in
    let rest : v ≡ w = sym (drop_at (to_be_bytes w64 n) v 8 refl) ∙ ap (drop 8) e ∙ drop_at (to_be_bytes w64 k) w 8 refl in
    (sym (from_be_bytes-to_be_bytes_8 n ln) ∙ ap (from_be_bytes w64) front ∙ from_be_bytes-to_be_bytes_8 k lk, rest)

is_open_by : (o : Option Expected) (e : ExpectedSignIn) → for_sign_in o ≡ Some e → o ≡ Some (ForSignIn e)
is_open_by o e h = grind (arith, common_steps, h)

is_open_to_register_by : (o : Option Expected) (e : ExpectedRegistration) → for_registration o ≡ Some e → o ≡ Some (ForRegistration e)
is_open_to_register_by o e h = grind (arith, common_steps, h)

some_sign_in : (o : Option Expected) → IsSome (for_sign_in o) → IsSome o
some_sign_in o h = grind (arith, common_steps, h)

some_registration : (o : Option Expected) (e : ExpectedRegistration) → for_registration o ≡ Some e → IsSome o
some_registration o e h = grind (arith, common_steps, h)

-- ---- what happens

retire_keeps : (x : Credential) → KeptBy retired x
retire_keeps x = record { id = refl; key = refl; user = refl; sign_count = omega arith; eligible = λ known is. is; retired = λ is. refl }

not_lower : (stored received : ℕ) → IsCounted stored received → stored ≤ received
not_lower stored received = elim [ inl (x, y) ↦ omega arith | inr lt ↦ omega arith ]

goes_closed : (s : SiteState) (n : ℕ) → GoesOn s (after_abandon s n)
goes_closed s n = record { rows = (stays s).rows; gone = λ k h. gone_closed s s.rows n k h; rp = refl }

goes_begun : (s : SiteState) (o : Opening) → GoesOn s (after_begin s o)
goes_begun s o = record { rows = (stays s).rows; gone = λ n h. gone_begun s o n h; rp = refl }

goes_restarted : (max_open : ℕ) (s : SiteState) → GoesOn s (after_restart max_open s)
goes_restarted max_open s = record { rows = (stays s).rows; gone = λ n h. gone_restarted max_open s n h; rp = refl }

goes_retired : (s : SiteState) (id : List ℕ) → GoesOn s (after_retire s id)
goes_retired s id = record {
  rows = λ k row e. kept_changed id retired s.rows k row (λ x. refl) (λ x is. retire_keeps x) e;
  gone = λ n h. h;
  rp = refl;
}

-- what a sign-in that passes stores keeps the credential
sign_in_keeps : (valid : Validity) (s : SiteState) (n : ℕ) (r : AuthenticatorAssertionResponse) (a : AuthenticatorData)
    → authentication.PassesSignIn valid (judged_sign_in s n r) → AuthOf s.rp.profile a r.auth_data
    → (x : Credential) → row_of r.credential s.rows ≡ Some x → KeptBy (signed_in a.sign_count (is_set a.flags BE)) x
sign_in_keeps valid s n r a passes is x there = record {
  id = refl;
  key = refl;
  user = refl;
  sign_count = not_lower x.sign_count a.sign_count (passes.1.1.1.1.1.1.1.1.1.1.1.1.1.1.1.1.0 x there a is);
  eligible = λ known e. ap Some (passes.1.1.1.1.1.1.1.1.1.1.1.1.1.1.1.1.1.0 x there known e a is);
  retired = λ e. e;
}

accepts : (s : SiteState) (rows : List Credential) (n : ℕ) → IsFresh s → IsSome (finite.get s.sessions.expected n)
    → GoesOn s (record s { rows = rows; sessions = closed n s.sessions })
    → Keeps s (record s { rows = rows; sessions = closed n s.sessions }) × Takes s (record s { rows = rows; sessions = closed n s.sessions }) n
accepts s rows n fresh was goes = (
  record { numbered = numbered_closed s rows n; fresh = fresh_closed s rows n fresh; goes_on = goes },
  record { was_open = was; gone = gone_now s rows n fresh was },
)

signs_in : (valid : Validity) (s : SiteState) (n : ℕ) (r : AuthenticatorAssertionResponse) (t : SiteState) → IsFresh s
    → authentication.PassesSignIn valid (judged_sign_in s n r) → IsAfterSignIn s n r t → Keeps s t × Takes s t n
signs_in valid s n r t fresh passes (a, is_auth, after) =
    let change = signed_in a.sign_count (is_set a.flags BE) in
    let rows = with_row r.credential change s.rows in
    let was : IsSome (finite.get s.sessions.expected n) = some_sign_in (finite.get s.sessions.expected n) passes.0 in
    let goes : GoesOn s (record s { rows = rows; sessions = closed n s.sessions }) = record {
      rows = λ k row e. kept_changed r.credential change s.rows k row (λ x. refl) (sign_in_keeps valid s n r a passes is_auth) e;
      gone = λ k h. gone_closed s rows n k h;
      rp = refl;
    } in
    subst (λ x. Keeps s x × Takes s x n) (sym after) (accepts s rows n fresh was goes)

registers : (s : SiteState) (n : ℕ) (r : responses.AuthenticatorAttestationResponse) (t : SiteState) → IsFresh s → IsAfterRegistration s n r t → Keeps s t
    × Takes s t n
registers s n r t fresh (e, o, a, c, open_for, attests, after) =
    let rows = s.rows ++ registered e a c ∷ [] in
    let was : IsSome (finite.get s.sessions.expected n) = some_registration (finite.get s.sessions.expected n) e open_for in
    let goes : GoesOn s (record s { rows = rows; sessions = closed n s.sessions }) = record {
      rows = λ k row there. kept_here rows row (ap (λ x. row_of x rows) (found_id k s.rows row there) ∙ row_before k s.rows (registered e a c ∷ []) row there);
      gone = λ k h. gone_closed s rows n k h;
      rp = refl;
    } in
    subst (λ x. Keeps s x × Takes s x n) (sym after) (accepts s rows n fresh was goes)

stores : (s : SiteState) (n : ℕ) (r : AuthenticatorAssertionResponse) (t : SiteState) (row : Credential) → IsAfterSignIn s n r t
    → row_of r.credential s.rows ≡ Some row
    → (a : AuthenticatorData) × AuthOf s.rp.profile a r.auth_data × (row_of r.credential t.rows ≡ Some (signed_in a.sign_count (is_set a.flags BE) row))
stores s n r t row (a, is_auth, after) found = (
  a,
  is_auth,
  ap (λ x. row_of r.credential x.rows) after
      ∙ row_changed r.credential (signed_in a.sign_count (is_set a.flags BE)) s.rows row (λ x. refl) found,
)

abbrev attempt_of_party : RelyingParty → SiteState → ℕ → AuthenticatorAssertionResponse → authentication.JudgedSignIn
attempt_of_party rp s n r = record (judged_sign_in s n r) { rp = rp }

judged : (s t : SiteState) (n : ℕ) (r : AuthenticatorAssertionResponse) → t.rp ≡ s.rp → sign_in_at n t.sessions ≡ sign_in_at n s.sessions
    → row_of r.credential t.rows ≡ row_of r.credential s.rows → judged_sign_in t n r ≡ judged_sign_in s n r
judged s t n r parties sessions rows =
    same_attempt t.rp r (sign_in_at n t.sessions) (sign_in_at n s.sessions) (row_of r.credential t.rows) (row_of r.credential s.rows) sessions rows
    ∙ ap (λ rp. attempt_of_party rp s n r) parties

retired_refused : (valid : Validity) (s : SiteState) (n : ℕ) (r : AuthenticatorAssertionResponse) (row : Credential) → row_of r.credential s.rows ≡ Some row
    → row.retired ≡ true
    → authentication.PassesSignIn valid (judged_sign_in s n r) → ⊥
retired_refused valid s n r row there is passes = let no : row.retired ≡ false = (passes.1.1.0.1 row there).1 in absurd cc

registered_refused : (valid : Validity) (s : SiteState) (n : ℕ) (r : responses.AuthenticatorAttestationResponse)
    → registration.PassesRegistration valid (judged_registration s n r)
    → registration.Attested s.rp.profile r (λ o a c. row_of c.id s.rows ≡ None)
registered_refused valid s n r passes o a c attests = no_row (row_of c.id s.rows) (passes.1.1.1.1.1.1.1.1.1.1.1.1.1.1.1.1.1.0 o a c attests)

one_table : (s t : SiteState) (v w : ℕ) (bs : List ℕ) → TableOf v (saved_of s) bs → TableOf w (saved_of t) bs → (t.rows ≡ s.rows)
    × (t.sessions.next ≡ s.sessions.next)
one_table s t v w bs a b =
    let same = (one_saved v w (saved_of s) (saved_of t) bs a b).1 in
    (ap (λ x. x.rows) (sym same), ap (λ x. x.next) (sym same))

pub laws : (valid : Validity) → SiteLaws valid
laws valid = record {
  stays = stays;
  onward = onward;
  starts = λ s e. (empty_fresh s e, numbered_empty s e);
  begins = λ s o lt fresh. record { numbered = numbered_begun s o lt; fresh = fresh_begun s o fresh; goes_on = goes_begun s o };
  stays_open = stays_open;
  abandons = λ s n fresh. record { numbered = numbered_closed s s.rows n; fresh = fresh_closed s s.rows n fresh; goes_on = goes_closed s n };
  retires = λ s id fresh. record { numbered = λ h. h; fresh = fresh; goes_on = goes_retired s id };
  restarts = λ max_open s fresh. record {
    numbered = λ _. numbered_empty (after_restart max_open s) refl;
    fresh = fresh_restarted max_open s;
    goes_on = goes_restarted max_open s;
  };
  signs_in = signs_in valid;
  registers = λ s n r t fresh passes after. registers s n r t fresh after;
  stores = stores;
  one_number = one_number;
  is_open = λ s n e h. is_open_by (finite.get s.sessions.expected n) e h;
  is_open_to_register = λ s n e h. is_open_to_register_by (finite.get s.sessions.expected n) e h;
  judged = judged;
  retired_refused = retired_refused valid;
  registered_refused = registered_refused valid;
  one_saved = one_table;
}
