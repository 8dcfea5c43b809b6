-- By what the contracts of a site's calls say, each makes of what is kept what a call of a history does.
use Rattle.std.proofs.Common.{◌≡◌, ◌+◌, ℕ, suc, pos, Bool, true, false, List, [], ◌∷◌, filter, length, map, not, refl, sym, ap, ◌∙◌, subst, arith}
use Rattle.std.specs.Prelude.{⊤, Err, IfOk, Ok, OnOk, Option, Result}
use Rattle.sqlite_value.specs.Order.{Row, bytes, column}
use Rattle.sqlite_trees.specs.Tree.{Trees, has_rowid}
use Rattle.sqlite_trees.specs.View.{View, IsClean}
use Rattle.base64.specs.GeneralPurpose.{IsBytes}
use Rattle.cose.specs.Schemes.{Validity}
use Rattle.cose.specs.declared.key.Alg.{Alg}
use Rattle.authdata.specs.Responses.{AuthenticatorAssertionResponse, AuthenticatorAttestationResponse}
use Rattle.verification.specs.Records.{Credential, RelyingParty}
use Rattle.verification.specs.declared.party.Policy.{Policy}
use Rattle.site_rows.specs.Endings.{Endings, HoldsEndings}
use Rattle.site_rows.specs.Held.{Placed}
use Rattle.site_rows.specs.Trees.{detail_tree}
use Rattle.site_rows.proofs.One.{number_once}
use Rattle.site_stored.proofs.Counting.{found_one}
use Rattle.site_stored.specs.Calls as calls
use Rattle.site_stored.specs.Calls.{IsOneSite, KeepsBeside, TellsAbandoned, TellsAllRetired, TellsDeleted, TellsErased, TellsRetired, credential_trees}
use Rattle.site_stored.specs.Sessions.{EndsSession, accepted, begun_text}
use Rattle.site_stored.specs.Starts.{IsMade, IsOpened}
use Rattle.site_stored.specs.State.{AreReserved, HasKey, HoldsSite, IsHeld, StoredState, ended_session_tree, ended_user_tree, mark_tree, site_row, site_tree}
use Rattle.site_stored.specs.declared.create.Bounds.{Bounds}
use Rattle.site_stored.specs.declared.finish.SignedIn.{SignedIn}
use Rattle.site_stored.specs.declared.open.Opening as starts
use Rattle.site_stored.specs.declared.registration.Registered.{Registered}
use Rattle.site_stored.specs.declared.session.Begun as handed
use Rattle.site_seal.proofs.Algorithms.{listed_in_order}
use Rattle.site_seal.specs.Seal.{is_ed_dsa, is_es256, is_rs256, ordered}
use Rattle.site_state.specs.Sessions.{IsInput, Opening, OpensRegistration, OpensSignIn, challenge_of}
use Rattle.site_state.specs.declared.session.Asks.{Asks}
use Rattle.std.specs.List.{list_any}
use Rattle.agreement.specs.World.{words_of}
use Rattle.agreement.specs.Acting.{nothing_valid}
use Rattle.stored_runs.specs.Made.{Makes, MakesBegun, MakesCommitted, MakesNew, MakesOpened, kept_as}
use Rattle.stored_runs.specs.History.{Abandons, Deletes, Erases, IsKept, MayBegin, Registers, Retires, RetiresAll, SignsIn, ids_of, of_user}

abbrev head_of : Row → List Row → Row
head_of none [] = none
head_of none (r ∷ rs) = r

module _ {S : Type 0} (view : S → View) (old new : StoredState S) where
  abbrev before : Trees
  before = (view old.store).trees

  abbrev after : Trees
  after = (view new.store).trees

  -- what every call but a begin keeps
  abbrev pub Keeps : Type 0
  Keeps = IsOneSite old new × (new.is_shut ≡ false) × (new.next ≡ old.next)

  -- no more numbers are reserved where the tree of the site is as it was
  same_reserved : (placed left : Placed) → IsHeld placed old before → IsHeld left new after → after site_tree ≡ before site_tree → new.reserved ≡ old.reserved
  same_reserved placed left h k same =
      let rows = sym k.holds.site ∙ same ∙ h.holds.site in
      number_once new.reserved old.reserved (ap (λ (r : Row). column r 4) (ap (head_of []) rows))

  is_kept : (placed left : Placed) (ended gone : Endings) → IsKept (kept_as view old placed ended) → IsHeld left new after → HoldsEndings ended_session_tree gone after
      → new.next ≡ old.next → after site_tree ≡ before site_tree → IsKept (kept_as view new left gone)
  is_kept placed left ended gone is held ends next same =
      let e = same_reserved placed left is.held held same in
      record {
        held = held;
        ended = ends;
        given = let g = is.given in omega arith;
        reserved = let r = is.reserved in omega arith;
      }

  site_apart : KeepsBeside (ended_user_tree ∷ credential_trees) before after → after site_tree ≡ before site_tree
  site_apart beside = beside site_tree (λ e. omega (arith, e), (λ e. omega (arith, e), (λ e. omega (arith, e), (λ e. omega (arith, e), tt))))

  site_apart_too : KeepsBeside (ended_user_tree ∷ detail_tree ∷ credential_trees) before after → after site_tree ≡ before site_tree
  site_apart_too beside = beside site_tree (λ e. omega (arith, e), (λ e. omega (arith, e), (λ e. omega (arith, e), (λ e. omega (arith, e), (λ e. omega (arith, e), tt)))))

  site_apart_still : KeepsBeside (ended_session_tree ∷ detail_tree ∷ credential_trees) before after → after site_tree ≡ before site_tree
  site_apart_still beside = beside site_tree (λ e. omega (arith, e), (λ e. omega (arith, e), (λ e. omega (arith, e), (λ e. omega (arith, e), (λ e. omega (arith, e), tt)))))

  ended_apart : (ended : Endings) → KeepsBeside (ended_user_tree ∷ credential_trees) before after → HoldsEndings ended_session_tree ended before
      → HoldsEndings ended_session_tree ended after
  ended_apart ended beside holds =
      beside ended_session_tree (λ e. omega (arith, e), (λ e. omega (arith, e), (λ e. omega (arith, e), (λ e. omega (arith, e), tt)))) ∙ holds

  ended_apart_too : (ended : Endings) → KeepsBeside (ended_user_tree ∷ detail_tree ∷ credential_trees) before after → HoldsEndings ended_session_tree ended before
      → HoldsEndings ended_session_tree ended after
  ended_apart_too ended beside holds =
      beside ended_session_tree (λ e. omega (arith, e), (λ e. omega (arith, e), (λ e. omega (arith, e), (λ e. omega (arith, e), (λ e. omega (arith, e), tt))))) ∙ holds

  -- ---- credentials end

  pub retires : {E : Type 0} (id : List ℕ) (now : ℕ) (result : Result Bool E)
      → IfOk result (λ was. IsClean (view new.store) → (placed : Placed) → IsHeld placed old before → (left : Placed) × TellsRetired placed id was left × IsHeld left new after)
      → OnOk result (IsClean (view new.store) → (placed : Placed) → IsHeld placed old before → KeepsBeside (ended_user_tree ∷ credential_trees) before after)
      → OnOk result Keeps → IfOk result (λ was. Makes {A = Unit {0}} view nothing_valid old (λ u. Retires id was now) new)
  retires id now (Err e) told beside keeps = tt
  retires id now (Ok was) told beside keeps = λ clean placed ended is.
      let there = told clean placed is.held in
      let apart = beside clean placed is.held in (
        tt,
        there.0,
        ended,
        (
          is_kept placed there.0 ended ended is there.2 (ended_apart ended apart is.ended) keeps.2 (site_apart apart),
          keeps.0,
          (there.1, keeps.2, refl),
        ),
      )

  pub deletes : {E : Type 0} (id : List ℕ) (now : ℕ) (result : Result Bool E)
      → IfOk result (λ was. IsClean (view new.store) → (placed : Placed) → IsHeld placed old before → (left : Placed) × TellsDeleted placed id was left × IsHeld left new after)
      → OnOk result (IsClean (view new.store) → (placed : Placed) → IsHeld placed old before → KeepsBeside (ended_user_tree ∷ detail_tree ∷ credential_trees) before after)
      → OnOk result Keeps → IfOk result (λ was. Makes {A = Unit {0}} view nothing_valid old (λ u. Deletes id was now) new)
  deletes id now (Err e) told beside keeps = tt
  deletes id now (Ok was) told beside keeps = λ clean placed ended is.
      let there = told clean placed is.held in
      let apart = beside clean placed is.held in (
        tt,
        there.0,
        ended,
        (
          is_kept placed there.0 ended ended is there.2 (ended_apart_too ended apart is.ended) keeps.2 (site_apart_too apart),
          keeps.0,
          (there.1, keeps.2, refl),
        ),
      )

  -- as many ids are retired, or deleted, as is answered
  same_length : {X Y : Type 0} (f : X → Y) (xs : List X) → length (map f xs) ≡ length xs
  same_length f [] = refl
  same_length f (x ∷ xs) = ap suc (same_length f xs)

  pub retires_all : {E : Type 0} (user : List ℕ) (now : ℕ) (result : Result ℕ E)
      → IfOk result (λ told. IsClean (view new.store) → (placed : Placed) → IsHeld placed old before → (left : Placed) × TellsAllRetired placed user told left × IsHeld left new after)
      → OnOk result (IsClean (view new.store) → (placed : Placed) → IsHeld placed old before → KeepsBeside (ended_user_tree ∷ credential_trees) before after)
      → OnOk result Keeps → IfOk result (λ told. Makes view nothing_valid old (λ ids. RetiresAll user ids now) new)
  retires_all user now (Err e) told beside keeps = tt
  retires_all user now (Ok n) told beside keeps = λ clean placed ended is.
      let there = told clean placed is.held in
      let apart = beside clean placed is.held in
      let theirs = filter (λ (c : Credential). not c.retired) (of_user user placed) in (
        ids_of theirs,
        there.0,
        ended,
        (
          is_kept placed there.0 ended ended is there.2 (ended_apart ended apart is.ended) keeps.2 (site_apart apart),
          keeps.0,
          (refl, (same_length (λ (c : Credential). c.id) theirs, there.1.1), keeps.2, refl),
        ),
      )

  pub erases : {E : Type 0} (user : List ℕ) (now : ℕ) (result : Result ℕ E)
      → IfOk result (λ told. IsClean (view new.store) → (placed : Placed) → IsHeld placed old before → (left : Placed) × TellsErased placed user told left × IsHeld left new after)
      → OnOk result (IsClean (view new.store) → (placed : Placed) → IsHeld placed old before → KeepsBeside (ended_user_tree ∷ detail_tree ∷ credential_trees) before after)
      → OnOk result Keeps → IfOk result (λ told. Makes view nothing_valid old (λ ids. Erases user ids now) new)
  erases user now (Err e) told beside keeps = tt
  erases user now (Ok n) told beside keeps = λ clean placed ended is.
      let there = told clean placed is.held in
      let apart = beside clean placed is.held in
      let theirs = of_user user placed in (
        ids_of theirs,
        there.0,
        ended,
        (
          is_kept placed there.0 ended ended is there.2 (ended_apart_too ended apart is.ended) keeps.2 (site_apart_too apart),
          keeps.0,
          (refl, (same_length (λ (c : Credential). c.id) theirs, there.1.1), keeps.2, refl),
        ),
      )

  -- ---- sessions end

  abbrev Ends : ℕ → ℕ → List ℕ → Type 0
  Ends how now text =
      IsClean (view new.store) → (placed : Placed) → IsHeld placed old before → (ended : Endings) → HoldsEndings ended_session_tree ended before
      → (gone : Endings) × EndsSession old how now text ended gone × HoldsEndings ended_session_tree gone after

  pub signs_in : {E : Type 0} (valid : Validity) (text : List ℕ) (r : AuthenticatorAssertionResponse) (now : ℕ) (result : Result SignedIn E)
      → IfOk result (λ x. IsClean (view new.store) → (placed : Placed) → IsHeld placed old before → (ended : Endings) → HoldsEndings ended_session_tree ended before
      → (left : Placed) × calls.SignsIn valid placed ended old now text r x left × IsHeld left new after)
      → OnOk result (Ends accepted now text)
      → OnOk result (IsClean (view new.store) → (placed : Placed) → IsHeld placed old before → KeepsBeside (ended_session_tree ∷ detail_tree ∷ credential_trees) before after)
      → OnOk result Keeps → IfOk result (λ x. Makes view valid old (λ n. SignsIn n text r now) new)
  signs_in valid text r now (Err e) told ends beside keeps = tt
  signs_in valid text r now (Ok x) told ends beside keeps = λ clean placed ended is.
      let there = told clean placed is.held ended is.ended in
      let gone = ends clean placed is.held ended is.ended in
      let apart = beside clean placed is.held in (
        gone.1.0,
        there.0,
        gone.0,
        (
          is_kept placed there.0 ended gone.0 is there.2 gone.2 keeps.2 (site_apart_still apart),
          keeps.0,
          ((x, there.1), keeps.2, (gone.1, refl)),
        ),
      )

  pub registers : {E : Type 0} (valid : Validity) (text : List ℕ) (r : AuthenticatorAttestationResponse) (now : ℕ) (result : Result Registered E)
      → IfOk result (λ x. IsClean (view new.store) → (placed : Placed) → IsHeld placed old before → (ended users : Endings) → HoldsEndings ended_session_tree ended before
      → HoldsEndings ended_user_tree users before → (left : Placed) × calls.Registers valid placed ended users old now text r x left × IsHeld left new after)
      → OnOk result (Ends accepted now text)
      → OnOk result (IsClean (view new.store) → (placed : Placed) → IsHeld placed old before → KeepsBeside (ended_session_tree ∷ detail_tree ∷ credential_trees) before after)
      → OnOk result Keeps
      → IfOk result (λ x. (users : Endings) → HoldsEndings ended_user_tree users before → Makes view valid old (λ n. Registers n text r now) new)
  registers valid text r now (Err e) told ends beside keeps = tt
  registers valid text r now (Ok x) told ends beside keeps = λ users holds clean placed ended is.
      let there = told clean placed is.held ended users is.ended holds in
      let gone = ends clean placed is.held ended is.ended in
      let apart = beside clean placed is.held in (
        gone.1.0,
        there.0,
        gone.0,
        (
          is_kept placed there.0 ended gone.0 is there.2 gone.2 keeps.2 (site_apart_still apart),
          keeps.0,
          ((users, x, there.1), keeps.2, (gone.1, refl)),
        ),
      )

  pub abandons : {E : Type 0} (text : List ℕ) (now : ℕ) (result : Result Bool E)
      → IfOk result (λ was. IsClean (view new.store) → (ended : Endings) → HoldsEndings ended_session_tree ended before
      → (gone : Endings) × TellsAbandoned old now text was ended gone × HoldsEndings ended_session_tree gone after)
      → OnOk result (IsClean (view new.store) → (placed : Placed) → IsHeld placed old before → IsHeld placed new after)
      → OnOk result (IsClean (view new.store) → KeepsBeside (ended_session_tree ∷ []) before after)
      → OnOk result Keeps → IfOk result (λ was. was ≡ true → Makes {A = Unit {0}} view nothing_valid old (λ u. Abandons text now) new)
  abandons text now (Err e) told held beside keeps = tt
  abandons text now (Ok false) told held beside keeps = λ no. absurd cc
  abandons text now (Ok true) told held beside keeps = λ yes clean placed ended is.
      let gone = told clean ended is.ended in
      let left = held clean placed is.held in (
        tt,
        placed,
        gone.0,
        (
          is_kept placed placed ended gone.0 is left gone.2 keeps.2 (beside clean site_tree (λ e. omega (arith, e), tt)),
          keeps.0,
          (refl, keeps.2, gone.1),
        ),
      )

  -- ---- sessions begin

  pub may_sign_in : {E : Type 0} (result : Result handed.Begun E) (user : Option (List ℕ)) (allow : List (List ℕ)) (uv : Bool) (words : List ℕ) → length words ≡ 24
      → OnOk result (IsInput old.rp.profile (OpensSignIn user allow uv words)) → OnOk result (MayBegin old.rp.profile (OpensSignIn user allow uv words))
  may_sign_in (Err e) user allow uv words size is = tt
  may_sign_in (Ok b) user allow uv words size is = (is, size)

  pub may_register : {E : Type 0} (result : Result handed.Begun E) (user : List ℕ) (offered : List Alg) (uv : Bool) (words : List ℕ) (asks : Asks) → length words ≡ 24
      → OnOk result (IsInput old.rp.profile (OpensRegistration user (ordered offered) uv words asks))
      → OnOk result (MayBegin old.rp.profile (OpensRegistration user (ordered offered) uv words asks))
  may_register (Err e) user offered uv words asks size is = tt
  may_register (Ok b) user offered uv words asks size is =
      (is, size, listed_in_order (list_any is_es256 offered) (list_any is_ed_dsa offered) (list_any is_rs256 offered))

  pub begins : {E : Type 0} (o : Opening) (now : ℕ) (result : Result handed.Begun E) → IsBytes (words_of o) → OnOk result (MayBegin old.rp.profile o)
      → IfOk result (λ b. (b.session ≡ old.next) × (b.challenge ≡ challenge_of old.next (words_of o)) × (b.text.items ≡ begun_text old o now))
      → OnOk result (new.next ≡ old.next + 1) → OnOk result (AreReserved new)
      → OnOk result (IsClean (view new.store) → (placed : Placed) → IsHeld placed old before → IsHeld placed new after)
      → OnOk result (IsClean (view new.store) → KeepsBeside (site_tree ∷ []) before after) → OnOk result (IsOneSite old new × (new.is_shut ≡ false))
      → IfOk result (λ b. MakesBegun view old o now b new)
  begins o now (Err e) bytes may told next given held beside one = tt
  begins o now (Ok b) bytes may told next given held beside one = (
    λ clean placed ended is. (
      tt,
      placed,
      ended,
      (
        record {
          held = held clean placed is.held;
          ended = beside clean ended_session_tree (λ e. omega (arith, e), tt) ∙ is.ended;
          given = given.0;
          reserved = given.1;
        },
        one.0,
        (bytes, may, refl, next, refl),
      ),
    ),
    told.0,
    told.2,
  )

  -- ---- commits and opens

  pub commits : {E : Type 0} (result : Result ⊤ E) → OnOk result (calls.IsCommit old new) → OnOk result (AreReserved new)
      → OnOk result (IsClean (view new.store) → (placed : Placed) → IsHeld placed old before → IsHeld placed new after)
      → OnOk result (IsClean (view new.store) → (tree : ℕ) → (tree ≡ site_tree → ⊥) → (tree ≡ mark_tree → ⊥) → after tree ≡ before tree)
      → OnOk result (MakesCommitted view old new)
  commits (Err e) is given held beside = tt
  commits (Ok u) is given held beside = λ clean placed ended kept. (
    record {
      held = held clean placed kept.held;
      ended = beside clean ended_session_tree (λ e. omega (arith, e)) (λ e. omega (arith, e)) ∙ kept.ended;
      given = given.0;
      reserved = given.1;
    },
    (refl, refl, is),
  )

module _ {S : Type 0} (view : S → View) where
  made : (party : RelyingParty) (policy : Policy) (bounds : Bounds) (new : StoredState S) → IsMade view party policy bounds new → MakesNew view new
  made party policy bounds new is clean = (
    record { held = is.held clean; ended = (is.none clean).0; given = is.given.0; reserved = is.given.1 },
    is.key clean,
  )

  pub makes : {E : Type 0} (party : RelyingParty) (policy : Policy) (bounds : Bounds) (result : Result (StoredState S) E)
      → IfOk result (IsMade view party policy bounds) → IfOk result (MakesNew view)
  makes party policy bounds (Err e) is = tt
  makes party policy bounds (Ok new) is = made party policy bounds new is

  opened : (o : starts.Opening) (new : StoredState S) → IsOpened view o new → MakesOpened view new
  opened o new is clean kept kept_is has_key same =
      let trees = (view new.store).trees in
      let found = is.party clean in
      let there : HoldsSite kept.placed kept.state.rp.rp_id kept.state.reserved trees = subst (λ (db : Trees). HoldsSite kept.placed kept.state.rp.rp_id kept.state.reserved db) same kept_is.held.holds in
      let row : site_row kept.state.rp.rp_id kept.state.reserved ∷ [] ≡ site_row o.party.rp_id new.reserved ∷ [] =
      sym (ap (λ (rows : List Row). filter (has_rowid (pos 1)) rows) there.site ∙ found_one kept.state.rp.rp_id kept.state.reserved) ∙ found in
      let rp_id : kept.state.rp.rp_id ≡ o.party.rp_id = ap (λ (rows : List Row). bytes (column (head_of [] rows) 3)) row in
      let key : new.key ≡ kept.state.key = ap (λ (rows : List Row). bytes (column (head_of [] rows) 2))
      (sym (is.key clean) ∙ subst (λ (db : Trees). HasKey kept.state.key db) same has_key) in (
        record {
          held = is.held clean kept.placed kept.state.reserved (subst (λ (id : List ℕ). HoldsSite kept.placed id kept.state.reserved trees) rp_id there);
          ended = subst (λ (db : Trees). HoldsEndings ended_session_tree kept.ended db) same kept_is.ended;
          given = let n = is.next in omega arith;
          reserved = is.fits;
        },
        record { trees = sym same; rp_id = ap (λ (p : RelyingParty). p.rp_id) is.started.0 ∙ sym rp_id; key = key; next = is.next },
      )

  pub opens : {E : Type 0} (o : starts.Opening) (result : Result (StoredState S) E) → IfOk result (IsOpened view o) → IfOk result (MakesOpened view)
  opens o (Err e) is = tt
  opens o (Ok new) is = opened o new is
