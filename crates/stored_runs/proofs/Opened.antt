-- Numbers that are skipped are a run: sessions begin that nobody answers. So a commit is one, and an open is another.
use Rattle.std.proofs.Common.{◌≡◌, ◌<◌, ◌≤◌, ◌+◌, ◌-◌, ◌^◌, ◌⊎◌, inl, inr, ℕ, zero, suc, Bool, true, false, List, [], ◌∷◌, map, refl, sym, ap, ◌∙◌, subst, arith}
use Rattle.std.proofs.lemmas.Grind.{common_steps}
use Rattle.std.specs.Prelude.{Contains, None}
use Rattle.std.specs.FinMap.{gets, same_entries_map}
use Rattle.std.specs.FinMap as finite
use Rattle.sqlite_value.specs.Order.{Row, column}
use Rattle.sqlite_trees.specs.Tree.{Trees}
use Rattle.cose.specs.Schemes.{Validity}
use Rattle.verification.specs.Records.{RelyingParty}
use Rattle.site_rows.specs.Endings.{Endings, HoldsEndings, ending_row}
use Rattle.site_rows.specs.Held.{rows_of}
use Rattle.site_rows.specs.declared.ending.Ending.{Ending}
use Rattle.site_rows.proofs.One.{number_once}
use Rattle.site_state.specs.Sessions.{Opening, OpensSignIn}
use Rattle.site.specs.State as site
use Rattle.site.specs.Laws.{after_begin}
use Rattle.site_stored.specs.Laws.{IsOne, KeptLaws}
use Rattle.site_stored.specs.State.{HoldsSite, StoredState}
use Rattle.authenticator.specs.Steps.{Keys}
use Rattle.agreement.specs.World as world
use Rattle.stored_runs.specs.History.{Begun, IsCommitted, IsKept, IsOpened, Kept}
use Rattle.stored_runs.proofs.Pieces.{Leads, Reaches, after, happens, here}
use Rattle.stored_runs.proofs.Standing.{IsGoing, IsOver, Stands}

-- ---- numbers are skipped

abbrev opening : Opening
opening = OpensSignIn None [] false []

-- so many sessions begin
with_begun : ℕ → site.SiteState → site.SiteState
with_begun zero s = s
with_begun (suc d) s = with_begun d (after_begin s opening)

-- the numbers go on, and one that was given before has the session that it had
pub record IsFurther (d : ℕ) (s t : site.SiteState) : Type 0 where
  pub rp : t.rp ≡ s.rp
  pub policy : t.policy ≡ s.policy
  pub rows : t.rows ≡ s.rows
  pub next : t.sessions.next ≡ s.sessions.next + d
  pub before : (n : ℕ) → n < s.sessions.next → finite.get t.sessions.expected n ≡ finite.get s.sessions.expected n

further : (d : ℕ) (s : site.SiteState) → IsFurther d s (with_begun d s)
unfolding with_begun
further zero s = record { rp = refl; policy = refl; rows = refl; next = omega arith; before = λ n lt. refl }
further (suc d) s =
    let more = further d (after_begin s opening) in
    record {
      rp = more.rp;
      policy = more.policy;
      rows = more.rows;
      next = let up = more.next in omega arith;
      before = λ n lt. more.before n (omega arith) ∙ grind (arith, gets, common_steps, lt);
    }

module _ (valid : Validity) (public : Keys) (i : ℕ) where
  given : (d : ℕ) (s : site.SiteState) → s.sessions.next + d < 2 ^ 63 → Leads valid public i s [] (λ t. t ≡ with_begun d s)
  unfolding with_begun
  given zero s below = here valid public i s (λ t. t ≡ with_begun 0 s) refl
  given (suc d) s below =
      after valid public i s [] [] (λ t. t ≡ after_begin s opening) (λ t. t ≡ with_begun (suc d) s)
      (after_begin s opening, refl, λ w at. happens valid public w i s (world.Begins opening) (after_begin s opening) at ((λ k. omega arith), omega arith, refl))
      (λ t is. subst (λ (x : site.SiteState). Leads valid public i x [] (λ y. y ≡ with_begun (suc d) s)) (sym is) (given d (after_begin s opening) (omega arith)))

  -- the next number is a higher one, by what is kept alike, and of fewer texts
  module _ {S : Type 0} (k l : Kept S) (next more : ℕ) (bs cs : List Begun) (second now : ℕ) (t : site.SiteState) (stands : Stands k next bs second t) where
    pub skips : next ≤ more → more < 2 ^ 63 → l.state.rp ≡ k.state.rp → l.state.policy ≡ k.state.policy → l.placed ≡ k.placed → l.ended ≡ k.ended → now ≡ second
        → ((b : Begun) → Contains cs b → b.number < more → Contains bs b × (b.number < next)) → Leads valid public i t [] (Stands l more cs now)
    skips le lt rp policy placed ended same among = (
      with_begun d t,
      record {
        rp = far.rp ∙ stands.rp ∙ sym rp;
        policy = far.policy ∙ stands.policy ∙ sym policy;
        rows = far.rows ∙ stands.rows ∙ ap rows_of (sym placed);
        next = let up = far.next in let is = stands.next in omega arith;
        each = λ b there under. let old = among b there under in still b old.1 (stands.each b old.0 old.1);
      },
      λ w at. subst (λ (x : site.SiteState). Reaches valid public w i x []) run.1 (run.2 w at),
    ) where
      d : ℕ
      d = more - next

      far : IsFurther d t (with_begun d t)
      far = further d t

      run : Leads valid public i t [] (λ u. u ≡ with_begun d t)
      run = given d t (let is = stands.next in omega arith)

      still : (b : Begun) → b.number < next → IsGoing t.sessions b ⊎ IsOver k.ended second b → IsGoing (with_begun d t).sessions b ⊎ IsOver l.ended now b
      still b under (inl going) = let is = stands.next in inl (far.before b.number (omega arith) ∙ going)
      still b under (inr over) =
          inr (subst (λ (m : Endings). IsOver m now b) (sym ended) (subst (λ (n : ℕ). IsOver k.ended n b) (sym same) over))

  -- ---- a commit

  pub commits : {S : Type 0} (old new : Kept S) → IsKept old → IsKept new → IsCommitted old new → (bs cs : List Begun) (second now : ℕ) (t : site.SiteState)
      → Stands old old.state.next bs second t → now ≡ second → ((b : Begun) → Contains cs b → Contains bs b × (b.number < old.state.next))
      → Leads valid public i t [] (Stands new new.state.next cs now)
  commits {S} old new kept are is bs cs second now t stands same among =
      skips old new old.state.next new.state.next bs cs second now t stands (goes_on old.state.is_pending refl) (let given = are.given in let reserved = are.reserved in omega arith)
      (party old.state.is_pending refl) (taken old.state.is_pending refl) is.0 is.1 same (λ b there under. among b there)
    where
      goes_on : (b : Bool) → old.state.is_pending ≡ b → old.state.next ≤ new.state.next
      goes_on false idle = let e = ap (λ (s : StoredState S). s.next) (is.2.quiet idle) in omega arith
      goes_on true busy = let e = ap (λ (s : StoredState S). s.next) (is.2.moved busy) in grind (arith, common_steps, e)

      party : (b : Bool) → old.state.is_pending ≡ b → new.state.rp ≡ old.state.rp
      party false idle = ap (λ (s : StoredState S). s.rp) (is.2.quiet idle)
      party true busy = ap (λ (s : StoredState S). s.rp) (is.2.moved busy)

      taken : (b : Bool) → old.state.is_pending ≡ b → new.state.policy ≡ old.state.policy
      taken false idle = ap (λ (s : StoredState S). s.policy) (is.2.quiet idle)
      taken true busy = ap (λ (s : StoredState S). s.policy) (is.2.moved busy)

-- ---- an open

-- trees that hold these endings hold no others
abbrev rows_in : List (ℕ × Ending) → List Row
rows_in es = map (λ e. ending_row e.0 e.1) es

abbrev head_of : Row → List Row → Row
head_of none [] = none
head_of none (r ∷ rs) = r

abbrev rest_of : List Row → List Row
rest_of [] = []
rest_of (r ∷ rs) = rs

abbrev pair : ℕ → Ending → ℕ × Ending
pair n e = (n, e)

same_ending : (m n : ℕ) (e f : Ending) → ending_row m e ≡ ending_row n f → pair m e ≡ pair n f
same_ending m n e f same =
    let number : m ≡ n = number_once m n (ap (λ (r : Row). column r 0) same) in
    let said : e.said ≡ f.said = number_once e.said f.said (ap (λ (r : Row). column r 2) same) in
    let till : e.until ≡ f.until = number_once e.until f.until (ap (λ (r : Row). column r 3) same) in
    λ k. (number k, record { said = said k; until = till k })

same_rows : (es fs : List (ℕ × Ending)) → rows_in es ≡ rows_in fs → es ≡ fs
same_rows [] [] same = refl
same_rows [] (f ∷ fs) same = absurd cc
same_rows (e ∷ es) [] same = absurd cc
same_rows (e ∷ es) (f ∷ fs) same =
    ap (λ (x : ℕ × Ending). x ∷ es) (same_ending e.0 f.0 e.1 f.1 (ap (head_of []) same))
    ∙ ap (λ (xs : List (ℕ × Ending)). f ∷ xs) (same_rows es fs (ap rest_of same))

one_ended : (m n : Endings) (tree : ℕ) (db : Trees) → HoldsEndings tree m db → HoldsEndings tree n db → m ≡ n
one_ended m n tree db here there = same_entries_map m n (same_rows (finite.entries m) (finite.entries n) (sym here ∙ there))

module _ {S : Type 0} (valid : Validity) (public : Keys) (laws : KeptLaws) (i : ℕ) (kept new : Kept S) (was : IsKept kept) (are : IsKept new) (is : IsOpened kept new) where
  one : IsOne kept.placed new.placed kept.state.rp.rp_id new.state.rp.rp_id kept.state.reserved new.state.reserved
  one = laws.one_site kept.placed new.placed kept.state.rp.rp_id new.state.rp.rp_id kept.state.reserved new.state.reserved kept.trees was.held.holds
      (subst (λ (t : Trees). HoldsSite new.placed new.state.rp.rp_id new.state.reserved t) is.trees are.held.holds)

  pub same_placed : kept.placed ≡ new.placed
  same_placed = one.placed

  pub up_to : new.state.next ≡ kept.state.reserved
  up_to = is.next ∙ sym one.next

  pub opens : (next : ℕ) (bs cs : List Begun) (second now : ℕ) (t : site.SiteState) → Stands kept next bs second t → next ≤ kept.state.reserved → now ≡ second
      → ((b : Begun) → Contains cs b → Contains bs b × (b.number < next)) → Leads valid public i t [] (Stands new new.state.next cs now)
  opens next bs cs second now t stands le same among =
      let up = up_to in
      after valid public i t [] [] (Stands as_opened next bs second) (Stands new new.state.next cs now) (
        u,
        record { rp = refl; policy = refl; rows = stands.rows; next = stands.next; each = stands.each },
        λ w at. happens valid public w i t world.Reopens u at
            (record { rp_id = is.rp_id ∙ ap (λ (p : RelyingParty). p.rp_id) (sym stands.rp); rows = refl; sessions = refl }),
      ) (λ v at.
      skips valid public i as_opened new next new.state.next bs cs second now v at (omega arith) (let r = was.reserved in omega arith) refl refl (sym one.placed)
      (sym (one_ended kept.ended new.ended 8 kept.trees was.ended (subst (λ (db : Trees). HoldsEndings 8 new.ended db) is.trees are.ended)))
      same (λ b there under. among b there))
    where
      -- the kept site, of the relying party and the policy with which it is opened; and so a site of a run
      as_opened : Kept S
      as_opened = record kept { state = record kept.state { rp = new.state.rp; policy = new.state.policy } }

      u : site.SiteState
      u = record t { rp = new.state.rp; policy = new.state.policy }
