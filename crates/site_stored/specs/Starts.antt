-- What a site over a store is once it is made or opened.
use Rattle.std.specs.Prelude.{◌≡◌, ◌<◌, ℕ, false}
use Rattle.std.specs.FinMap as finite
use Rattle.sqlite_trees.specs.View.{IsClean, View}
use Rattle.verification.specs.Records.{RelyingParty}
use Rattle.verification.specs.declared.party.Policy.{Policy}
use Rattle.site_rows.specs.Endings.{HoldsEndings}
use Rattle.site_rows.specs.Held.{Placed}
use Rattle.site_stored.specs.State.{AreReserved, FitsColumn, HasKey, HasParty, HoldsSite, IsHeld, StoredState, ended_session_tree, ended_user_tree}
use Rattle.site_stored.specs.declared.create.Bounds.{Bounds}
use Rattle.site_stored.specs.declared.open.Opening.{Opening}

-- a site of this relying party, with this policy and bound, which is not shut and has nothing to commit
abbrev pub IsStarted : {S : Type 0} → RelyingParty → Policy → Bounds → StoredState S → Type 0
IsStarted party policy bounds s =
    (s.rp ≡ party) × (s.policy ≡ policy) × (s.most ≡ bounds.credentials) × (s.lifetime ≡ bounds.lifetime) × (s.is_shut ≡ false) × (s.is_pending ≡ false)

-- a site that is made: without credentials, and no session of it has begun
pub record IsMade {S : Type 0} (view : S → View) (party : RelyingParty) (policy : Policy) (bounds : Bounds) (s : StoredState S) : Type 0 where
  pub started : IsStarted party policy bounds s
  pub next : s.next ≡ 1
  pub given : AreReserved s
  pub held : IsClean (view s.store) → IsHeld finite.empty s (view s.store).trees
  pub key : IsClean (view s.store) → HasKey s.key (view s.store).trees
  pub none : IsClean (view s.store) → HoldsEndings ended_session_tree finite.empty (view s.store).trees × HoldsEndings ended_user_tree finite.empty (view s.store).trees

-- a site that is opened: the numbers of sessions go on, under the same key. It is of this relying party; where the store holds a site, this is it; and it is
-- no older one than is known
pub record IsOpened {S : Type 0} (view : S → View) (o : Opening) (s : StoredState S) : Type 0 where
  pub started : IsStarted o.party o.policy o.bounds s
  pub next : s.next ≡ s.reserved
  pub fits : FitsColumn s.reserved
  pub key : IsClean (view s.store) → HasKey s.key (view s.store).trees
  pub party : IsClean (view s.store) → HasParty o.party.rp_id s.reserved (view s.store).trees
  pub held : IsClean (view s.store) → (placed : Placed) (next : ℕ) → HoldsSite placed o.party.rp_id next (view s.store).trees
      → IsHeld placed s (view s.store).trees
  pub newer : o.at_least < s.reserved
