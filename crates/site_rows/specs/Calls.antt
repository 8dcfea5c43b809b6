-- What a call over a store leaves of it.
use Rattle.std.specs.Prelude.{◌≤◌, IfErr, IsSome, OnOk, Result}
use Rattle.sqlite_disk.specs.Disk.{MoreFaults}
use Rattle.sqlite_trees.specs.Tree.{Trees}
use Rattle.sqlite_trees.specs.View.{HasCause, IsClean, KeepsSchema, OnlyWrites, View}
use Rattle.sqlite_trees.specs.declared.error.StoreError.{StoreError}
use Rattle.sqlite_trees.specs.declared.store.Store.{Ghosts}
use Rattle.site_rows.specs.Causes.{HasReadCause}
use Rattle.site_rows.specs.Held.{IsSameView, Placed}

-- what holds of a store whose disk has given no wrong answer so far
abbrev pub IfClean : View → (View → Type 0) → Type 0
IfClean v P = IsClean v → P v

-- the cursor that is read by may be used
abbrev pub HasCursor : View → Type 0
HasCursor v = IsSome (v.cursors 0)

-- whatever a call answers: no wrong answer and no fault of the disk is forgotten, and a crash has no new outcome
pub record IsQuiet {S : Type 0} (g : Ghosts S) (old new : S) : Type 0 where
  pub clean : IsClean (g.view new) → IsClean (g.view old)
  pub counts : g.faults old ≤ g.faults new
  pub crash : (db : Trees) → g.recovers new db → g.recovers old db

-- a call that reads: it has moved cursors at most
pub record Reads {S A E : Type 0} (g : Ghosts S) (old new : S) (result : Result A E) : Type 0 where
  pub same : OnOk result (IsSameView (g.view old) (g.view new))
  pub schema : KeepsSchema (g.view old) (g.view new)
  pub quiet : IsQuiet g old new

-- a call that writes, within the transaction that is begun: trees and cursors differ at most
pub record Writes {S A E : Type 0} (g : Ghosts S) (old new : S) (result : Result A E) : Type 0 where
  pub writes : OnOk result (IsClean (g.view new) → OnlyWrites (g.view old) (g.view new))
  pub schema : KeepsSchema (g.view old) (g.view new)
  pub quiet : IsQuiet g old new

-- a call that fails has its cause: running out of memory, a fault of the disk during it, or a row that no store takes
abbrev pub StoreFails : {S A : Type 0} → Ghosts S → S → S → Type 0 → Result A StoreError → Type 0
StoreFails g old new refused result = IsClean (g.view new) → IfErr result (HasCause (g.view old) (MoreFaults (g.faults old) (g.faults new)) refused)

-- a look-up that fails has its cause: such a one, or trees that hold credentials only if they are such
abbrev pub LookUpFails : {S A : Type 0} → Ghosts S → S → S → (Placed → Type 0) → Result A StoreError → Type 0
LookUpFails g old new AreSuch result =
    IsClean (g.view new) → IfErr result (HasReadCause (g.view old) (MoreFaults (g.faults old) (g.faults new)) AreSuch)
