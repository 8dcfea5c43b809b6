-- What follows where a value has no fault, and where it has none by its tests.
use Rattle.std.proofs.Common.{◌≡◌, Bool, true, false, cond, eqb, ◌||◌, Option, Some, None, refl, arith}
use Rattle.std.proofs.lemmas.Bool.Decides.{nat_tests}
use Rattle.ctap_encoding.specs.declared.fault.Fault.{Fault}
use Rattle.ctap_encoding.specs.declared.fault.Fault.TheVariants as faults
use Rattle.ccbor.specs.Item.{Item}
use Rattle.ctap_encoding.specs.Table.{Holds, place, fails, has_fault, gravest, Clean}

pub or_none : (a b : Bool) → (a || b) ≡ false → (a ≡ false) × (b ≡ false)
or_none false b e = (refl, e)
or_none true b e = absurd cc

pub none_or : (a b : Bool) → a ≡ false → b ≡ false → (a || b) ≡ false
none_or a b e g = rw e g

-- a test that is no fault holds
pub holds : (f : Fault) (test : Bool) → fails f f test ≡ false → test ≡ true
holds f true e = refl
holds f false e = let same : eqb (place f) (place f) ≡ true = grind (arith, nat_tests) in absurd cc

-- ---- the gravest fault

unfound : (b : Bool) (f : Fault) (others : Option Fault) → cond b (Some f) others ≡ None → (b ≡ false) × (others ≡ None)
unfound true f others e = absurd cc
unfound false f others e = (refl, e)

pub clean_if_none : (h : Holds) (x : Item) → gravest h x ≡ None → Clean h x
clean_if_none h x e f =
    let kind = unfound (has_fault faults.AnotherKind h x) faults.AnotherKind _ e in
    let key = unfound (has_fault faults.UnlistedKey h x) faults.UnlistedKey _ kind.1 in
    let missing = unfound (has_fault faults.MissingMember h x) faults.MissingMember _ key.1 in
    let size = unfound (has_fault faults.InvalidSize h x) faults.InvalidSize _ missing.1 in
    let over = unfound (has_fault faults.OverLimit h x) faults.OverLimit _ size.1 in
    elim f as (λ i. has_fault i h x ≡ false) [
      | faults.AnotherKind ↦ kind.0
      | faults.UnlistedKey ↦ key.0
      | faults.MissingMember ↦ missing.0
      | faults.InvalidSize ↦ size.0
      | faults.OverLimit ↦ over.0
    ]

pub none_if_clean : (h : Holds) (x : Item) → Clean h x → gravest h x ≡ None
none_if_clean h x c = rw (c faults.AnotherKind, c faults.UnlistedKey, c faults.MissingMember, c faults.InvalidSize, c faults.OverLimit) refl
