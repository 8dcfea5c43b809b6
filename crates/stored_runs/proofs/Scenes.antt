-- What a history is made of: what has ended, what begins, and the site stage by stage, until it is signed in.
use Rattle.std.proofs.Common.{inl, inr, ℕ, zero, suc, List, [], ◌∷◌, true, false, refl, arith, replicate}
use Rattle.std.proofs.lemmas.Grind.{common_steps}
use Rattle.std.specs.FinMap.{gets, get-empty}
use Rattle.std.specs.FinMap as finite
use Rattle.std.specs.Ordering.{nat_cmp}
use Rattle.base64.specs.GeneralPurpose.{IsBytes}
use Rattle.site_state.specs.Sessions.{Opening}
use Rattle.site_rows.specs.Endings.{Endings, IsPurged}
use Rattle.site_rows.specs.declared.ending.Ending.{Ending}
use Rattle.agreement.specs.World.{World}
use Rattle.agreement.proofs.OneRun as one
use Rattle.stored_runs.specs.History.{Begun, Kept, MayBegin, Store, begun_at}
use Rattle.stored_runs.specs.Among.{Act, Scene, Turn}
use Rattle.stored_runs.proofs.Responses.{new_row}
use Rattle.stored_runs.proofs.Stages.{state_of, with_none, with_one}
use Rattle.stored_runs.proofs.Standing.{same_number}

abbrev pub Site : Type 0
Site = Kept (Unit {0})

pub zeros : (n : ℕ) → IsBytes (replicate n 0)
zeros zero k = omega arith
zeros (suc n) zero = omega arith
zeros (suc n) (suc k) = zeros n k

-- ---- what has ended

abbrev pub none_ended : Endings
none_ended = finite.empty

abbrev pub ending : ℕ → ℕ → Ending
ending said until = record { said = said; until = until }

-- the first session was accepted; then the second too; then, when their time is over, the third was abandoned
abbrev pub one_ended : Endings
one_ended = finite.insert none_ended 1 (ending 1 300)

abbrev pub two_ended : Endings
two_ended = finite.insert one_ended 2 (ending 1 300)

abbrev pub last_ended : Endings
last_ended = finite.insert none_ended 1001 (ending 2 400)

pub purged : IsPurged 301 two_ended none_ended
purged n = elim (same_number n 1) [
  | inl first ↦ inr (ending 1 300, grind (arith, gets, common_steps, first), omega arith, get-empty {X = Ending} nat_cmp n)
  | inr other ↦ elim (same_number n 2) [
    | inl second ↦ inr (ending 1 300, grind (arith, gets, common_steps, second), omega arith, get-empty {X = Ending} nat_cmp n)
    | inr neither ↦ inl (grind (arith, gets, common_steps, other, neither))
  ]
]

-- ---- what begins

abbrev pub for_registration : Opening
for_registration = one.for_registration_of

abbrev pub for_sign_in : Opening
for_sign_in = one.for_sign_in_by

pub may_register : MayBegin one.at_first.rp.profile for_registration
may_register = (((omega arith, omega arith), omega arith), refl, refl)

pub may_sign_in : MayBegin one.at_first.rp.profile for_sign_in
may_sign_in = ((λ x t. absurd cc, omega arith, tt), refl)

abbrev pub first : Begun
first = begun_at (state_of 1 1001 0 0 0 false) for_registration 0

abbrev pub second : Begun
second = begun_at (state_of 2 1001 0 0 0 false) for_sign_in 0

abbrev pub third : Begun
third = begun_at (state_of 1001 2001 1 1 1 false) for_sign_in 100

abbrev pub texts : List Begun
texts = first ∷ second ∷ third ∷ []

-- ---- the site, stage by stage

abbrev pub s0 : Site
s0 = with_none none_ended 0 1 1001 0 false

abbrev pub s1 : Site
s1 = with_none none_ended 0 2 1001 0 false

abbrev pub s2 : Site
s2 = with_none none_ended 0 3 1001 0 false

abbrev pub s3 : Site
s3 = with_one new_row one_ended 3 1001 0 true

abbrev pub s4 : Site
s4 = with_one new_row one_ended 1001 2001 1 false

abbrev pub s5 : Site
s5 = with_one new_row one_ended 1002 2001 1 false

abbrev pub s6 : Site
s6 = with_one new_row one_ended 2001 2001 1 false

abbrev pub store : Site → Site → List Begun → ℕ → Store (Unit {0})
store now committed begun second = record { now = now; committed = committed; begun = begun; second = second }

abbrev pub scene : Store (Unit {0}) → World → Scene (Unit {0})
scene s w = record { store = s; world = w }

abbrev pub turn : Scene (Unit {0}) → Act → Scene (Unit {0}) → Turn (Unit {0})
turn old act new = record { old = old; act = act; new = new }
