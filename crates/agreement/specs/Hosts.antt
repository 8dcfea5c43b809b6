-- Hosts that verify signatures elsewhere: each of their calls has a relation of its own, as the one signature that was
-- verified for it. What such calls come to is a run, by any relation that those are within.
use Rattle.std.specs.Prelude.{◌≡◌, ℕ, List, [], ◌∷◌}
use Rattle.cose.specs.Schemes.{Validity}
use Rattle.cose.specs.declared.key.CoseKey.{CoseKey}
use Rattle.verification.specs.SignIn.{JudgedSignIn, PassesSignIn}
use Rattle.verification.specs.Registration.{JudgedRegistration, PassesRegistration}
use Rattle.authenticator.specs.Steps.{Keys}
use Rattle.agreement.specs.World.{Happens, IsRun, Moment, World}

-- what is valid by the one is valid by the other
abbrev pub IsWithin : Validity → Validity → Type 0
IsWithin narrow wide = (key : CoseKey) (message signature : List ℕ) → narrow key message signature → wide key message signature

-- a run whose moments are each by one of these relations, which is within the wide one
abbrev pub IsHostsRun : {I : Type 0} → (I → Validity) → Validity → Keys → World → List Moment → Type 0
IsHostsRun narrow wide public w [] = Unit {0}
IsHostsRun {I} narrow wide public w (m ∷ ms) =
    (m.old ≡ w) × ((i : I) × IsWithin (narrow i) wide × Happens (narrow i) public m.old m.event m.end m.new) × IsHostsRun narrow wide public m.new ms

pub record HostsRuns {I : Type 0} (narrow : I → Validity) (wide : Validity) (public : Keys) : Type 0 where
  -- what passes by the narrow relation passes by the wide one
  pub signs_in : (i : I) (x : JudgedSignIn) → IsWithin (narrow i) wide → PassesSignIn (narrow i) x → PassesSignIn wide x
  pub registers : (i : I) (x : JudgedRegistration) → IsWithin (narrow i) wide → PassesRegistration (narrow i) x → PassesRegistration wide x
  -- a hosts' run has no moment, or one and then a hosts' run
  pub ends : (w : World) → IsHostsRun narrow wide public w []
  pub goes_on : (w : World) (m : Moment) (ms : List Moment) (i : I) → m.old ≡ w → IsWithin (narrow i) wide → Happens (narrow i) public m.old m.event m.end m.new
      → IsHostsRun narrow wide public m.new ms → IsHostsRun narrow wide public w (m ∷ ms)
  -- and so a hosts' run is a run
  pub run : (w : World) (run : List Moment) → IsHostsRun narrow wide public w run → IsRun wide public w run
