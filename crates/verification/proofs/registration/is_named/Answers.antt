-- What is owed of `is_named`.
use Rattle.std.proofs.Common.{◌≡◌, ℕ, List, Option, Some, Bool, ap}
use Rattle.std.specs.Prelude.{IsTrue, option_map}
use Rattle.std.specs.Option.{ForSome}
use Rattle.std.proofs.lemmas.Bool.Decides.{Decides-eqb}
use Rattle.std.proofs.lemmas.Slice.Eq.{slice_eq-Decides}
use Rattle.verification.proofs.registration.is_named.Goals as goal

-- of an id that is named the test says all
named : (there id : List ℕ) (P : Bool) → (IsTrue P → there ≡ id) → (there ≡ id → IsTrue P) → (o : Option (List ℕ)) → o ≡ Some there
    → (IsTrue P → ForSome o (λ raw_id. raw_id ≡ id)) × (ForSome o (λ raw_id. raw_id ≡ id) → IsTrue P)
named there id P finds tells o is = (λ so raw_id also. let one : raw_id ≡ there = cc in let e = finds so in cc, λ all. tells (all there is))

pub returns-in-Some : goal.returns-in-Some
returns-in-Some c =
    let says = slice_eq-Decides Decides-eqb c.in-Some.raw_id.now c.args.id.now c.eq.result c.eq.ensures in
    named c.in-Some.raw_id.now c.args.id.now c.eq.result says.0 says.1 _ (ap (option_map (λ r. r.now)) c.in-Some.is)
