-- The law over all runs.
use Rattle.std.proofs.Common.{arith}
use Rattle.std.proofs.lemmas.List.Elements.{All-from_recursion}
use Rattle.cose.specs.Schemes.{Validity}
use Rattle.authenticator.specs.Steps.{Keys}
use Rattle.authenticator.proofs.Stored.{each_weaker}
use Rattle.agreement.specs.Agreement.{Agrees, Deleting, DifferInSession, Fits, IsIdeal, IsKnown, OfAllRuns, Registered, RestsOnce, Retiring, ShareNone}
use Rattle.agreement.specs.Agreement.{StaysDeleted, StaysRetired}
use Rattle.agreement.specs.Below.{Below}
use Rattle.agreement.specs.Forgeries.{ForgeriesOfAllRuns, ShowsForgery}
use Rattle.agreement.proofs.Worlds.{Since, at_start, pairs, since, starts}
use Rattle.agreement.proofs.Accepted.{agrees, differ, fits, known, rests_once, share_none, shows_forgery}
use Rattle.agreement.proofs.Began.{BegunIn, all_begun}
use Rattle.agreement.proofs.Deleted.{deleting, stays_deleted}
use Rattle.agreement.proofs.Registered.{fits_registration}
use Rattle.agreement.proofs.Retired.{retiring, stays_retired}
use Rattle.agreement.proofs.Spans.{spans}

pub of_all_runs : (valid : Validity) (public : Keys) → Below valid public → OfAllRuns valid public
of_all_runs valid public b w run start is =
    let sound = starts valid public b w start in
    record {
      registered = All-from_recursion (Registered valid) run
          (each_weaker (Since valid public b w) (Registered valid) (λ m s. fits_registration valid public b m s.lived) run
          (since valid public b w w run sound (at_start valid public b w) is));
      known = All-from_recursion IsKnown run
          (each_weaker (Since valid public b w) IsKnown (λ m s. known valid public b m s.lived) run
          (since valid public b w w run sound (at_start valid public b w) is));
      fits = All-from_recursion Fits run
          (each_weaker (Since valid public b w) Fits (λ m s. fits valid public b m s.lived) run
          (since valid public b w w run sound (at_start valid public b w) is));
      agrees = All-from_recursion (λ m. IsIdeal valid m → Agrees m) run
          (each_weaker (Since valid public b w) (λ m. IsIdeal valid m → Agrees m) (λ m s k. agrees valid public b m s.lived k) run
          (since valid public b w w run sound (at_start valid public b w) is));
      share_none = spans valid public b ShareNone (share_none valid public b) w run sound is;
      rests_once = λ i j d lt within.
          let begun = All-from_recursion (BegunIn valid public b run) run (all_begun valid public b w run start is) in
          pairs valid public b (λ m l. BegunIn valid public b run m → BegunIn valid public b run l → RestsOnce run m l) (rests_once valid public b run) w run
          sound is i j d lt within (begun i d (omega (arith, lt, within))) (begun j d within);
      sessions = pairs valid public b DifferInSession (differ valid public b) w run sound is;
      retiring = All-from_recursion Retiring run
          (each_weaker (Since valid public b w) Retiring (λ m s. retiring valid public b m s.lived) run
          (since valid public b w w run sound (at_start valid public b w) is));
      retired = spans valid public b StaysRetired (stays_retired valid public b) w run sound is;
      deleting = All-from_recursion Deleting run
          (each_weaker (Since valid public b w) Deleting (λ m s. deleting valid public b m s.lived) run
          (since valid public b w w run sound (at_start valid public b w) is));
      deleted = spans valid public b StaysDeleted (stays_deleted valid public b) w run sound is;
    }

pub forgeries_of_all_runs : (valid : Validity) (public : Keys) → Below valid public → ForgeriesOfAllRuns valid public
forgeries_of_all_runs valid public b w run start is =
    All-from_recursion (ShowsForgery valid) run
    (each_weaker (Since valid public b w) (ShowsForgery valid) (λ m s. shows_forgery valid public b m s.lived) run
    (since valid public b w w run (starts valid public b w start) (at_start valid public b w) is))
