-- Where there is room none is refused for want of it.
use Rattle.std.proofs.Common.{◌≡◌, ◌<◌, List, subst}
use Rattle.std.specs.FinMap as finite
use Rattle.refusal_order.specs.Lines.{FirstStop, here, later}
use Rattle.authdata.specs.declared.profile.Profile.{Profile}
use Rattle.site_state.specs.Sessions.{IsRefused, OpenSessions, Opening}
use Rattle.site_state.specs.declared.error.BeginError.{BeginError}
use Rattle.site_state.specs.declared.error.BeginError.TheVariants as errors

stops : {L : Type 0} (Passed Stops : L → Type 0) (lines : List L) (line : L) → FirstStop Passed Stops lines line → Stops line
stops Passed Stops _ _ (here line more stop) = stop
stops Passed Stops _ _ (later x more line passed rest) = stops Passed Stops more line rest

pub not_full : (profile : Profile) (s : OpenSessions) (o : Opening) (why : BeginError) → finite.len s.expected < s.max_open → IsRefused profile s o why
    → why ≡ errors.SessionsFull → ⊥
not_full profile s o why room refused is = stops _ _ _ errors.SessionsFull (subst (IsRefused profile s o) is refused) room
