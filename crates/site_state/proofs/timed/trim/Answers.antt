-- What is owed of `trim`.
use Rattle.std.proofs.Common.{refl}
use Rattle.site_state.proofs.Ages.{room_of_none}
use Rattle.site_state.proofs.timed.trim.Goals as goal

pub returns-in_default : goal.returns-in_default
returns-in_default c = record {
  trimmed = record {
    roomy = λ room. refl;
    full = λ no. absurd (no (room_of_none (record { open_sessions = c.args.open_sessions.now; began = c.args.began.now }) c.requires.moments (c.in_default.ensures.none refl) c.requires.most));
  };
}
