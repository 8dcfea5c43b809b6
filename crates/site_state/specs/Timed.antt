-- Open sessions and the moments in which they began.
use Rattle.std.specs.Prelude.{◌≡◌, ◌≤◌, ◌<◌, ℕ, Bool, Option, Some, None, IsSome, is_some, not, nat_lt, refl}
use Rattle.std.specs.Coded.{Coded, code_by, coded×, coded_ℕ}
use Rattle.std.specs.FinMap as finite
use Rattle.std.specs.Ordering.{nat_cmp}
use Rattle.site_state.specs.Sessions.{OpenSessions, Opening, begun, closed}
use Rattle.site_state.specs.Codes.{open_code}

-- when each open session began, in seconds of the host's clock, by its number
abbrev pub Moments : Type 0
Moments = finite.FinMap nat_cmp ℕ

abbrev pub or_0 : Option ℕ → ℕ
or_0 None = 0
or_0 (Some moment) = moment

abbrev pub moment_of : Moments → ℕ → ℕ
moment_of began n = or_0 (finite.get began n)

pub record Timed : Type 0 where
  pub open_sessions : OpenSessions
  pub began : Moments

abbrev pub timed_code : Coded Timed
timed_code =
    code_by (OpenSessions × Moments) (coded× open_code (finite.code coded_ℕ coded_ℕ)) (λ s. (s.open_sessions, s.began))
    (λ p. record { open_sessions = p.0; began = p.1 }) (λ _. refl)

-- just the open sessions have moments
abbrev pub HaveMoments : Timed → Type 0
HaveMoments s = (n : ℕ) → is_some (finite.get s.began n) ≡ is_some (finite.get s.open_sessions.expected n)

-- fewer are open than the most, so that one more may begin
abbrev pub HasRoom : Timed → Type 0
HasRoom s = finite.len s.open_sessions.expected < s.open_sessions.max_open

-- ---- a session begins, and ends

abbrev pub after_begin : Timed → Opening → ℕ → Timed
after_begin s o moment =
    record { open_sessions = begun s.open_sessions o; began = finite.insert s.began s.open_sessions.next moment }

abbrev pub after_end : Timed → ℕ → Timed
after_end s n = record { open_sessions = closed n s.open_sessions; began = finite.remove s.began n }

-- no number below this one is given any more
abbrev pub skipped : ℕ → Timed → Timed
skipped next s = record s { open_sessions = record s.open_sessions { next = next } }

-- the open session of the lowest number, which began first
pub record IsOldest (s : Timed) (n : ℕ) : Type 0 where
  pub is_open : IsSome (finite.get s.began n)
  pub least : (k : ℕ) → IsSome (finite.get s.began k) → n ≤ k

-- where the most are open the oldest has ended
pub record IsTrimmed (s t : Timed) : Type 0 where
  pub roomy : HasRoom s → t ≡ s
  pub full : (HasRoom s → ⊥) → (n : ℕ) × IsOldest s n × (t ≡ after_end s n)

-- ---- sessions end by their age

-- whether the session of a number began at this moment or later
abbrev pub is_since : ℕ → Moments → ℕ → Bool
is_since moment began n = not (nat_lt (moment_of began n) moment)

-- the sessions that began at a moment or later; those that began before it are closed
abbrev pub since : ℕ → Timed → Timed
since moment s = record {
  open_sessions = record s.open_sessions { expected = finite.retain_keys s.open_sessions.expected (is_since moment s.began) };
  began = finite.retain_keys s.began (is_since moment s.began);
}
