-- What the crate's types stand for.
use Rattle.std.specs.Prelude.{ℕ, List, map}
use Rattle.std.specs.FinMap as finite
use Rattle.std.specs.Ordering.{nat_cmp}
use Rattle.verification.specs.Views.{sign_in_view, registration_view}
use Rattle.site_state.specs.declared.session.Session.{Session}
use Rattle.site_state.specs.declared.session.Session.TheVariants as variants
use Rattle.site_state.specs.Sessions.{Expected, ForSignIn, ForRegistration}

abbrev pub session_view : Session → Expected
session_view (variants.SignIn s) = ForSignIn (sign_in_view s)
session_view (variants.Registration s) = ForRegistration (registration_view s)

-- a number and what its session expects
abbrev pub entry_view : ℕ × Session → ℕ × Expected
entry_view e = (e.0, session_view e.1)

abbrev pub sessions_view : List (ℕ × Session) → finite.FinMap nat_cmp Expected
sessions_view es = finite.from_entries (map entry_view es)
