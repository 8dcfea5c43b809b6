-- What the crate's types stand for.
use Rattle.site_seal.specs.Seal.{Ceremony, SealedSignIn, Session, registration, sign_in}
use Rattle.verification.specs.Views.{registration_view}
use Rattle.site_seal.specs.declared.session.OpenedSignIn.{OpenedSignIn}
use Rattle.site_seal.specs.declared.session.OpenedCeremony.{OpenedCeremony}
use Rattle.site_seal.specs.declared.session.OpenedCeremony.TheVariants as opened
use Rattle.site_seal.specs.declared.session.Opened.{Opened}

abbrev pub sealed_view : OpenedSignIn → SealedSignIn
sealed_view s = record { user = s.user; allow = s.allow.items; uv = s.uv; challenge = s.challenge }

abbrev pub ceremony_view : OpenedCeremony → Ceremony
ceremony_view (opened.Registration e) = registration (registration_view e)
ceremony_view (opened.SignIn s) = sign_in (sealed_view s)

abbrev pub session_view : Opened → Session
session_view x = record { ends = x.ends; ceremony = ceremony_view x.ceremony }
