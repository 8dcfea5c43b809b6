-- What stops a part stops the whole.
use Rattle.std.proofs.Common.{◌≡◌, ℕ, List, refl, inl, inr, ◌⊎◌, Result, Ok, Err, IfOk, IfErr}
use Rattle.std.specs.Prelude.{IsErrOf}
use Rattle.pin_client_messages.specs.Commands.{PublicPoint, PinRequest, Subcommand}
use Rattle.pin_protocols.specs.declared.pin.PinFault.{PinFault}
use Rattle.pin_protocols.specs.declared.protocol.Protocol.{Protocol}
use Rattle.pin_protocols.specs.declared.stop.Stop.{Stop}
use Rattle.pin_protocols.specs.declared.stop.Stop.TheVariants as stops
use Rattle.pin_protocols.specs.Asks.{Asked, Stops}
use Rattle.pin_protocols.specs.Flows.{AsksWith, NoRequest, NoToken, Requests}
use Rattle.pin_protocols.specs.Protocols.{decryption, number}

module _ (es : List (Asked × List ℕ)) (P Q : Asked → Type 0) (more : (a : Asked) → P a → Q a) where
  pub stops_more : (e : Stop) → Stops es P e → Stops es Q e
  stops_more stops.Memory h = tt
  stops_more (stops.Asks a) h = (more _ h.0, h.1)
  stops_more stops.BadAnswer h = (h.0, more h.0 h.1, h.2, h.3, h.4)
  stops_more (stops.Pin f) h = absurd h
  stops_more stops.Unfit h = absurd h
  stops_more stops.BadToken h = absurd h

  pub none_made : (protocol : Protocol) (F : PinFault → Type 0) (C : Subcommand → Type 0) (e : Stop) → Stops es P e → NoRequest es protocol Q F C e
  none_made protocol F C stops.Memory h = tt
  none_made protocol F C (stops.Asks a) h = (more _ h.0, h.1)
  none_made protocol F C stops.BadAnswer h = (h.0, more h.0 h.1, h.2, h.3, h.4)
  none_made protocol F C (stops.Pin f) h = absurd h
  none_made protocol F C stops.Unfit h = absurd h
  none_made protocol F C stops.BadToken h = absurd h

  pub no_token : (protocol : Protocol) (peer : PublicPoint) (told : List ℕ) → ((a : Asked) → Q a → AsksWith es protocol peer (λ s b. b ≡ decryption protocol s.aes told) a)
      → (e : Stop) → Stops es P e → NoToken es protocol peer told e
  no_token protocol peer told all stops.Memory h = tt
  no_token protocol peer told all (stops.Asks a) h = (all _ (more _ h.0), h.1)
  no_token protocol peer told all stops.BadAnswer h = (h.0, all h.0 (more h.0 h.1), h.2, h.3, h.4)
  no_token protocol peer told all (stops.Pin f) h = absurd h
  no_token protocol peer told all stops.Unfit h = absurd h
  no_token protocol peer told all stops.BadToken h = absurd h

-- a subcommand that is sent, or is not
module _ {V : Type 0} (items : V → List ℕ) (es : List (Asked × List ℕ)) (protocol : Protocol) (P : Asked → Type 0) (F : PinFault → Type 0)
    (C : Subcommand → Type 0) (c : Subcommand) (is : C c) where
  pub sent_made : (r : Result V Stop) → IfOk r (λ v. PinRequest (number protocol) c (items v)) → IfOk r (λ v. Requests protocol C (items v))
  sent_made (Ok v) s = (c, is, s)
  sent_made (Err e) s = tt

  pub sent_none : (r : Result V Stop) → (IsErrOf r stops.Unfit → (bs : List ℕ) → PinRequest (number protocol) c bs → ⊥)
      → IfErr r (λ e. (e ≡ stops.Unfit) ⊎ (e ≡ stops.Memory)) → IfErr r (NoRequest es protocol P F C)
  sent_none (Ok v) u e = tt
  sent_none (Err stops.Memory) u e = tt
  sent_none (Err stops.Unfit) u e = (c, is, u refl)
  sent_none (Err (stops.Asks a)) u e = elim e [ inl k ↦ absurd cc | inr k ↦ absurd cc ]
  sent_none (Err stops.BadAnswer) u e = elim e [ inl k ↦ absurd cc | inr k ↦ absurd cc ]
  sent_none (Err (stops.Pin f)) u e = elim e [ inl k ↦ absurd cc | inr k ↦ absurd cc ]
  sent_none (Err stops.BadToken) u e = elim e [ inl k ↦ absurd cc | inr k ↦ absurd cc ]
