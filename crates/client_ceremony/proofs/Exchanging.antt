-- Messages that are one of these are one of those.
use Rattle.std.proofs.Common.{◌≡◌, ℕ, List, Vec, Global, refl, sym, subst, inl, inr, Option, Some, None, slice_get}
use Rattle.ccbor.specs.Item.{Item}
use Rattle.ctap_open_replies.specs.Replies.{IsReply, TellsAssertion, TellsCreation}
use Rattle.ctap_open_replies.specs.ReplyView.{assertion_view, creation_view}
use Rattle.ctap_open_replies.specs.declared.reply.KeyAssertion.{KeyAssertion}
use Rattle.pin_client_messages.specs.Commands.{PublicPoint}
use Rattle.pin_client_messages.specs.Replies.{TellsPin}
use Rattle.pin_protocols.specs.declared.protocol.Protocol.{Protocol}
use Rattle.client_ceremony.specs.Ceremonies.{Done}
use Rattle.client_ceremony.specs.Commands.{Makes, Signs}
use Rattle.client_ceremony.specs.Exchanges.{Replied, Sends, Told, Unread, Untold}
use Rattle.client_ceremony.specs.Facts.{Facts}
use Rattle.client_ceremony.specs.Tokens.{HasToken, Unopened, Verified}
use Rattle.client_ceremony.specs.declared.halt.Halt.{Halt}
use Rattle.client_ceremony.specs.declared.halt.Halt.TheVariants as halts
use Rattle.client_ceremony.specs.declared.refusal.Refusal.{Refusal}
use Rattle.client_ceremony.specs.declared.step.Step.TheVariants as steps
use Rattle.client_ceremony.proofs.Stages.{then_more}

-- what holds of this message holds of each that is it
pub exactly : (Q : List ℕ → Type 0) (w : List ℕ) → Q w → (m : List ℕ) → m ≡ w → Q m
exactly Q w q m e = subst Q (sym e) q

module _ (k : Facts) (n : ℕ) (P Q : List ℕ → Type 0) (more : (m : List ℕ) → P m → Q m) where
  pub sends_more : (h : Halt) → Sends k n P h → Sends k n Q h
  sends_more h s = (s.0, more s.0.items s.1, s.2, s.3)

  pub replied_more : (r : List ℕ) → Replied k n P r → Replied k n Q r
  replied_more r s = ((s.0.0, more s.0.0 s.0.1), s.1)

  pub told_more : {A : Type 0} (tells : A → Item → Type 0) (q : A) → Told k n P tells q → Told k n Q tells q
  told_more tells q s = (s.0, replied_more s.0 s.1, s.2)

  pub untold_more : {A : Type 0} (tells : A → Item → Type 0) (h : Halt) → Untold k n P tells h → Untold k n Q tells h
  untold_more tells h s = elim s [ inl p ↦ inl (sends_more h p) | inr p ↦ inr (p.0, replied_more p.0 p.1, p.2) ]

  pub has_token_more : (p : Protocol) (peer : PublicPoint) (token : List ℕ) → HasToken k n p peer P token → HasToken k n p peer Q token
  has_token_more p peer token h = (h.0, told_more TellsPin h.0 h.1, h.2)

  pub unopened_more : (p : Protocol) (peer : PublicPoint) (h : Halt) → Unopened k n p peer P h → Unopened k n p peer Q h
  unopened_more p peer h u = then_more (λ t g. told_more TellsPin t g) (untold_more TellsPin h) u

  pub makes_more : (h : Halt) → Makes k n P h → Makes k n Q h
  makes_more h s = elim s [ inl p ↦ inl (untold_more TellsCreation h p) | inr p ↦ inr (p.0, told_more TellsCreation (creation_view p.0) p.1, p.2) ]

  pub signs_more : (listed : Option (List ℕ)) (h : Halt) → Signs k n P listed h → Signs k n Q listed h
  signs_more listed h s = then_more (λ (a : KeyAssertion) g. told_more (TellsAssertion listed) (assertion_view a) g) (untold_more (TellsAssertion listed) h) s

  pub done_more : (h : Halt) → Done k n P h → Done k n Q h
  done_more h s = elim s [ inl p ↦ inl (sends_more h p) | inr p ↦ inr (p.0, replied_more p.0 p.1, p.2) ]

-- what comes of a message that was written
module _ (k : Facts) (n : ℕ) (P : List ℕ → Type 0) (m : Vec ℕ Global) (is : P m.items) where
  pub untold_next : {A : Type 0} (tells : A → Item → Type 0) (h : Halt) → (slice_get k.replies n ≡ None) × (h ≡ halts.Steps n (steps.Sends m))
      → Untold k n P tells h
  untold_next tells h e = inl (m, is, e.0, e.1)

  pub told_of : {A : Type 0} (tells : A → Item → Type 0) (q : A) (r : List ℕ) → slice_get k.replies n ≡ Some r → IsReply tells q r → Told k n P tells q
  told_of tells q r e t = (r, ((m.items, is), e), t)

  pub unread_of : {A : Type 0} (tells : A → Item → Type 0) (r : List ℕ) (f : Refusal) → slice_get k.replies n ≡ Some r → Unread tells r f
      → Untold k n P tells (halts.Refuses f)
  unread_of tells r f e u = inr (r, ((m.items, is), e), (f, u, refl))

-- what a command has of a token
abbrev pub by_param : List ℕ → ℕ → ℕ → Verified
by_param param number place = record { auth = Some (record { param = param; protocol = number }); uv = None; place = place }
