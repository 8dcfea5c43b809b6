-- What the private functions of these messages are proved against; no public clause cites it.
use Rattle.std.specs.Prelude.{◌≡◌, ◌⊎◌, ℕ, List, [], ◌∷◌, ◌||◌, option_map, if◌then◌else◌}
use Rattle.ccbor.specs.Item as of
use Rattle.ccbor.specs.Access.{is_same_key}
use Rattle.ccbor.specs.Item.{Item}
use Rattle.ctap_encoding.specs.Content.{Contents}
use Rattle.ctap_encoding.specs.Table.{Members}
use Rattle.ctap_encoding.specs.declared.error.Error.{Error}
use Rattle.ctap_encoding.specs.declared.error.Error.TheVariants as errors
use Rattle.ctap_requests.specs.Status as requests
use Rattle.pin_client_messages.specs.ReplyView.{key_view}
use Rattle.pin_key_messages.specs.declared.asked.AskedMembers.{AskedMembers}
use Rattle.pin_key_messages.specs.Asking.{Asking, Untold, asked_content, asked_members}

-- a request as its members were read; its subcommand stands beside it
abbrev pub asking_of : AskedMembers → Asking
asking_of m = record {
  protocol = m.protocol;
  subcommand = 0;
  key = option_map key_view m.key;
  param = option_map (λ b. b.now) m.param;
  new_pin = option_map (λ b. b.now) m.new_pin;
  pin_hash = option_map (λ b. b.now) m.pin_hash;
  permissions = m.permissions;
  rp_id = option_map (λ b. b.now) m.rp_id;
}

abbrev pub content_of : AskedMembers → Contents asked_members
content_of m = asked_content m.subcommand (asking_of m)

abbrev pub UntoldBy : ℕ → Members → List ℕ → Error → Type 0
UntoldBy command ms bs (errors.Status s) = Untold command ms bs s
UntoldBy command ms bs _ = ⊥

-- ---- without two members

-- the pair, where its key is none of these two
abbrev pub kept_pair : ℕ → ℕ → Item → Item → List (Item × Item)
kept_pair m n k v = if is_same_key k (of.uint m) || is_same_key k (of.uint n) then [] else (k, v) ∷ []

abbrev pub RefusedBytes : Error → Type 0
RefusedBytes errors.Memory = Unit {0}
RefusedBytes errors.Unfit = Unit {0}
RefusedBytes (errors.Status s) = (s ≡ 0x01) ⊎ ((s ≡ 0x12) ⊎ (s ≡ 0x11))
RefusedBytes _ = ⊥

abbrev pub RefusedOwned : List ℕ → Error → Type 0
RefusedOwned bs errors.Memory = Unit {0}
RefusedOwned bs (errors.Status s) = (s ≡ 0x01) ⊎ requests.Refused bs (errors.Status s)
RefusedOwned bs _ = ⊥
