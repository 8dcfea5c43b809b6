-- What an act knows, and what it wishes for.
use Rattle.std.specs.Prelude.{◌≡◌, ℕ, List, [], map, None, option_map, string_bytes, take, true}
use Rattle.client_ceremony.specs.Facts.{Facts}
use Rattle.client_ceremony.specs.declared.wish.Asserting.{Asserting}
use Rattle.client_ceremony.specs.declared.wish.Creating.{Creating}
use Rattle.client_ceremony.specs.declared.wish.Wish.{Wish}
use Rattle.client_ceremony.specs.declared.wish.Wish.TheVariants as wishes
use Rattle.pin_protocols.specs.Asks.{entries}
use Rattle.client_lines.specs.declared.knowing.Knowledge.{Knowledge}
use Rattle.client_lines.specs.declared.purpose.Purpose.{Purpose}
use Rattle.client_lines.specs.declared.purpose.Purpose.TheVariants.{Registers, SignsIn, SetsPin, ChangesPin}
use Rattle.client_lines.specs.declared.purpose.Registration.{Registration}
use Rattle.client_lines.specs.declared.purpose.SignIn.{SignIn}

-- the key's replies, each the bytes of a message
abbrev pub replies_of : Knowledge → List (List ℕ)
replies_of k = map (λ v. v.items) k.replies.items

-- what the client's machine is answered
abbrev pub knowledge_facts : Knowledge → Facts
knowledge_facts k = record {
  replies = replies_of k;
  pin = option_map string_bytes k.pin;
  answers = entries k.answers;
  built_in = k.built_in;
  chosen = k.chosen;
}

-- a registration's wish: the hash of its client data, its rp id, its user, and its lists
pub record IsCreatingOf (r : Registration) (c : Creating) : Type 0 where
  pub hash : c.client_data_hash.now ≡ r.hash
  pub rp_id : c.rp.id.now ≡ string_bytes r.rp_id
  pub rp_name : option_map (λ t. t.now) c.rp.name ≡ option_map string_bytes r.rp_name
  pub user : c.user.id.now ≡ r.user.id.items
  pub user_name : option_map (λ t. t.now) c.user.name ≡ option_map string_bytes r.user.name
  pub display_name : option_map (λ t. t.now) c.user.display_name ≡ option_map string_bytes r.user.display_name
  pub algorithms : c.algorithms.now ≡ r.algorithms.items
  pub exclude : map (λ b. b.now) c.exclude.now ≡ map (λ v. v.items) r.exclude.items
  pub resident : c.resident ≡ r.resident
  pub verification : c.verification ≡ r.verification

-- a sign-in's wish
pub record IsAssertingOf (s : SignIn) (a : Asserting) : Type 0 where
  pub hash : a.client_data_hash.now ≡ s.hash
  pub rp_id : a.rp_id.now ≡ string_bytes s.rp_id
  pub allow : map (λ b. b.now) a.allow.now ≡ map (λ v. v.items) s.allow.items
  pub verification : a.verification ≡ s.verification

-- the wish of an act's purpose
abbrev pub IsWishOf : Purpose → Wish → Type 0
IsWishOf (Registers r) (wishes.Creates c) = IsCreatingOf r c
IsWishOf (SignsIn s) (wishes.Asserts a) = IsAssertingOf s a
IsWishOf (SetsPin new) (wishes.SetsPin text) = text.now ≡ string_bytes new
IsWishOf (ChangesPin new) (wishes.ChangesPin text) = text.now ≡ string_bytes new
IsWishOf _ _ = ⊥

-- After a PIN that the key refused getInfo's reply alone is kept, and neither the PIN nor what was computed.
abbrev pub forgotten : Facts → Facts
forgotten f = record f { replies = take 1 f.replies; pin = None; answers = [] }

pub record Forgets (old new : Knowledge) : Type 0 where
  pub purpose : new.purpose ≡ old.purpose
  pub facts : knowledge_facts new ≡ forgotten (knowledge_facts old)
  pub wrong : new.is_wrong ≡ true
