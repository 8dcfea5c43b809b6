-- What is known of a ceremony, without where it lies in memory.
use Rattle.std.specs.Prelude.{ℕ, List, map, Bool, Option, option_map}
use Rattle.pin_protocols.specs.Asks.{Asked, entries}
use Rattle.client_ceremony.specs.declared.wish.Known.{Known}

pub record Facts : Type 0 where
  pub replies : List (List ℕ)
  pub pin : Option (List ℕ)
  -- what the host answered to what
  pub answers : List (Asked × List ℕ)
  pub built_in : Bool
  pub chosen : Option ℕ

abbrev pub facts : Known → Facts
facts k = record {
  replies = map (λ v. v.items) k.replies.now;
  pin = option_map (λ b. b.now) k.pin;
  answers = entries k.answers.now;
  built_in = k.built_in;
  chosen = k.chosen;
}
