-- A device that has handed out channel 1, and is idle.
use Rattle.std.proofs.Common.{◌≡◌, ◌++◌, ℕ, List, [], ◌∷◌, refl, sym, ◌∙◌, replicate}
use Rattle.hidframe.specs.declared.Packet.{Packet}
use Rattle.hidframe.specs.Packets.{fields}
use Rattle.hidframe.specs.Pieces.{initial}
use Rattle.hidlink.specs.History.{Closed, DeviceCall, Leaves, NoneShorter, Took, alone, broken, ended, pinged}
use Rattle.hidlink.specs.Ranks.{Idle}

not_nil : {X : Type 0} (xs : List X) (x : X) (ys : List X) → xs ++ x ∷ ys ≡ [] → ⊥
not_nil [] x ys e = absurd cc
not_nil (y ∷ xs) x ys e = absurd cc

none_closed : (n : ℕ) (calls : List DeviceCall) → Closed n calls → calls ≡ [] → ⊥
none_closed n _ (alone call r) e = absurd cc
none_closed n _ (pinged calls c m x) e = not_nil x.before (Took x.last) [] (sym x.ends ∙ e)
none_closed n _ (broken before call c cmd len next bytes x y) e = not_nil before call [] e
none_closed n _ (ended before call c m x y) e = not_nil before call [] e

abbrev init : Packet
init = initial 0xffffffff 6 8 (replicate 8 0)

one_call : (n : ℕ) (call : DeviceCall) → NoneShorter n (call ∷ [])
one_call n call [] c rest e closed = none_closed n [] closed refl
one_call n call (x ∷ xs) c rest e closed = not_nil xs c rest (let tail : [] ≡ xs ++ c ∷ rest = cc in sym tail)

abbrev pub history : List DeviceCall
history = Took init ∷ []

pub idle_device : Leaves history 1 Idle
unfolding fields
idle_device = record {
  parts = (Took init ∷ []) ∷ [];
  open_part = [];
  reads = record {
    whole = refl;
    closed = (alone (Took init) (λ r. absurd cc), one_call 0 (Took init), tt);
    shorter = λ front call rest e c. not_nil front call rest (sym e);
    is_open = λ c. none_closed 1 [] c refl;
  };
  out = refl;
  doing = refl;
}
