-- Parts of a list with zeros after them.
use Rattle.std.proofs.Common.{◌≡◌, ℕ, suc, zero, ◌+◌, ◌-◌, ◌≤◌, List, [], ◌∷◌, ◌++◌, length, take, drop, refl, sym, ◌∙◌, ap, arith, length-append}
use Rattle.std.specs.Prelude.{replicate}
use Rattle.std.proofs.lemmas.List.{drop-replicate, take-replicate, length-replicate}
use Rattle.hidframe.specs.Pieces.{padded}
use Rattle.hidframe.proofs.Bytes.{AreBytes}

sub_suc : (a b : ℕ) → suc a - suc b ≡ a - b
sub_suc a b = omega arith

sub_zero : (n : ℕ) → n ≡ n - 0
sub_zero n = omega arith

drop_nil : (i : ℕ) → drop {A = ℕ} i [] ≡ []
drop_nil zero = refl
drop_nil (suc i) = refl

-- a part of a list with zeros after it is the part of the list, padded
pub pad : (n i : ℕ) (m : List ℕ) (r : ℕ) → i + n ≤ length m + r → take n (drop i (m ++ replicate r 0)) ≡ padded n (take n (drop i m))
pad zero i m r h = refl
pad (suc n) i [] r h =
    ap (take (suc n)) (drop-replicate i r 0) ∙ take-replicate (suc n) (r - i) 0 (omega arith) ∙ ap (λ k. replicate k 0) (sub_zero (suc n))
    ∙ ap (λ xs. padded (suc n) (take (suc n) xs)) (sym (drop_nil i))
pad (suc n) zero (x ∷ m) r h =
    ap (λ xs. x ∷ xs) (pad n zero m r (omega arith))
    ∙ ap (λ k. x ∷ (take n m ++ replicate k 0)) (sym (sub_suc n (length (take n m))))
pad (suc n) (suc i) (x ∷ m) r h = pad (suc n) i m r (omega arith)

pub length-padded : (n : ℕ) (bytes : List ℕ) → length bytes ≤ n → length (padded n bytes) ≡ n
length-padded n bytes h = length-append bytes (replicate (n - length bytes) 0)
    ∙ sum (length (replicate (n - length bytes) 0)) (length-replicate (n - length bytes) 0)
  where
    sum : (k : ℕ) → k ≡ n - length bytes → length bytes + k ≡ n
    sum k e = omega arith

-- parts of bytes are bytes
pub bytes-drop : (i : ℕ) (m : List ℕ) → AreBytes m → AreBytes (drop i m)
bytes-drop zero m h = h
bytes-drop (suc i) [] h = h
bytes-drop (suc i) (x ∷ m) h = bytes-drop i m (λ k. h (suc k))

pub bytes-take : (n : ℕ) (m : List ℕ) → AreBytes m → AreBytes (take n m)
bytes-take zero m h k = omega arith
bytes-take (suc n) [] h k = h k
bytes-take (suc n) (x ∷ m) h zero = h zero
bytes-take (suc n) (x ∷ m) h (suc k) = bytes-take n m (λ j. h (suc j)) k
