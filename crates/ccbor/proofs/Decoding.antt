-- What reading a value at the front says of the front.
use Rattle.std.proofs.Common.{◌≡◌, ℕ, ◌-◌, Bool, false, List, [], ◌++◌, length, take, Some, None, refl, sym, ap, ◌∙◌}
use Rattle.std.proofs.lemmas.Option.{same_Some}
use Rattle.ccbor.specs.Item.{Item}
use Rattle.ccbor.specs.Canon.{spelling, Canon}
use Rattle.ccbor.specs.Reading.{Read, rest_of, item_at}
use Rattle.ccbor.proofs.Numbers.{IsBytes}
use Rattle.ccbor.proofs.Leaves.{front_is}
use Rattle.ccbor.proofs.Trees.{item_takes, item_again}

-- a value that is spelled at the front is read
pub front_read : (known : Bool) (v : Item) (a x bs : List ℕ) → Canon v a → bs ≡ a ++ x → item_at known 4 bs ≡ Some (v, x)
front_read known v a x bs c is = ap (item_at known 4) (is ∙ ap (λ (l : List ℕ). l ++ x) c.1) ∙ item_again known v 4 x c.0

pub one_front : (v w : Item) (a b x y bs : List ℕ) → Canon v a → Canon w b → bs ≡ a ++ x → bs ≡ b ++ y → (v ≡ w) × (x ≡ y)
one_front v w a b x y bs c d e f =
    let both = same_Some (v, x) (w, y) (sym (front_read false v a x bs c e) ∙ front_read false w b y bs d f) in
    (ap (λ (p : Item × List ℕ). p.0) both, ap (λ (p : Item × List ℕ). p.1) both)

pub one_reading : (v w : Item) (a b x y : List ℕ) → Canon v a → Canon w b → a ++ x ≡ b ++ y → (v ≡ w) × (a ≡ b)
one_reading v w a b x y c d e =
    let same = (one_front v w a b x y (a ++ x) c d refl e).0 in
    (same, c.1 ∙ ap spelling same ∙ sym d.1)

-- bytes encode one value
pub same_item : (v w : Item) (bs : List ℕ) → Canon v bs → Canon w bs → v ≡ w
same_item v w bs a b = (one_reading v w bs bs [] [] a b refl).0

-- ---- without the value

pub known_rest : (known : Bool) (v : Item) (a b bs : List ℕ) → Canon v a → bs ≡ a ++ b → rest_of (item_at known 4 bs) ≡ Some b
known_rest known v a b bs c e = ap (λ (r : Read Item). rest_of r) (front_read known v a b bs c e)

passed : (read : Read Item) (rest : List ℕ) → Some rest ≡ rest_of read → (x : Item) × (read ≡ Some (x, rest))
passed (Some x) rest e = (x.0, let same : x.1 ≡ rest = cc in ap (λ (r : List ℕ). Some (x.0, r)) same)
passed None rest e = absurd cc

pub front_value : (bs rest : List ℕ) → IsBytes bs → Some rest ≡ rest_of (item_at false 4 bs)
    → (bs ≡ take (length bs - length rest) bs ++ rest) × (v : Item) × Canon v (take (length bs - length rest) bs)
front_value bs rest fits e =
    let x = passed (item_at false 4 bs) rest e in
    let t = item_takes 4 bs (x.0, rest) fits x.1 in
    let cut = front_is bs (spelling x.0) rest t.0.parts in
    (rw cut t.0.parts, x.0, (t.1, cut))
