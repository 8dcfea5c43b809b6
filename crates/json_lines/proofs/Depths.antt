-- Members that are put beside others nest no deeper.
use Rattle.std.proofs.Common.{◌≤◌, ℕ, List, Ordering, Less, Equal, Greater, arith}
use Rattle.std.specs.Ordering.{match_ordering, nat_cmp}
use Rattle.std.specs.Cmp.Lexicographic.{slice_cmp}
use Rattle.serde_json.specs.Data.{Data, Members, depth, member, members_depth, no_members, put}

choice : (o : Ordering) (a b c : Members) (n : ℕ) → members_depth a ≤ n → members_depth b ≤ n → members_depth c ≤ n → members_depth (match_ordering o a b c) ≤ n
choice Less a b c n p q r = p
choice Equal a b c n p q r = q
choice Greater a b c n p q r = r

pub put_within : (k : List ℕ) (d : Data) (ms : Members) (n : ℕ) → depth d ≤ n → members_depth ms ≤ n → members_depth (put k d ms) ≤ n
put_within k d no_members n p q = omega arith
put_within k d (member l e ms) n p q =
    choice (slice_cmp nat_cmp k l) (member k d (member l e ms)) (member l d ms) (member l e (put k d ms)) n (omega arith) (omega arith) (omega (arith, put_within k d ms n p (omega arith)))
