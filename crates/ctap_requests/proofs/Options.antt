-- The pairs of options that are there.
use Rattle.std.proofs.Common.{◌≡◌, ◌++◌, Bool, false, List, [], Option, Some, None, option_map, refl}
use Rattle.ccbor.specs.Item.{Item, no_pairs, boolean}
use Rattle.ccbor.specs.View.{pairs_of}
use Rattle.ctap_encoding.specs.Content.{member_pair}
use Rattle.ctap_encoding.specs.Building.{member_list}

pub three_options : (k l m : Item) (a b c : Option Bool) (s0 s1 s2 s3 : List (Item × Item)) (x y z : Option Item) → s0 ≡ [] → x ≡ option_map boolean a
    → s1 ≡ s0 ++ member_list k x
    → y ≡ option_map boolean b → s2 ≡ s1 ++ member_list l y → z ≡ option_map boolean c → s3 ≡ s2 ++ member_list m z
    → pairs_of s3 ≡ member_pair false k boolean a (member_pair false l boolean b (member_pair false m boolean c no_pairs))
three_options k l m a b c s0 s1 s2 s3 x y z e0 ex e1 ey e2 ez e3 = rw (e3, ez, e2, ey, e1, ex, e0) (cases a b c) where
  cases : (a b c : Option Bool) → pairs_of
      ((([] ++ member_list k (option_map boolean a)) ++ member_list l (option_map boolean b)) ++ member_list m (option_map boolean c))
      ≡ member_pair false k boolean a (member_pair false l boolean b (member_pair false m boolean c no_pairs))
  cases (Some a) (Some b) (Some c) = refl
  cases (Some a) (Some b) None = refl
  cases (Some a) None (Some c) = refl
  cases (Some a) None None = refl
  cases None (Some b) (Some c) = refl
  cases None (Some b) None = refl
  cases None None (Some c) = refl
  cases None None None = refl
