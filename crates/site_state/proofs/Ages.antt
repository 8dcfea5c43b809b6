-- Sessions that begin and end, and the moments of those that are open.
use Rattle.std.proofs.Common.{◌≡◌, ◌+◌, ◌-◌, ◌≤◌, ◌<◌, ℕ, zero, suc, List, [], ◌∷◌, ◌++◌}
use Rattle.std.proofs.Common.{length, take, get_or, refl, sym, ap, subst, ◌∙◌, arith, Ordering, Less, Equal, Greater}
use Rattle.std.proofs.lemmas.Grind.{common_steps}
use Rattle.std.proofs.lemmas.List.{take_more}
use Rattle.std.specs.Prelude.{Bool, true, false, not, cond, ◌||◌, Option, Some, None, is_some, nat_lt}
use Rattle.std.specs.FinMap as finite
use Rattle.std.specs.FinMap.{empty_of_len, get-empty, get-insert, get-remove, get-retain_keys, len-empty, len-insert, len-remove, nat_cmp-IsAntisymmetric, same_map}
use Rattle.std.specs.Cmp.{nat_cmp_total}
use Rattle.std.specs.Ordering.{nat_cmp, eq_by_cmp, is_eq}
use Rattle.site_state.specs.Sessions.{Expected, HaveNumbers, OpenSessions, Opening, begun, closed, expected_of}
use Rattle.site_state.specs.Timed.{HasRoom, HaveMoments, IsTrimmed, Moments, Timed, after_begin, after_end, is_since, or_0, since}
use Rattle.site_state.specs.Private.{is_in, is_older, removed}

-- ---- just the open sessions have moments

cond_some : {X : Type 0} {Y : Type 0} (b : Bool) (x : X) (y : Y) (o : Option X) (p : Option Y) → is_some o ≡ is_some p
    → is_some (cond b (Some x) o) ≡ is_some (cond b (Some y) p)
cond_some true x y o p e = refl
cond_some false x y o p e = e

pub have_begun : (s : Timed) (o : Opening) (moment : ℕ) → HaveMoments s → HaveMoments (after_begin s o moment)
have_begun s o moment have k =
    ap is_some (get-insert nat_cmp_total s.began s.open_sessions.next moment k)
    ∙ cond_some (eq_by_cmp nat_cmp k s.open_sessions.next) moment (expected_of s.open_sessions.next o) (finite.get s.began k)
    (finite.get s.open_sessions.expected k) (have k)
    ∙ sym (ap is_some (get-insert nat_cmp_total s.open_sessions.expected s.open_sessions.next (expected_of s.open_sessions.next o) k))

cond_none : {X : Type 0} {Y : Type 0} (b : Bool) (o : Option X) (p : Option Y) → is_some o ≡ is_some p → is_some (cond b None o) ≡ is_some (cond b None p)
cond_none true o p e = refl
cond_none false o p e = e

pub have_ended : (s : Timed) (n : ℕ) → HaveMoments s → HaveMoments (after_end s n)
have_ended s n have k =
    ap is_some (get-remove nat_cmp_total s.began n k)
    ∙ cond_none (eq_by_cmp nat_cmp k n) (finite.get s.began k) (finite.get s.open_sessions.expected k) (have k)
    ∙ sym (ap is_some (get-remove nat_cmp_total s.open_sessions.expected n k))

-- a moment that is set where none was, and taken out again
pub put_back : (m : Moments) (n moment : ℕ) → finite.get m n ≡ None → finite.remove (finite.insert m n moment) n ≡ m
put_back m n moment none = same_map nat_cmp_total nat_cmp-IsAntisymmetric _ _ (λ q.
    get-remove nat_cmp_total (finite.insert m n moment) n q
    ∙ ap (cond (eq_by_cmp nat_cmp q n) None) (get-insert nat_cmp_total m n moment q)
    ∙ go q (nat_cmp q n) refl)
  where
    go : (q : ℕ) (o : Ordering) → nat_cmp q n ≡ o → cond (is_eq (nat_cmp q n)) None (cond (is_eq (nat_cmp q n)) (Some moment) (finite.get m q)) ≡ finite.get m q
    go q Less t = rw t refl
    go q Equal t = rw t (sym (ap (finite.get m) (nat_cmp-IsAntisymmetric q n t) ∙ none))
    go q Greater t = rw t refl

-- the next number has no moment
pub next_is_free : (s : Timed) → HaveMoments s → HaveNumbers s.open_sessions.next s.open_sessions.expected → finite.get s.began s.open_sessions.next ≡ None
next_is_free s have numbers = go (finite.get s.began s.open_sessions.next) refl (finite.get s.open_sessions.expected s.open_sessions.next) refl
  where
    go : (o : Option ℕ) → finite.get s.began s.open_sessions.next ≡ o → (p : Option Expected) → finite.get s.open_sessions.expected s.open_sessions.next ≡ p
        → finite.get s.began s.open_sessions.next ≡ None
    go None e p f = e
    go (Some m) e None f =
        let no : true ≡ false = sym (ap is_some e) ∙ have s.open_sessions.next ∙ ap is_some f in absurd cc
    go (Some m) e (Some x) f =
        let lt = (numbers s.open_sessions.next x f).0 in absurd (omega (arith, lt))

-- ---- how many are open

pub len_begun : (s : Timed) (o : Opening) (moment : ℕ) → HasRoom s
    → finite.len (after_begin s o moment).open_sessions.expected ≤ s.open_sessions.max_open
len_begun s o moment room =
    let is = len-insert nat_cmp_total s.open_sessions.expected s.open_sessions.next (expected_of s.open_sessions.next o) in
    go (is_some (finite.get s.open_sessions.expected s.open_sessions.next)) is
  where
    go : (b : Bool) → finite.len (finite.insert s.open_sessions.expected s.open_sessions.next (expected_of s.open_sessions.next o))
        ≡ cond b (finite.len s.open_sessions.expected) (finite.len s.open_sessions.expected + 1)
        → finite.len (after_begin s o moment).open_sessions.expected ≤ s.open_sessions.max_open
    go true is = omega (arith, is, room)
    go false is = omega (arith, is, room)

some_open : {X : Type 0} (m : finite.FinMap nat_cmp X) (n : ℕ) → is_some (finite.get m n) ≡ true → (k : ℕ) → finite.len m ≡ k → 1 ≤ k
some_open m n is zero none =
    let nothing : finite.get m n ≡ None = ap (λ x. finite.get x n) (empty_of_len m none) ∙ get-empty nat_cmp n in
    let no : is_some (finite.get m n) ≡ false = ap is_some nothing in
    absurd cc
some_open m n is (suc k) none = omega arith

pub one_closed : {X : Type 0} (m : finite.FinMap nat_cmp X) (n : ℕ) → is_some (finite.get m n) ≡ true → finite.len (finite.remove m n) + 1 ≡ finite.len m
one_closed m n is =
    let less : finite.len (finite.remove m n) ≡ finite.len m - 1 =
    len-remove nat_cmp_total m n ∙ ap (λ b. cond b (finite.len m - 1) (finite.len m)) is in
    let least = some_open m n is (finite.len m) refl in
    omega (arith, less, least)

pub none_closed : {X : Type 0} (m : finite.FinMap nat_cmp X) (n : ℕ) → is_some (finite.get m n) ≡ false → finite.len (finite.remove m n) ≡ finite.len m
none_closed m n is = len-remove nat_cmp_total m n ∙ ap (λ b. cond b (finite.len m - 1) (finite.len m)) is

pub room_ended : (s : Timed) (n : ℕ) → HasRoom s → HasRoom (after_end s n)
room_ended s n room = go (is_some (finite.get s.open_sessions.expected n)) refl
  where
    go : (b : Bool) → is_some (finite.get s.open_sessions.expected n) ≡ b → HasRoom (after_end s n)
    go true e = let one = one_closed s.open_sessions.expected n e in omega (arith, one, room)
    go false e = let none = none_closed s.open_sessions.expected n e in omega (arith, none, room)

-- ---- the oldest ends

pub have_trimmed : (s t : Timed) → IsTrimmed s t → HaveMoments s → HaveMoments t
have_trimmed s t trim have = go (nat_lt (finite.len s.open_sessions.expected) s.open_sessions.max_open) refl
  where
    go : (b : Bool) → nat_lt (finite.len s.open_sessions.expected) s.open_sessions.max_open ≡ b → HaveMoments t
    go true e =
        let room : HasRoom s = grind (arith, common_steps, e) in
        subst HaveMoments (sym (trim.roomy room)) have
    go false e =
        let no : HasRoom s → ⊥ = λ room. grind (arith, common_steps, e, room) in
        let ends = trim.full no in
        subst HaveMoments (sym ends.2) (have_ended s ends.0 have)

pub room_trimmed : (s t : Timed) → IsTrimmed s t → HaveMoments s → finite.len s.open_sessions.expected ≤ s.open_sessions.max_open → HasRoom t
room_trimmed s t trim have most = go (nat_lt (finite.len s.open_sessions.expected) s.open_sessions.max_open) refl
  where
    go : (b : Bool) → nat_lt (finite.len s.open_sessions.expected) s.open_sessions.max_open ≡ b → HasRoom t
    go true e =
        let room : HasRoom s = grind (arith, common_steps, e) in
        subst HasRoom (sym (trim.roomy room)) room
    go false e =
        let no : HasRoom s → ⊥ = λ room. grind (arith, common_steps, e, room) in
        let ends = trim.full no in
        let there : is_some (finite.get s.open_sessions.expected ends.0) ≡ true = sym (have ends.0) ∙ ends.1.is_open in
        let one = one_closed s.open_sessions.expected ends.0 there in
        subst HasRoom (sym ends.2) (omega (arith, one, most))

empty_of : (m : finite.FinMap nat_cmp Expected) → ((k : ℕ) → finite.get m k ≡ None) → m ≡ finite.empty
empty_of m none = same_map nat_cmp_total nat_cmp-IsAntisymmetric _ _ (λ q. none q ∙ sym (get-empty nat_cmp q))

no_session : (o : Option Expected) → false ≡ is_some o → o ≡ None
no_session None e = refl
no_session (Some x) e = absurd cc

-- where no session has a moment there is room
pub room_of_none : (s : Timed) → HaveMoments s → ((k : ℕ) → finite.get s.began k ≡ None) → 1 ≤ s.open_sessions.max_open → HasRoom s
room_of_none s have none most =
    let empty = empty_of s.open_sessions.expected (λ k. no_session (finite.get s.open_sessions.expected k) (sym (ap is_some (none k)) ∙ have k)) in
    let len : finite.len s.open_sessions.expected ≡ 0 = ap finite.len empty ∙ len-empty nat_cmp Expected in
    omega (arith, len, most)

pub have_none : (s : OpenSessions) (b : Moments) → s.expected ≡ finite.empty → b ≡ finite.empty → HaveMoments (record { open_sessions = s; began = b })
have_none s b none empty k =
    ap is_some (ap (λ m. finite.get m k) empty ∙ get-empty nat_cmp k) ∙ sym (ap is_some (ap (λ m. finite.get m k) none ∙ get-empty nat_cmp k))

pub room_new : (s : OpenSessions) (b : Moments) (most : ℕ) → s.expected ≡ finite.empty → s.max_open ≡ most + 1 → HasRoom (record { open_sessions = s; began = b })
room_new s b most none is =
    let len : finite.len s.expected ≡ 0 = ap finite.len none ∙ len-empty nat_cmp Expected in
    omega (arith, len, is)

-- what stands after a session ends
pub ended_there : (s : Timed) (n : ℕ) (t : OpenSessions) (b : Moments) → t ≡ closed n s.open_sessions → b ≡ finite.remove s.began n
    → record { open_sessions = t; began = b } ≡ after_end s n
ended_there s n t b closes takes =
    ap (λ (x : OpenSessions). record { open_sessions = x; began = b }) closes
    ∙ ap (λ (x : Moments). record { open_sessions = closed n s.open_sessions; began = x }) takes

-- what stands after a begin, before it is trimmed
pub begun_there : (s : Timed) (o : Opening) (moment number : ℕ) (t : OpenSessions) (b : Moments) → number ≡ s.open_sessions.next
    → t ≡ begun s.open_sessions o → b ≡ finite.insert s.began number moment
    → record { open_sessions = t; began = b } ≡ after_begin s o moment
begun_there s o moment number t b is open_ set =
    ap (λ (x : OpenSessions). record { open_sessions = x; began = b }) open_
    ∙ ap (λ (x : Moments). record { open_sessions = begun s.open_sessions o; began = x }) (set ∙ ap (λ n. finite.insert s.began n moment) is)

-- and after a begin that failed
pub unchanged_there : (s : Timed) (moment number : ℕ) (t : OpenSessions) (a b : Moments) → number ≡ s.open_sessions.next → HaveMoments s
    → HaveNumbers s.open_sessions.next s.open_sessions.expected → t ≡ s.open_sessions → a ≡ finite.insert s.began number moment
    → b ≡ finite.remove a number → record { open_sessions = t; began = b } ≡ s
unchanged_there s moment number t a b is have numbers same set taken =
    ap (λ (x : OpenSessions). record { open_sessions = x; began = b }) same
    ∙ ap (λ (x : Moments). record { open_sessions = s.open_sessions; began = x })
    (taken ∙ ap (λ m. finite.remove m number) set ∙ put_back s.began number moment (ap (finite.get s.began) is ∙ next_is_free s have numbers))

-- ---- those that are left by their age

pub get_left : {X : Type 0} (before : ℕ) (began : Moments) (m : finite.FinMap nat_cmp X) (q : ℕ)
    → finite.get (finite.retain_keys m (is_since before began)) q ≡ cond (is_since before began q) (finite.get m q) None
get_left before began m q = get-retain_keys m (is_since before began) q (λ x t. ap (is_since before began) (sym (nat_cmp-IsAntisymmetric q x t)))

cond_kept : {X : Type 0} {Y : Type 0} (b : Bool) (o : Option X) (p : Option Y) → is_some o ≡ is_some p → is_some (cond b o None) ≡ is_some (cond b p None)
cond_kept true o p e = e
cond_kept false o p e = refl

pub have_left : (s : Timed) (before : ℕ) → HaveMoments s → HaveMoments (since before s)
have_left s before have k =
    ap is_some (get_left before s.began s.began k)
    ∙ cond_kept (is_since before s.began k) (finite.get s.began k) (finite.get s.open_sessions.expected k) (have k)
    ∙ sym (ap is_some (get_left before s.began s.open_sessions.expected k))

shadow : {X : Type 0} (a b : Bool) (o : Option X) → cond b None (cond a None o) ≡ cond (a || b) None o
shadow true true o = refl
shadow true false o = refl
shadow false b o = refl

get_removed : {X : Type 0} (ns : List ℕ) (m : finite.FinMap nat_cmp X) (q : ℕ) → finite.get (removed ns m) q ≡ cond (is_in q ns) None (finite.get m q)
get_removed [] m q = refl
get_removed (n ∷ ns) m q =
    get_removed ns (finite.remove m n) q
    ∙ ap (cond (is_in q ns) None) (get-remove nat_cmp_total m n q)
    ∙ shadow (eq_by_cmp nat_cmp q n) (is_in q ns) (finite.get m q)

swapped : {X : Type 0} (b : Bool) (o : Option X) → cond b None o ≡ cond (not b) o None
swapped true o = refl
swapped false o = refl

either : {X : Type 0} (b : Bool) (o : Option X) → o ≡ cond b o o
either true o = refl
either false o = refl

aged : {X : Type 0} (before : ℕ) (moment : Option ℕ) (o : Option X) → is_some moment ≡ is_some o
    → cond (is_older before moment) None o ≡ cond (not (nat_lt (or_0 moment) before)) o None
aged before None None e = either (not (nat_lt 0 before)) None
aged before None (Some x) e = absurd cc
aged before (Some m) o e = swapped (nat_lt m before) o

-- to take out just those that are older leaves the others
pub left_by : {X : Type 0} (ns : List ℕ) (before : ℕ) (began : Moments) (m : finite.FinMap nat_cmp X)
    → ((q : ℕ) → is_in q ns ≡ is_older before (finite.get began q)) → ((q : ℕ) → is_some (finite.get began q) ≡ is_some (finite.get m q))
    → removed ns m ≡ finite.retain_keys m (is_since before began)
left_by ns before began m are have = same_map nat_cmp_total nat_cmp-IsAntisymmetric _ _ (λ q.
    get_removed ns m q
    ∙ ap (λ b. cond b None (finite.get m q)) (are q)
    ∙ aged before (finite.get began q) (finite.get m q) (have q)
    ∙ sym (get_left before began m q))

removed_more : {X : Type 0} (ns : List ℕ) (n : ℕ) (m : finite.FinMap nat_cmp X) → removed (ns ++ n ∷ []) m ≡ finite.remove (removed ns m) n
removed_more [] n m = refl
removed_more (k ∷ ns) n m = removed_more ns n (finite.remove m k)

pub removed_next : {X : Type 0} (ns : List ℕ) (i d : ℕ) (m : finite.FinMap nat_cmp X) → i < length ns
    → removed (take (i + 1) ns) m ≡ finite.remove (removed (take i ns) m) (get_or ns i d)
removed_next ns i d m lt = ap (λ xs. removed xs m) (take_more ns i d lt) ∙ removed_more (take i ns) (get_or ns i d) m

-- ---- lists

pub taken_all : (ns : List ℕ) (i : ℕ) → length ns ≤ i → take i ns ≡ ns
taken_all [] zero le = refl
taken_all [] (suc i) le = refl
taken_all (n ∷ ns) zero le = absurd (omega (arith, le))
taken_all (n ∷ ns) (suc i) le = let less : length ns ≤ i = omega (arith, le) in ap (λ xs. n ∷ xs) (taken_all ns i less)

-- one more is closed
abbrev expecting : OpenSessions → finite.FinMap nat_cmp Expected → OpenSessions
expecting s m = record s { expected = m }

pub without_next : (ns : List ℕ) (i d : ℕ) (s t u : OpenSessions) → i < length ns → t ≡ expecting s (removed (take i ns) s.expected)
    → u ≡ closed (get_or ns i d) t → u ≡ expecting s (removed (take (i + 1) ns) s.expected)
without_next ns i d s t u lt was ends =
    ends
    ∙ ap (λ (x : OpenSessions). closed (get_or ns i d) x) was
    ∙ sym (ap (expecting s) (removed_next ns i d s.expected lt))

-- those that are older, ended together
pub without_older : (ns : List ℕ) (before : ℕ) (s : Timed) (t : OpenSessions) (b : Moments) → ((q : ℕ) → is_in q ns ≡ is_older before (finite.get s.began q))
    → HaveMoments s → t ≡ expecting s.open_sessions (removed ns s.open_sessions.expected) → b ≡ removed ns s.began
    → record { open_sessions = t; began = b } ≡ since before s
without_older ns before s t b are have closes takes =
    ap (λ (x : OpenSessions). record { open_sessions = x; began = b })
    (closes ∙ ap (expecting s.open_sessions) (left_by ns before s.began s.open_sessions.expected are have))
    ∙ ap (λ (x : Moments). record { open_sessions = (since before s).open_sessions; began = x })
    (takes ∙ left_by ns before s.began s.began are (λ q. refl))

pub room_left : (s t : Timed) (before count : ℕ) → t ≡ since before s → count + finite.len t.open_sessions.expected ≡ finite.len s.open_sessions.expected
    → HasRoom s → HasRoom t
room_left s t before count is counts room =
    let most : t.open_sessions.max_open ≡ s.open_sessions.max_open = ap (λ (x : Timed). x.open_sessions.max_open) is in
    omega (arith, counts, room, most)
