-- Stored credentials: each id stands once, and what a change leaves of each.
use Rattle.std.proofs.Common.{◌≡◌, ◌<◌, ◌≤◌, ◌-◌, ℕ, List, [], ◌∷◌, ◌++◌, Option, Some, None, Bool, true, false, length, map, reverse, sym, refl}
use Rattle.std.proofs.Common.{subst, arith, inl, inr, get_or}
use Rattle.std.specs.Prelude.{if◌then◌else◌, ◌⊎◌, All, filter, find, option_map, option_to_list}
use Rattle.std.specs.List.{AllByRecursion as Each}
use Rattle.std.specs.Str.{bytes_eq}
use Rattle.std.proofs.lemmas.Grind.{common_steps}
use Rattle.std.proofs.lemmas.Slice.Eq.{bytes_eq-Decides}
use Rattle.std.proofs.lemmas.List.{get_or-reverse, length-reverse}
use Rattle.std.proofs.lemmas.List.Elements.{All-nil, All-from_recursion, All-tail}
use Rattle.std.proofs.lemmas.List.Folds.{find-append}
use Rattle.ctap_requests.specs.Entities.{CredentialDescriptor}
use Rattle.authenticator.specs.State.{CredentialSource}
use Rattle.authenticator.specs.Credentials.{credential_of, is_resident_for, with_sign_count, without_first}
use Rattle.authenticator.specs.Orders.{candidates, is_stored_for}
use Rattle.authenticator.specs.Laws.{IsUnique, IsResident, Keeps}

pub same_id : (xs ys : List ℕ) → bytes_eq xs ys ≡ true → xs ≡ ys
same_id xs ys e = (bytes_eq-Decides xs ys).0 e

pub itself : (xs : List ℕ) → bytes_eq xs xs ≡ true
itself xs = (bytes_eq-Decides xs xs).1 refl

-- ---- each of unique ones is the one of its id

abbrev pub Keeper : List CredentialSource → CredentialSource → Type 0
Keeper xs c = credential_of c.id xs ≡ Some c

keepers_more : (c : CredentialSource) (cs : List CredentialSource) → credential_of c.id cs ≡ None → (x : CredentialSource) → Keeper cs x → Keeper (c ∷ cs) x
keepers_more c cs none x e = grind (arith, common_steps, none, e, same_id c.id x.id)

pub each_weaker : {X : Type 0} (P Q : X → Type 0) → ((x : X) → P x → Q x) → (xs : List X) → Each P xs → Each Q xs
each_weaker P Q f [] h = tt
each_weaker P Q f (x ∷ xs) h = (f x h.0, each_weaker P Q f xs h.1)

pub keepers : (cs : List CredentialSource) → IsUnique cs → Each (Keeper cs) cs
keepers [] h = tt
keepers (c ∷ cs) (none, h) = (rw (itself c.id) refl, each_weaker (Keeper cs) (Keeper (c ∷ cs)) (keepers_more c cs none) cs (keepers cs h))

-- ---- who may answer

residents : (rp : List ℕ) (cs xs : List CredentialSource) → Each (Keeper cs) xs → Each (IsResident cs) (map (λ c. c.id) (filter (is_resident_for rp) xs))
residents rp cs [] h = tt
residents rp cs (x ∷ xs) h = grind (arith, common_steps, h.0, h.1, residents rp cs xs h.1)

pub all_reverse : (P : List ℕ → Type 0) (xs : List (List ℕ)) → All P xs → All P (reverse xs)
all_reverse P xs h k d lt =
    let l = length-reverse xs in
    let within : k < length xs = omega (arith, l, lt) in
    subst P (sym (get_or-reverse xs k d within)) (h (length xs - 1 - k) d (omega arith))

-- those after the first are resident
abbrev pub LaterResident : List CredentialSource → List (List ℕ) → Type 0
LaterResident cs [] = Unit {0}
LaterResident cs (id ∷ later) = All (IsResident cs) later

behind : (cs : List CredentialSource) (ids : List (List ℕ)) → All (IsResident cs) ids → LaterResident cs ids
behind cs [] h = tt
behind cs (id ∷ ids) h = All-tail (IsResident cs) id ids h

one_alone : (cs : List CredentialSource) (o : Option CredentialDescriptor) → LaterResident cs (option_to_list (option_map (λ d. d.id) o))
one_alone cs None = tt
one_alone cs (Some d) = All-nil (IsResident cs)

pub later_candidates : (cs : List CredentialSource) (rp : List ℕ) (allow : Option (List CredentialDescriptor)) → IsUnique cs
    → LaterResident cs (candidates cs rp allow)
later_candidates cs rp None u =
    behind cs (candidates cs rp None) (all_reverse (IsResident cs) (map (λ c. c.id) (filter (is_resident_for rp) cs))
    (All-from_recursion (IsResident cs) (map (λ c. c.id) (filter (is_resident_for rp) cs)) (residents rp cs cs (keepers cs u))))
later_candidates cs rp (Some ds) u = one_alone cs (find (is_stored_for rp cs) ds)

-- ---- a counter that is written

abbrev pub counted : ℕ → CredentialSource → CredentialSource
counted n c = record c { sign_count = n }

pub with_at : (id : List ℕ) (n : ℕ) (cs : List CredentialSource) (c : CredentialSource) → credential_of id cs ≡ Some c
    → credential_of id (with_sign_count id n cs) ≡ Some (counted n c)
with_at id n [] c e = absurd cc
with_at id n (x ∷ xs) c e = grind (arith, common_steps, e, with_at id n xs c)

pub with_other : (id : List ℕ) (n : ℕ) (cs : List CredentialSource) (k : List ℕ) → bytes_eq id k ≡ false
    → credential_of k (with_sign_count id n cs) ≡ credential_of k cs
with_other id n [] k ne = refl
with_other id n (x ∷ xs) k ne = grind (arith, common_steps, ne, same_id x.id id, with_other id n xs k ne)

pub unique_with : (id : List ℕ) (n : ℕ) (cs : List CredentialSource) → IsUnique cs → IsUnique (with_sign_count id n cs)
unique_with id n [] u = tt
unique_with id n (x ∷ xs) (none, u) = grind (arith, common_steps, none, u, same_id id x.id, bytes_eq-Decides, with_other id n xs x.id, unique_with id n xs u)

length_same : (id : List ℕ) (n : ℕ) (cs : List CredentialSource) → length (with_sign_count id n cs) ≡ length cs
length_same id n [] = refl
length_same id n (x ∷ xs) = grind (arith, common_steps, length_same id n xs)

pub length_with : (id : List ℕ) (n : ℕ) (cs : List CredentialSource) → length cs ≤ 256 → length (with_sign_count id n cs) ≤ 256
length_with id n cs h = let e = length_same id n cs in omega (arith, e, h)

pub keeps_same : (cs : List CredentialSource) → Keeps cs cs
keeps_same cs k c e = inr (c, e, omega arith, refl)

pub keeps_with : (id : List ℕ) (cs : List CredentialSource) (c : CredentialSource) (n : ℕ) → credential_of id cs ≡ Some c → c.sign_count ≤ n
    → Keeps cs (with_sign_count id n cs)
keeps_with id cs c n found le k x e = grind (arith, common_steps, found, le, e, same_id id k, with_at id n cs c found, with_other id n cs k)

resident_with : (id : List ℕ) (n : ℕ) (cs : List CredentialSource) (k : List ℕ) → IsResident cs k → IsResident (with_sign_count id n cs) k
resident_with id n cs k (c, found, resident) = grind (arith, common_steps, found, resident, same_id id k, with_at id n cs c, with_other id n cs k)

pub residents_with : (id : List ℕ) (n : ℕ) (cs : List CredentialSource) (ids : List (List ℕ)) → All (IsResident cs) ids
    → All (IsResident (with_sign_count id n cs)) ids
residents_with id n cs ids h k d lt = resident_with id n cs (get_or ids k d) (h k d lt)

-- ---- one fewer

pub none_without : (p : CredentialSource → Bool) (cs : List CredentialSource) (k : List ℕ) → credential_of k cs ≡ None
    → credential_of k (without_first p cs) ≡ None
none_without p [] k e = refl
none_without p (x ∷ xs) k e = grind (arith, common_steps, e, none_without p xs k)

unique_without : (p : CredentialSource → Bool) (cs : List CredentialSource) → IsUnique cs → IsUnique (without_first p cs)
unique_without p [] u = tt
unique_without p (x ∷ xs) (none, u) = grind (arith, common_steps, u, none, none_without p xs x.id none, unique_without p xs u)

keep_without : (p : CredentialSource → Bool) (cs : List CredentialSource) (k : List ℕ) (c : CredentialSource) → IsUnique cs → credential_of k cs ≡ Some c
    → (credential_of k (without_first p cs) ≡ None) ⊎ (credential_of k (without_first p cs) ≡ Some c)
keep_without p [] k c u e = inl refl
keep_without p (x ∷ xs) k c (none, u) e = grind (arith, common_steps, u, none, e, same_id x.id k, keep_without p xs k c u)

-- ---- one more

none_push : (cs : List CredentialSource) (c : CredentialSource) (k : List ℕ) → credential_of k cs ≡ None → bytes_eq c.id k ≡ false
    → credential_of k (cs ++ c ∷ []) ≡ None
none_push cs c k e ne = grind (arith, common_steps, e, ne, find-append)

pub last_push : (cs : List CredentialSource) (c : CredentialSource) → credential_of c.id cs ≡ None → credential_of c.id (cs ++ c ∷ []) ≡ Some c
last_push cs c e = grind (arith, common_steps, e, find-append, itself)

pub unique_push : (cs : List CredentialSource) (c : CredentialSource) → IsUnique cs → credential_of c.id cs ≡ None → IsUnique (cs ++ c ∷ [])
unique_push [] c u e = (refl, tt)
unique_push (x ∷ xs) c (none, u) e = grind (arith, common_steps, u, none, e, itself, same_id c.id x.id, none_push xs c x.id none, unique_push xs c u)

-- what stays of the old ones
pub record Stays (cs stay : List CredentialSource) : Type 0 where
  pub unique : IsUnique stay
  pub none : (k : List ℕ) → credential_of k cs ≡ None → credential_of k stay ≡ None
  pub keep : (k : List ℕ) (c : CredentialSource) → credential_of k cs ≡ Some c → (credential_of k stay ≡ None) ⊎ (credential_of k stay ≡ Some c)

pub stays : (b : Bool) (p : CredentialSource → Bool) (cs : List CredentialSource) → IsUnique cs → Stays cs (if b then without_first p cs else cs)
stays true p cs u = record { unique = unique_without p cs u; none = none_without p cs; keep = λ k c. keep_without p cs k c u }
stays false p cs u = record { unique = u; none = λ k e. e; keep = λ k c e. inr e }

pub keeps_made : (cs stay : List CredentialSource) (c : CredentialSource) → Stays cs stay → credential_of c.id cs ≡ None → Keeps cs (stay ++ c ∷ [])
keeps_made cs stay c s none k x e = grind (arith, common_steps, none, e, s.keep k x e, same_id c.id k, find-append)

pub unique_made : (cs stay : List CredentialSource) (c : CredentialSource) → Stays cs stay → credential_of c.id cs ≡ None → IsUnique (stay ++ c ∷ [])
unique_made cs stay c s none = unique_push stay c s.unique (s.none c.id none)
