-- Lists of bytes: digests, and values of CBOR whose parts are bytes.
use Rattle.std.proofs.Common.{◌≡◌, ◌+◌, ◌*◌, ◌<◌, ◌^◌, ℕ, zero, suc, List, [], ◌∷◌, ◌++◌, Bool, true, false, length, arith, nat_lt, slice_index, refl}
use Rattle.std.specs.Prelude.{if◌then◌else◌, take, drop, ◌/◌}
use Rattle.std.specs.List.{list_all}
use Rattle.std.specs.Int.{w8, w16, w32, w64, to_be_bytes}
use Rattle.std.proofs.lemmas.Bool.{ltb-true}
use Rattle.sha2.specs.Sha256.{add32, add_state, compress, digest_bytes, final_hash, hash_after, initial_hash_256, padded_message, rounds, schedule, sha256}
use Rattle.ccbor.specs.Item as of
use Rattle.ccbor.specs.Item.{Item, Items, Pairs, no_items, item, no_pairs, pair}
use Rattle.ccbor.specs.Canon.{Fits, ItemsFit, PairsFit, count_of_items, count_of_pairs, head, spelling, spelling_of_items, spelling_of_pairs}
use Rattle.ctap_replies.proofs.Texts.{and_left, and_right}
use Rattle.hidframe.proofs.Bytes.{AreBytes, bytes-append, bytes-cons, bytes_of_16, bytes_of_32}
use Rattle.agreement.proofs.Sites.{bytes_of_64}

pub small : (bs : List ℕ) → list_all (λ b. nat_lt b 256) bs ≡ true → AreBytes bs
small [] e k = omega arith
small (x ∷ xs) e zero = ltb-true x 256 (and_left (nat_lt x 256) _ e)
small (x ∷ xs) e (suc k) = small xs (and_right (nat_lt x 256) _ e) k

-- ---- digests

abbrev AreWords : List ℕ → Type 0
AreWords ws = (k : ℕ) → slice_index ws k < 2 ^ 32

sum_fits : (x y : ℕ) → add32 x y < 2 ^ 32
sum_fits x y = omega arith

state_fits : (h v : List ℕ) → AreWords (add_state h v)
state_fits h v zero = sum_fits _ _
state_fits h v (suc zero) = sum_fits _ _
state_fits h v (suc (suc zero)) = sum_fits _ _
state_fits h v (suc (suc (suc zero))) = sum_fits _ _
state_fits h v (suc (suc (suc (suc zero)))) = sum_fits _ _
state_fits h v (suc (suc (suc (suc (suc zero))))) = sum_fits _ _
state_fits h v (suc (suc (suc (suc (suc (suc zero)))))) = sum_fits _ _
state_fits h v (suc (suc (suc (suc (suc (suc (suc zero))))))) = sum_fits _ _
state_fits h v (suc (suc (suc (suc (suc (suc (suc (suc k)))))))) = omega arith

first_fits : AreWords initial_hash_256
first_fits zero = omega arith
first_fits (suc zero) = omega arith
first_fits (suc (suc zero)) = omega arith
first_fits (suc (suc (suc zero))) = omega arith
first_fits (suc (suc (suc (suc zero)))) = omega arith
first_fits (suc (suc (suc (suc (suc zero))))) = omega arith
first_fits (suc (suc (suc (suc (suc (suc zero)))))) = omega arith
first_fits (suc (suc (suc (suc (suc (suc (suc zero))))))) = omega arith
first_fits (suc (suc (suc (suc (suc (suc (suc (suc k)))))))) = omega arith

after_fits : (p : List ℕ) (n : ℕ) → AreWords (hash_after initial_hash_256 p n)
unfolding hash_after compress
after_fits p zero = first_fits
after_fits p (suc n) =
    state_fits (hash_after initial_hash_256 p n)
    (rounds (hash_after initial_hash_256 p n) (schedule (take 64 (drop (n * 64) p)) 48) 64)

digest_fits : (h : List ℕ) (n : ℕ) → AreWords h → AreBytes (digest_bytes h n)
unfolding digest_bytes
digest_fits h zero words = λ k. omega arith
digest_fits h (suc n) words =
    bytes-append (digest_bytes h n) (to_be_bytes w32 (slice_index h n)) (digest_fits h n words) (bytes_of_32 (slice_index h n) (words n))

pub sha256_bytes : (m : List ℕ) → AreBytes (sha256 m)
unfolding sha256
sha256_bytes m =
    digest_fits (final_hash initial_hash_256 m) 8 (after_fits (padded_message m) (length (padded_message m) / 64))

-- ---- values of CBOR

bytes_of_8 : (n : ℕ) → n < 2 ^ 8 → AreBytes (to_be_bytes w8 n)
bytes_of_8 n h zero = omega arith
bytes_of_8 n h (suc k) = omega arith

one_byte : (n : ℕ) → n < 256 → AreBytes (n ∷ [])
one_byte n h zero = h
one_byte n h (suc k) = omega arith

head_bytes : (major n : ℕ) → major < 8 → n < 2 ^ 64 → AreBytes (head major n)
unfolding head
head_bytes major n low fits = by (nat_lt n 24) (nat_lt n (2 ^ 8)) (nat_lt n (2 ^ 16)) (nat_lt n (2 ^ 32)) refl refl refl refl where
  by : (a b c d : Bool) → nat_lt n 24 ≡ a → nat_lt n (2 ^ 8) ≡ b → nat_lt n (2 ^ 16) ≡ c → nat_lt n (2 ^ 32) ≡ d
      → AreBytes (if a then (32 * major + n) ∷ []
      else if b then (32 * major + 24) ∷ to_be_bytes w8 n
      else if c then (32 * major + 25) ∷ to_be_bytes w16 n
      else if d then (32 * major + 26) ∷ to_be_bytes w32 n
      else (32 * major + 27) ∷ to_be_bytes w64 n)
  by true b c d ea eb ec ed = let lt = ltb-true n 24 ea in one_byte (32 * major + n) (omega (arith, lt, low))
  by false true c d ea eb ec ed = bytes-cons (32 * major + 24) (to_be_bytes w8 n) (omega (arith, low)) (bytes_of_8 n (ltb-true n (2 ^ 8) eb))
  by false false true d ea eb ec ed = bytes-cons (32 * major + 25) (to_be_bytes w16 n) (omega (arith, low)) (bytes_of_16 n (ltb-true n (2 ^ 16) ec))
  by false false false true ea eb ec ed = bytes-cons (32 * major + 26) (to_be_bytes w32 n) (omega (arith, low)) (bytes_of_32 n (ltb-true n (2 ^ 32) ed))
  by false false false false ea eb ec ed = bytes-cons (32 * major + 27) (to_be_bytes w64 n) (omega (arith, low)) (bytes_of_64 n fits)

-- each byte string and text in it is bytes
abbrev mutual
  pub HasBytes : Item → Type 0
  HasBytes (of.uint n) = Unit {0}
  HasBytes (of.nint n) = Unit {0}
  HasBytes (of.bytes bs) = AreBytes bs
  HasBytes (of.text bs) = AreBytes bs
  HasBytes (of.array xs) = ItemsHaveBytes xs
  HasBytes (of.map ps) = PairsHaveBytes ps
  HasBytes (of.boolean b) = Unit {0}

  pub ItemsHaveBytes : Items → Type 0
  ItemsHaveBytes no_items = Unit {0}
  ItemsHaveBytes (item x xs) = HasBytes x × ItemsHaveBytes xs

  pub PairsHaveBytes : Pairs → Type 0
  PairsHaveBytes no_pairs = Unit {0}
  PairsHaveBytes (pair k v ps) = HasBytes k × HasBytes v × PairsHaveBytes ps

truth_bytes : (b : Bool) → AreBytes ((if b then 0xf5 else 0xf4) ∷ [])
truth_bytes true = one_byte 0xf5 (omega arith)
truth_bytes false = one_byte 0xf4 (omega arith)

mutual
  pub spelled : (d : ℕ) (x : Item) → Fits d x → HasBytes x → AreBytes (spelling x)
  spelled d (of.uint n) f h = head_bytes 0 n (omega arith) f
  spelled d (of.nint n) f h = head_bytes 1 n (omega arith) f
  spelled d (of.bytes bs) f h = bytes-append (head 2 (length bs)) bs (head_bytes 2 (length bs) (omega arith) f) h
  spelled d (of.text bs) f h = bytes-append (head 3 (length bs)) bs (head_bytes 3 (length bs) (omega arith) f.0) h
  spelled zero (of.array xs) f h = absurd f.1
  spelled (suc d) (of.array xs) f h =
      bytes-append (head 4 (count_of_items xs)) (spelling_of_items xs) (head_bytes 4 (count_of_items xs) (omega arith) f.0) (spelled_items d xs f.1 h)
  spelled zero (of.map ps) f h = absurd f.1
  spelled (suc d) (of.map ps) f h =
      bytes-append (head 5 (count_of_pairs ps)) (spelling_of_pairs ps) (head_bytes 5 (count_of_pairs ps) (omega arith) f.0) (spelled_pairs d [] ps f.1 h)
  spelled d (of.boolean b) f h = truth_bytes b

  spelled_items : (d : ℕ) (xs : Items) → ItemsFit d xs → ItemsHaveBytes xs → AreBytes (spelling_of_items xs)
  spelled_items d no_items f h = λ k. omega arith
  spelled_items d (item x xs) f h = bytes-append (spelling x) (spelling_of_items xs) (spelled d x f.0 h.0) (spelled_items d xs f.1 h.1)

  spelled_pairs : (d : ℕ) (last : List ℕ) (ps : Pairs) → PairsFit d last ps → PairsHaveBytes ps → AreBytes (spelling_of_pairs ps)
  spelled_pairs d last no_pairs f h = λ k. omega arith
  spelled_pairs d last (pair k v ps) f h =
      bytes-append (spelling k) (spelling v ++ spelling_of_pairs ps) (spelled d k f.2 h.0)
      (bytes-append (spelling v) (spelling_of_pairs ps) (spelled d v f.3 h.1) (spelled_pairs d (spelling k) ps f.4 h.2))
