-- A store holds one site.
use Rattle.std.proofs.Common.{◌≡◌, ◌<◌, ◌≤◌, ◌+◌, ◌^◌, ℕ, List, [], ◌∷◌, Bool, true, false, map, refl, sym, ap, arith, ◌∙◌}
use Rattle.std.proofs.lemmas.Grind.{common_steps}
use Rattle.std.specs.Prelude.{nat_lt}
use Rattle.std.specs.FinMap as finite
use Rattle.std.specs.FinMap.{same_entries_map}
use Rattle.sqlite_value.specs.Order.{Row, column}
use Rattle.sqlite_value.specs.declared.value.Value.TheVariants.{Text}
use Rattle.verification.specs.Records.{Credential}
use Rattle.site_rows.specs.Rows.{credential_row}
use Rattle.site_rows.proofs.One.{number_once, one_credential}
use Rattle.site_stored.specs.Laws.{KeptLaws}
use Rattle.site_stored.specs.State.{site_row, to_commit}
use Rattle.site_stored.proofs.ShutOut.{shuts_out}

abbrev rows_in : List (ℕ × Credential) → List Row
rows_in es = map (λ e. credential_row e.0 e.1) es

abbrev head_of : Row → List Row → Row
head_of none [] = none
head_of none (r ∷ rs) = r

abbrev rest_of : List Row → List Row
rest_of [] = []
rest_of (r ∷ rs) = rs

same_pair : (e f : ℕ × Credential) → e.0 ≡ f.0 → e.1 ≡ f.1 → e ≡ f
same_pair e f places credentials = ap (λ (p : ℕ). (p, e.1)) places ∙ ap (λ (c : Credential). (f.0, c)) credentials

same_rows : (es fs : List (ℕ × Credential)) → rows_in es ≡ rows_in fs → es ≡ fs
same_rows [] [] same = refl
same_rows [] (f ∷ fs) same = absurd cc
same_rows (e ∷ es) [] same = absurd cc
same_rows (e ∷ es) (f ∷ fs) same =
    let one = one_credential e.0 f.0 e.1 f.1 (ap (head_of []) same) in
    ap (λ (x : ℕ × Credential). x ∷ es) (same_pair e f one.0 one.1) ∙ ap (λ (xs : List (ℕ × Credential)). f ∷ xs) (same_rows es fs (ap rest_of same))

text_once : (x y : List ℕ) → Text x ≡ Text y → x ≡ y
text_once x y same = cc

-- what a commit writes is above what was committed before
moves : (durable reserved : ℕ) → durable ≤ reserved → durable + 1000 < 2 ^ 63 → durable < to_commit durable reserved
moves durable reserved up fits = go (nat_lt durable reserved) refl
  where
    go : (b : Bool) → nat_lt durable reserved ≡ b → durable < to_commit durable reserved
    go true e = grind (arith, common_steps, e)
    go false e = further (nat_lt (reserved + 1000) (2 ^ 63)) refl
      where
        further : (b : Bool) → nat_lt (reserved + 1000) (2 ^ 63) ≡ b → durable < to_commit durable reserved
        further true f = grind (arith, common_steps, e, f, up)
        further false f = absurd grind (arith, common_steps, e, f, up, fits)

pub laws : KeptLaws
laws = record {
  copies = λ durable reserved up fits.
      let more : durable < to_commit durable reserved = moves durable reserved up fits in
      record {
        copies = λ next least. omega (arith, more, least);
        itself = omega (arith, more);
      };
  one_site = λ p q id other m n db hp hq.
      let row : site_row id m ≡ site_row other n = ap (head_of []) (sym hp.site ∙ hq.site) in
      record {
        placed = same_entries_map p q (same_rows (finite.entries p) (finite.entries q) (sym hp.credentials.table ∙ hq.credentials.table));
        rp_id = text_once id other (ap (λ (r : Row). column r 3) row);
        next = number_once m n (ap (λ (r : Row). column r 4) row);
      };
  shut_out = shuts_out;
}
