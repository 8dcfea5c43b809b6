-- A page has one mark, and a log one first mark.
use Rattle.std.specs.Prelude.{◌≡◌, ℕ, List}
use Rattle.std.proofs.Common.{arith, inl, inr, sym, subst, ◌∙◌}
use Rattle.std.proofs.lemmas.Bool.{cases_lt}
use Rattle.site_disk.specs.Mark.{HasMark, IsFirstMark, IsMarked}

pub one_mark : (page : List ℕ) (m f n g : ℕ) → HasMark page m f → HasMark page n g → (m ≡ n) × (f ≡ g)
one_mark page m f n g one two = (sym one.cell.mark_is ∙ two.cell.mark_is, sym one.cell.follows_is ∙ two.cell.follows_is)

pub one_first : (log : List ℕ) (root frames m f n g : ℕ) → IsFirstMark log root frames m f → IsFirstMark log root frames n g → f ≡ g
one_first log root frames m f n g one two = elim (cases_lt one.at two.at) [
  | inl before ↦ absurd (two.none one.at before m f one.has)
  | inr from ↦ elim (cases_lt two.at one.at) [
    | inl before ↦ absurd (one.none two.at before n g two.has)
    | inr to ↦ let same : one.at ≡ two.at = omega (arith, from, to) in
        (one_mark _ m f n g (subst (λ i. IsMarked log root i m f) same one.has).has two.has.has).1
  ]
]
