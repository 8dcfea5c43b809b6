-- The lines of answers, one after the other.
use Rattle.std.proofs.Common.{◌≡◌, ℕ, List, [], ◌∷◌, ◌++◌, refl, sym, subst, ap, ◌∙◌, append_assoc, append-nil}
use Rattle.serde_json.specs.Data.{Data}
use Rattle.json_lines.specs.Written.{IsTextOf}
use Rattle.site_lines.specs.Written.{Writes}
use Rattle.site_lines.specs.declared.line.Answered.{Answered}
use Rattle.site_lines.specs.declared.writing.Teller.{Teller}
use Rattle.site_program.specs.Told.{AreLinesOf, IsLineOf}

pub lines_then : (teller : Teller) (so_far : List Answered) (one : Answered) (bytes line : List ℕ) → AreLinesOf teller so_far bytes → IsLineOf teller one line
    → AreLinesOf teller (so_far ++ one ∷ []) (bytes ++ line)
lines_then teller [] one bytes line h new = (line, [], new, refl, ap (λ b. b ++ line) h ∙ sym (append-nil line))
lines_then teller (first ∷ more) one bytes line h new =
    (h.0, h.1 ++ line, h.2, lines_then teller more one h.1 line h.3 new, ap (λ b. b ++ line) h.4 ∙ append_assoc h.0 h.1 line)

pub one_more : (teller : Teller) (so_far : List Answered) (one : Answered) (bytes now : List ℕ) (d : Data) (text : List ℕ) → AreLinesOf teller so_far bytes
    → Writes teller one.id one.answer d → IsTextOf d text → now ≡ bytes ++ text ++ 10 ∷ [] → AreLinesOf teller (so_far ++ one ∷ []) now
one_more teller so_far one bytes now d text told writes is same =
    subst (AreLinesOf teller (so_far ++ one ∷ [])) (sym (same ∙ append_assoc bytes text (10 ∷ []))) (lines_then teller so_far one bytes (text ++ 10 ∷ []) told (d, text, writes, is, refl))
