-- What is answered where no map follows the command byte.
use Rattle.std.proofs.Common.{◌≡◌, ◌||◌, ℕ, true, false, List, [], ◌∷◌, length, refl, sym, subst, Result, IfErr, arith}
use Rattle.refusal_order.specs.Lines.{First}
use Rattle.ctap_requests.specs.Pieces.{Alone}
use Rattle.ctap_requests.specs.Status.{Rank, unknown_command, bytes_after, status_of, ranks, has_map, has_none, Applies, Refused}
use Rattle.ctap_encoding.specs.declared.error.Error.{Error}
use Rattle.ctap_requests.proofs.Ranks.{applies_first}
use Rattle.ctap_requests.specs.declared.request.RequestView.{RequestView}

refused_alone : (command : ℕ) (q : RequestView) (rest : List ℕ) (result : Result RequestView Error) → has_none command ≡ true → Alone q rest result
    → IfErr result (λ e. Refused (command ∷ rest) e)
refused_alone command q [] result h is = rw is tt
refused_alone command q (b ∷ rest) result h is = rw is (bytes_after, applies_first (command ∷ b ∷ rest) bytes_after (h, λ e. absurd cc), refl)

pub alone_refused : (command : ℕ) (q : RequestView) (bs rest : List ℕ) (result : Result RequestView Error) → has_none command ≡ true → bs ≡ command ∷ rest
    → Alone q rest result
    → IfErr result (λ e. Refused bs e)
alone_refused command q bs rest result h begins is =
    subst (λ (l : List ℕ). IfErr result (λ e. Refused l e)) (sym begins) (refused_alone command q rest result h is)

pub no_byte : (bs : List ℕ) → length bs ≡ 0 → (x : Rank) × First (Applies bs) ranks x × (1 ≡ status_of x)
no_byte [] e = (unknown_command, applies_first [] unknown_command tt, refl)
no_byte (b ∷ bs) e = absurd (omega (arith, e))

pub no_command : (command : ℕ) (bs rest : List ℕ) → bs ≡ command ∷ rest → has_map command || has_none command ≡ false → (x : Rank) × First (Applies bs) ranks x
    × (1 ≡ status_of x)
no_command command bs rest begins e =
    subst (λ (l : List ℕ). (x : Rank) × First (Applies l) ranks x × (1 ≡ status_of x)) (sym begins)
    (unknown_command, applies_first (command ∷ rest) unknown_command e, refl)
