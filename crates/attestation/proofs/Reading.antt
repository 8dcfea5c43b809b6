-- A statement from its members.
use Rattle.std.proofs.Common.{◌≡◌, ◌≤◌, ℕ, List, length, Option, Some, None, MatchOption, sym, ap, subst, ◌∙◌}
use Rattle.ccbor.specs.Item as of
use Rattle.ccbor.specs.Item.{Item, Pairs}
use Rattle.ccbor.specs.Canon.{Canon}
use Rattle.ccbor.proofs.Decoding.{same_item}
use Rattle.attestation.specs.declared.statement.Format.{Format}
use Rattle.attestation.specs.declared.statement.Statement.{Statement}
use Rattle.attestation.specs.Statements.{HasCertificates, StatementForm, StatementOf, format_of, members_of, statement_view}

pub statement_from : (v : Item) (ps : Pairs) (bs : List ℕ) (format : Format) (r : Option Statement) → v ≡ of.map ps → Canon v bs → length bs ≤ 65536
    → MatchOption r ((f : StatementForm) → format_of f ≡ format → HasCertificates f → ps ≡ members_of f → ⊥)
    (λ s. (format_of (statement_view s) ≡ format) × HasCertificates (statement_view s) × (ps ≡ members_of (statement_view s)))
    → MatchOption r ((f : StatementForm) → format_of f ≡ format → StatementOf f bs → ⊥)
    (λ s. (format_of (statement_view s) ≡ format) × StatementOf (statement_view s) bs)
statement_from v ps bs format (Some s) is canon size h =
    (h.0, record { certificates = h.1; size = size; canon = subst (λ (x : Item). Canon x bs) (is ∙ ap of.map h.2) canon })
statement_from v ps bs format None is canon size h = λ f e k.
    let same : of.map ps ≡ of.map (members_of f) = sym is ∙ same_item v (of.map (members_of f)) bs canon k.canon in
    h f e k.certificates cc
