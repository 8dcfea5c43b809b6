-- The members of a packed statement.
use Rattle.std.proofs.Common.{◌≡◌, ℕ, true, List, Option, Some, None, sym, ◌∙◌, ap, MatchOption, option_map, Bor, Result, Ok, Err, inl, inr, refl}
use Rattle.std.specs.Prelude.{codes}
use Rattle.ccbor.specs.Item.{Item, Pairs, nint, text, bytes, map, pair, no_pairs}
use Rattle.ccbor.specs.Access.{is_end, is_same_key, split_key, bytes_in, pairs_in}
use Rattle.ccbor.proofs.AccessLemmas.{bytes_in_is, end_is, pairs_in_is, same_key, split_key_takes}
use Rattle.cose.specs.declared.key.Alg.{Alg}
use Rattle.cose.specs.Keys.{argument_of}
use Rattle.cose.specs.declared.key.CoseKey.{CoseKey}
use Rattle.authdata.specs.declared.error.Error.{Error}
use Rattle.authdata.specs.declared.error.Error.TheVariants as errors
use Rattle.authdata.specs.declared.statement.AttestationType.{AttestationType}
use Rattle.authdata.specs.declared.statement.AttestationType.TheVariants as types
use Rattle.authdata.specs.Objects.{Attestation}
use Rattle.authdata.specs.Statements.{Statement, packed_statement}

pub packed_is : (st n s : Item) (ps qs rs : Pairs) (alg : Alg) (r : Option (Bor (List ℕ)))
    → pairs_in st ≡ Some ps → split_key (text (codes "alg")) ps ≡ Some (n, qs) → split_key (text (codes "sig")) qs ≡ Some (s, rs)
    → is_same_key n (nint (argument_of alg)) ≡ true → is_end rs ≡ true → option_map (λ b. b.now) r ≡ bytes_in s
    → MatchOption r ((sig : List ℕ) → st ≡ packed_statement alg sig → ⊥) (λ sig. st ≡ packed_statement alg sig.now)
packed_is st n s ps qs rs alg r is first second number end found =
    let e1 = pairs_in_is st ps is in
    let e2 = split_key_takes (text (codes "alg")) ps (n, qs) first in
    let e3 = split_key_takes (text (codes "sig")) qs (s, rs) second in
    let e4 = same_key n (nint (argument_of alg)) number in
    let e5 = end_is rs end in
    of r found e1 e2 e3 e4 e5 where
      of : (r : Option (Bor (List ℕ))) → option_map (λ b. b.now) r ≡ bytes_in s → st ≡ map ps → ps ≡ pair (text (codes "alg")) n qs
          → qs ≡ pair (text (codes "sig")) s rs → n ≡ nint (argument_of alg) → rs ≡ no_pairs
          → MatchOption r ((sig : List ℕ) → st ≡ packed_statement alg sig → ⊥) (λ sig. st ≡ packed_statement alg sig.now)
      of (Some b) found e1 e2 e3 e4 e5 = let e6 : s ≡ bytes b.now = bytes_in_is s b.now (sym found) in cc
      of None found e1 e2 e3 e4 e5 = λ sig e.
          let e6 : s ≡ bytes sig = cc in
          let e7 : None ≡ Some sig = found ∙ ap bytes_in e6 in
          absurd cc

-- the two formats differ
two_formats : (fmt : List ℕ) → fmt ≡ codes "none" → fmt ≡ codes "packed" → ⊥
two_formats fmt e f = let bad : codes "none" ≡ codes "packed" = sym e ∙ f in absurd cc

-- what is answered is determined
pub one_statement : (Valid : CoseKey → List ℕ → List ℕ → Type 0) (o : Attestation) (key : CoseKey) (hash : List ℕ) (r s : Result AttestationType Error)
    → Statement Valid o key hash r → Statement Valid o key hash s → r ≡ s
one_statement Valid o key hash (Ok types.None) (Ok types.None) h g = refl
one_statement Valid o key hash (Ok types.None) (Ok types.SelfSigned) h g = absurd (two_formats o.fmt h.0 g.0)
one_statement Valid o key hash (Ok types.None) (Err errors.UnknownFormat) h g = absurd (g (inl h.0))
one_statement Valid o key hash (Ok types.None) (Err errors.BadStatement) h g = absurd (g.1 h)
one_statement Valid o key hash (Ok types.SelfSigned) (Ok types.None) h g = absurd (two_formats o.fmt g.0 h.0)
one_statement Valid o key hash (Ok types.SelfSigned) (Ok types.SelfSigned) h g = refl
one_statement Valid o key hash (Ok types.SelfSigned) (Err errors.UnknownFormat) h g = absurd (g (inr h.0))
one_statement Valid o key hash (Ok types.SelfSigned) (Err errors.BadStatement) h g = absurd (g.2 h)
one_statement Valid o key hash (Err errors.UnknownFormat) (Ok types.None) h g = absurd (h (inl g.0))
one_statement Valid o key hash (Err errors.UnknownFormat) (Ok types.SelfSigned) h g = absurd (h (inr g.0))
one_statement Valid o key hash (Err errors.UnknownFormat) (Err errors.UnknownFormat) h g = refl
one_statement Valid o key hash (Err errors.UnknownFormat) (Err errors.BadStatement) h g = absurd (h g.0)
one_statement Valid o key hash (Err errors.BadStatement) (Ok types.None) h g = absurd (h.1 g)
one_statement Valid o key hash (Err errors.BadStatement) (Ok types.SelfSigned) h g = absurd (h.2 g)
one_statement Valid o key hash (Err errors.BadStatement) (Err errors.UnknownFormat) h g = absurd (g h.0)
one_statement Valid o key hash (Err errors.BadStatement) (Err errors.BadStatement) h g = refl
one_statement Valid o key hash (Ok types.None) (Err _) h g = absurd g
one_statement Valid o key hash (Ok types.SelfSigned) (Err _) h g = absurd g
one_statement Valid o key hash (Err errors.UnknownFormat) (Err _) h g = absurd g
one_statement Valid o key hash (Err errors.BadStatement) (Err _) h g = absurd g
one_statement Valid o key hash (Err _) _ h g = absurd h
