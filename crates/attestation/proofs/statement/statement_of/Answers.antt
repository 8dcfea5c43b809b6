-- What is owed of `statement_of`.
use Rattle.std.proofs.Common.{◌≡◌, Err, Some, None, ap, sym, inl, inr, ◌∙◌}
use Rattle.ccbor.specs.Access.{pairs_in}
use Rattle.ccbor.specs.Item as of
use Rattle.ccbor.specs.Viewing.{shown, shown_pairs}
use Rattle.ccbor.proofs.AccessLemmas.{pairs_in_is}
use Rattle.ccbor.proofs.Decoding.{same_item}
use Rattle.authdata.proofs.Objects.{not_whole}
use Rattle.attestation.specs.Statements.{members_of}
use Rattle.attestation.proofs.Reading.{statement_from}
use Rattle.attestation.proofs.statement.statement_of.Goals as goal

pub returns-in_default : goal.returns-in_default
returns-in_default c = λ f e h. elim c.in_default.ensures.errors [
  | inl k ↦ not_whole c.args.bytes.now (c.in_default.ensures.none (ap Err k)) (of.map (members_of f)) h.canon
  | inr k ↦ c.in_default.ensures.front (ap Err k) (of.map (members_of f)) h.canon
]

pub returns-in_default-as_map : goal.returns-in_default-as_map
returns-in_default-as_map c = λ f e h.
    let same = same_item (shown c.in-Ok.value) (of.map (members_of f)) c.args.bytes.now c.in-Ok.ensures.found.1 h.canon in
    let bad : None ≡ Some (members_of f) = c.in_default-as_map.ensures ∙ ap pairs_in same in
    absurd cc

pub returns : goal.returns
returns c =
    statement_from (shown c.in-Ok.value) (shown_pairs c.in-Some.members) c.args.bytes.now c.args.format c.statement_in.result
    (pairs_in_is (shown c.in-Ok.value) (shown_pairs c.in-Some.members) (sym c.in-Some.ensures)) c.in-Ok.ensures.found.1 c.if-bytes-gt-MAX_STATEMENT.false c.statement_in.ensures
