-- What is owed of `is_rp_id_of`.
use Rattle.std.proofs.Common.{◌≡◌, ◌++◌, Some, None, sym, ◌∙◌, ap}
use Rattle.std.proofs.lemmas.Bool.Decides.{Decides-eqb}
use Rattle.std.proofs.lemmas.Slice.Eq.{strip_suffix_is}
use Rattle.client.proofs.Suffixes.{not_empty, is_own, is_cut, is_behind}
use Rattle.client.proofs.origin.is_rp_id_of.Goals as goal

pub returns-in-Some : goal.returns-in-Some
returns-in-Some c =
    let host = c.args.host.now in
    let rp_id = c.args.rp_id.now in
    let front = c.in-Some.front.now in
    let cut = strip_suffix_is Decides-eqb c.as_bytes.result.now c.as_bytes-2.result.now (Some c.in-Some.front) c.in-Some.ensures.cases in
    let is : host ≡ front ++ rp_id = sym c.as_bytes.ensures.value ∙ cut ∙ ap (λ xs. front ++ xs) c.as_bytes-2.ensures.value in
    let some = not_empty rp_id c.is_empty.result c.is_empty.ensures c.if-is_empty.false in
    (λ yes. is_own host rp_id front some is (c.is_cut.ensures.0 yes), λ own. c.is_cut.ensures.1 (is_cut host rp_id front is own))

pub returns-in-None : goal.returns-in-None
returns-in-None c = (
  λ yes. absurd (cc),
  λ own.
      let behind = is_behind c.args.host.now c.args.rp_id.now own in
      absurd (strip_suffix_is Decides-eqb c.as_bytes.result.now c.as_bytes-2.result.now None c.in-None.ensures.cases behind.0
      (c.as_bytes.ensures.value ∙ behind.1 ∙ ap (λ xs. behind.0 ++ xs) (sym c.as_bytes-2.ensures.value))),
)
