-- What is owed of `hashes_in`.
use Rattle.std.proofs.Common.{◌≡◌, ◌++◌, [], ◌∷◌, List, ℕ, length, sym, ap, subst, ◌∙◌, arith}
use Rattle.std.specs.List.{AllByRecursion, concat}
use Rattle.std.proofs.lemmas.List.{append_assoc, length-take-le, take-append-drop}
use Rattle.refusal_order.proofs.Laws.{each_joined}
use Rattle.site_seal.specs.Seal.{IsHash}
use Rattle.site_seal.proofs.Bytes.{concat_push}
use Rattle.site_seal.proofs.opening.hashes_in.Goals as goal

pub loop-hash-preserved : goal.loop-hash-preserved
loop-hash-preserved c =
    let rest = c.loop-hash.rest.now in
    let hashes = c.loop-hash.hashes.items in
    let hash = c.in-Some.hash.now in
    let after = c.in-Some.after.now in
    let has = c.in-Some.ensures.cases in
    let parts : hash ++ after ≡ rest = cc (has.0, has.1, take-append-drop 32 rest) in
    let pushed : c.push.new.self.items ≡ hashes ++ hash ∷ [] = c.in_ok-push.ensures.items in
    let whole : IsHash hash = ap length has.0 ∙ length-take-le 32 rest (omega (arith, has.2)) in
    record {
      joined = ap (λ (l : List (List ℕ)). concat l ++ after) pushed ∙ ap (λ (l : List ℕ). l ++ after) (concat_push hashes hash)
          ∙ append_assoc (concat hashes) hash after ∙ ap (λ (l : List ℕ). concat hashes ++ l) parts ∙ c.loop-hash.invariant.joined;
      each = subst (AllByRecursion IsHash) (sym pushed) (each_joined IsHash hashes (hash ∷ []) c.loop-hash.invariant.each (whole, tt));
    }
