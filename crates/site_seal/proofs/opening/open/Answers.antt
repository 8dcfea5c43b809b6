-- What is owed of `open`.
use Rattle.std.proofs.Common.{◌≡◌, ◌++◌, ◌∷◌, ◌-◌, List, ℕ, length, sym, ap, ◌∙◌, arith}
use Rattle.std.proofs.lemmas.List.{length-append, take-append-drop}
use Rattle.site_seal.specs.Hmac.{hmac_sha256}
use Rattle.site_seal.specs.Seal.{spelled}
use Rattle.site_seal.proofs.Texts.{length-hmac_sha256, none_from, same_sealed}
use Rattle.site_seal.proofs.opening.open.Goals as goal

pub returns-then-not-are_equal-clause-none : goal.returns-then-not-are_equal-clause-none
returns-then-not-are_equal-clause-none c = λ s is same.
    let bytes = c.args.bytes.now in
    let text = c.in-Some.text.now in
    let seal = c.in-Some.seal.now in
    let has = c.in-Some.ensures.cases in
    let whole : bytes ≡ text ++ seal = cc (has.0, has.1, take-append-drop (length bytes - 32) bytes) in
    let long : length seal ≡ 32 = omega (arith, length-append text seal, ap length whole, has.2) in
    let parts = same_sealed text (spelled s) seal _ long (length-hmac_sha256 c.args.key.now (1 ∷ (c.args.rp_id_hash.now ++ spelled s))) (sym whole ∙ same) in
    let equal : seal ≡ c.seal_of.result = parts.1 ∙ ap (λ (l : List ℕ). hmac_sha256 c.args.key.now (1 ∷ (c.args.rp_id_hash.now ++ l))) (sym parts.0) ∙ sym c.seal_of.ensures in
    let yes = c.are_equal.ensures.1 equal in
    let no = c.if-not-are_equal.true in
    absurd cc

pub returns-clause-none : goal.returns-clause-none
returns-clause-none c =
    let bytes = c.args.bytes.now in
    let text = c.in-Some.text.now in
    let seal = c.in-Some.seal.now in
    let has = c.in-Some.ensures.cases in
    let whole : bytes ≡ text ++ seal = cc (has.0, has.1, take-append-drop (length bytes - 32) bytes) in
    let long : length seal ≡ 32 = omega (arith, length-append text seal, ap length whole, has.2) in
    none_from c.session_in.result _ _ (λ none s is same.
    none s is (same_sealed text (spelled s) seal _ long (length-hmac_sha256 c.args.key.now (1 ∷ (c.args.rp_id_hash.now ++ spelled s))) (sym whole ∙ same)).0)
    c.session_in.ensures.none
