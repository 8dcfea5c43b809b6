-- What is owed of `hmac_sha256`.
use Rattle.std.proofs.Common.{◌≡◌, ◌++◌, ◌+◌, [], List, ℕ, take, map, get_or, sym, ap, subst, ◌∙◌, arith}
use Rattle.std.specs.List.{concat}
use Rattle.sha2.specs.Sha256.{sha256}
use Rattle.sha2.specs.Hashers.{Holds256}
use Rattle.std.proofs.lemmas.List.{map_more, take_all, append_assoc}
use Rattle.site_seal.specs.Hmac.{hmac_sha256, masked}
use Rattle.site_seal.proofs.Bytes.{concat_push}
use Rattle.site_seal.proofs.hmac.hmac_sha256.Goals as goal

pub loop-part-preserved : goal.loop-part-preserved
loop-part-preserved c =
    let i = c.loop-part.part-index in
    let parts = c.args.parts.now in
    let front = masked 0x36 c.args.key.now in
    let part = get_or parts i (record { ref_ptr = (0, 0); now = [] }) in
    let before = concat (map (λ p. p.now) (take i parts)) in
    let more = c.update-in-loop-part.ensures _ c.loop-part.invariant in
    let step : concat (map (λ p. p.now) (take (i + 1) parts)) ≡ before ++ part.now =
    ap concat (map_more (λ p. p.now) parts i (record { ref_ptr = (0, 0); now = [] }) (omega arith)) ∙ concat_push (map (λ p. p.now) (take i parts)) part.now in
    subst (λ (m : List ℕ). Holds256 c.update-in-loop-part.new.self m) (append_assoc front before part.now ∙ ap (λ m. front ++ m) (sym step)) more

pub returns : goal.returns
unfolding hmac_sha256
returns c =
    let all : take c.loop-part.part-index c.args.parts.now ≡ c.args.parts.now = take_all _ _ (omega arith) in
    let inner = c.finalize.ensures _ c.loop-part.invariant ∙ ap (λ ps. sha256 (masked 0x36 c.args.key.now ++ concat (map (λ part. part.now) ps))) all in
    let outer = c.update-2.ensures _ c.new-outer.ensures in
    let whole = c.finalize-2.ensures _ (c.update-3.ensures _ outer) in
    whole ∙ ap (λ (m : List ℕ). sha256 (m ++ c.finalize.result)) c.masked-2.ensures ∙ ap (λ (m : List ℕ). sha256 (masked 0x5C c.args.key.now ++ m)) inner
