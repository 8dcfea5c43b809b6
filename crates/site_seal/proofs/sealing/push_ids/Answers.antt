-- What is owed of `push_ids`.
use Rattle.std.proofs.Common.{◌≡◌, ◌++◌, ◌+◌, ◌<◌, ◌∷◌, [], ℕ, List, Global, Vec, length, map, take, get_or, sym, ap, ◌∙◌, arith}
use Rattle.std.specs.List.{concat}
use Rattle.std.proofs.lemmas.List.{append_assoc, map_more, map_push}
use Rattle.site_seal.specs.Seal.{id_hash}
use Rattle.site_seal.proofs.Bytes.{concat_push}
use Rattle.site_seal.proofs.sealing.push_ids.Goals as goal

pub loop-id-preserved : goal.loop-id-preserved
loop-id-preserved c =
    let i = c.loop-id.id-index in
    let ids = c.args.session.now.allow.items in
    let id = c.id-item.result in
    let f = id_hash c.args.key.now c.args.session.now.challenge in
    let before = map (λ (v : Vec ℕ Global). v.items) (take i ids) in
    let slice = c.deref-id-items.ensures.value in
    let at : id ≡ get_or ids i id = c.id-item.is ∙ ap (λ (l : List (Vec ℕ Global)). get_or l i id) slice in
    let within : i < length ids = omega (arith, c.loop-id-test.true, ap length slice) in
    let more : map (λ (v : Vec ℕ Global). v.items) (take (i + 1) ids) ≡ before ++ id.items ∷ [] =
    map_more (λ (v : Vec ℕ Global). v.items) ids i id within ∙ ap (λ (v : Vec ℕ Global). before ++ v.items ∷ []) (sym at) in
    let step : concat (map f (map (λ (v : Vec ℕ Global). v.items) (take (i + 1) ids))) ≡ concat (map f before) ++ f id.items =
    ap (λ (l : List (List ℕ)). concat (map f l)) more ∙ ap concat (map_push f before id.items) ∙ concat_push (map f before) (f id.items) in
    let hash : c.id_hash.result ≡ f id.items = c.id_hash.ensures ∙ ap f c.deref.ensures.value in
    let old = c.args.text.now.items in
    cc (c.in_ok-extend_from_slice.ensures.items, c.loop-id.invariant, hash, step, append_assoc old (concat (map f before)) (f id.items))
