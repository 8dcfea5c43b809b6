-- What is owed of `padded_packet`.
use Rattle.std.proofs.Common.{◌≡◌, ◌≤◌, ◌+◌, ◌++◌, List, ℕ, length, drop, ◌-◌, ◌∙◌, ap, arith, refl}
use Rattle.std.specs.Prelude.{replicate}
use borrow.Rule.Slice.PartMut.{put_mid}
use Rattle.std.proofs.lemmas.List.{take_at, drop_at, drop-replicate}
use Rattle.hidframe.proofs.frames.padded_packet.Goals as goal

lay : (head bytes zeros x y : List ℕ) → zeros ≡ replicate 64 0 → length head + length bytes ≤ 64 → x ≡ head → y ≡ bytes
    → put_mid (length head) (length head + length bytes - length head) (put_mid 0 (length head) zeros x) y
    ≡ head ++ (bytes ++ replicate (64 - length head - length bytes) 0)
lay head bytes zeros x y e h ex ey =
    ap (λ z. put_mid (length head) (length head + length bytes - length head) (put_mid 0 (length head) zeros z) y) ex
    ∙ ap (λ z. put_mid (length head) (length head + length bytes - length head) (put_mid 0 (length head) zeros head) z) ey
    ∙ ap (λ z. put_mid (length head) (length head + length bytes - length head) (put_mid 0 (length head) z head) bytes) e
    ∙ rest (length head + length bytes - length head) (omega arith)
  where
    rest : (b : ℕ) → b ≡ length bytes
        → put_mid (length head) b (put_mid 0 (length head) (replicate 64 0) head) bytes ≡ head ++ (bytes ++ replicate (64 - length head - length bytes) 0)
    rest b same =
        ap (λ z. z ++ (bytes ++ drop b (drop (length head) (head ++ drop (length head) (replicate 64 0)))))
        (take_at head (drop (length head) (replicate 64 0)) (length head) refl)
        ∙ ap (λ z. head ++ (bytes ++ drop b z)) (drop_at head (drop (length head) (replicate 64 0)) (length head) refl ∙ drop-replicate (length head) 64 0)
        ∙ ap (λ z. head ++ (bytes ++ z)) (drop-replicate b (64 - length head) 0 ∙ ap (λ n. replicate (64 - length head - n) 0) same)

pub returns : goal.returns
returns c = lay c.args.head.now c.args.bytes.now _ c.copy_from_slice.new.self c.copy_from_slice-2.new.self refl c.requires c.copy_from_slice.ensures.after
    c.copy_from_slice-2.ensures.after
