-- The frames of a log are in it.
use Rattle.std.specs.Prelude.{◌≡◌, ℕ, ◌+◌, ◌-◌, ◌*◌, ◌<◌, ◌≤◌, List, length, drop, take}
use Rattle.std.proofs.Common.{arith, inl, inr, ap, ◌∙◌}
use Rattle.std.proofs.lemmas.List.{take_rest}
use Rattle.sqlite_wal.specs.Format.{part, content}
use Rattle.sqlite_wal.specs.Recovery.{AreFramesOf, frame, frames_len}

pub frame_within : (log numbers : List ℕ) (i : ℕ) → AreFramesOf 4096 log numbers → i < length numbers → 32 + i * 4120 + 4120 ≤ length log
unfolding frames_len
frame_within log numbers i frames lt = elim frames.0 [
  | inl none ↦ let is = none.1 in omega (arith, is, lt)
  | inr kept ↦ let le = (kept.0.valid i lt).within in omega (arith, le)
]

-- the page of a frame, as it is read
pub page_is : (log : List ℕ) (i : ℕ) → let read = take (32 + i * 4120 + 4120 - (32 + i * 4120)) (drop (32 + i * 4120) log) in
    take (length read - 24) (drop 24 read) ≡ content (frame 4096 log i)
unfolding frames_len part
page_is log i =
    let at = 32 + i * 4120 in
    let n : at + 4120 - at ≡ 4120 = omega arith in
    take_rest (take (at + 4120 - at) (drop at log)) 24 ∙ ap (λ k. drop 24 (take k (drop at log))) n
