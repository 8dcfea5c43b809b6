-- A device has at most 65,535 channels.
use Rattle.std.proofs.Common.{◌≡◌, ◌≢◌, ℕ, ◌+◌, ◌≤◌, false, cond, List, [], ◌∷◌, sym, subst, arith}
use Rattle.std.specs.Prelude.{◌==◌}
use Rattle.std.proofs.lemmas.Bool.{cond_both, eqb-true}
use Rattle.hidframe.specs.Packets.{Fields, Initial, Continuation, fields}
use Rattle.hidlink.specs.declared.arbitration.Arbitration.{Arbitration}
use Rattle.hidlink.specs.declared.arbitration.Arbitration.TheVariants.{Refused, NewChannel}
use Rattle.hidlink.specs.Ranks.{TransactionState, Idle, chosen, rank}
use Rattle.hidlink.specs.History.{Answered, DeviceCall, Expired, Kept, Leaves, Took, assigns, channels, channels_after}
use Rattle.hidlink.proofs.Lines.{Rests, first_line}

-- a packet of rank 6 comes only where there is another channel
another_left : (n c cmd len : ℕ) → rank n Idle c cmd len ≡ 6 → n ≢ 65535
another_left n c cmd len six = by (chosen n Idle c cmd len) (first_line n Idle c cmd len)
  where
    by : (a : Arbitration) → Rests n false false false c cmd (rank n Idle c cmd len) a → n ≢ 65535
    by (Refused code) r = absurd (r.0 six)
    by NewChannel r = r.3
    by _ r = absurd (omega arith)

one_more : (n : ℕ) (f : Fields) → n ≤ 65535 → cond (assigns n f) (n + 1) n ≤ 65535
one_more n (Initial c cmd len area) h = cond_both (rank n Idle c cmd len == 6) (n + 1) n (λ k. k ≤ 65535)
    (λ six. let free : n ≢ 65535 = another_left n c cmd len (eqb-true (rank n Idle c cmd len) 6 six) in omega arith)
    (λ other. h)
one_more n (Continuation c seq area) h = h

after_part : (n : ℕ) (part : List DeviceCall) → n ≤ 65535 → channels_after n part ≤ 65535
after_part n [] h = h
after_part n (Took p ∷ []) h = one_more n (fields p) h
after_part n (Answered m ∷ []) h = h
after_part n (Kept status ∷ []) h = h
after_part n (Expired ∷ []) h = h
after_part n (x ∷ y ∷ zs) h = h

after_parts : (n : ℕ) (parts : List (List DeviceCall)) → n ≤ 65535 → channels n parts ≤ 65535
after_parts n [] h = h
after_parts n (part ∷ parts) h = after_parts (channels_after n part) parts (after_part n part h)

pub at_most : (h : List DeviceCall) (n : ℕ) (s : TransactionState) → Leaves h n s → n ≤ 65535
at_most h n s l = subst (λ (k : ℕ). k ≤ 65535) (sym l.out) (after_parts 0 l.parts (omega arith))
