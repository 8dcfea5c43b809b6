-- The plain program of the collector, a step a packet. The crate's private functions are proved against
-- it, and no public clause cites it; what it means is in Wire.antt.
use Rattle.std.specs.Prelude.{ℕ, ◌+◌, ◌==◌, ◌||◌, nat_lt, nat_le, List, [], ◌∷◌, ◌++◌, map, take, slice_index, if◌then◌else◌}
use Rattle.hidframe.specs.declared.Packet.{Packet}
use Rattle.hidframe.specs.Packets.{Fields, Initial, Continuation, fields}
use Rattle.hidframe.specs.Frames.{continuation_count}
use Rattle.hidframe.specs.declared.ctaphid.TheConstants.{CTAPHID_CBOR, CTAPHID_ERROR, CTAPHID_KEEPALIVE, MAX_PAYLOAD_SIZE, STATUS_PROCESSING, STATUS_UPNEEDED}
use Rattle.hidlink.specs.declared.collection.DeadKind.TheVariants.{WrongCommand, BadLength, BadKeepalive, StrayContinuation, WrongSequence, Interrupted}
use Rattle.hidlink.specs.Wire.{Shown, Waiting, Receiving, Replied, Failed, Died, on, channel_of}

abbrev pub received : ℕ → ℕ → List ℕ → Shown
received len next bytes = if nat_lt next (continuation_count len) then Receiving len next bytes else Replied (take len bytes)

abbrev pub opened : ℕ → ℕ → List ℕ → Shown
opened cmd len area =
    if cmd == CTAPHID_CBOR then (if nat_le len MAX_PAYLOAD_SIZE then received len 0 area else Died BadLength)
    else (if cmd == CTAPHID_ERROR then (if len == 1 then Failed (slice_index area 0) else Died BadLength)
    else (if cmd == CTAPHID_KEEPALIVE then (if len == 1
    then (if slice_index area 0 == STATUS_PROCESSING || slice_index area 0 == STATUS_UPNEEDED then Waiting else Died BadKeepalive) else Died BadLength)
    else Died WrongCommand))

unfoldable pub on_channel : Shown → Fields → Shown
on_channel Waiting (Initial cid cmd len area) = opened cmd len area
on_channel Waiting (Continuation cid seq area) = Died StrayContinuation
on_channel (Receiving len next bytes) (Initial cid cmd more area) = Died Interrupted
on_channel (Receiving len next bytes) (Continuation cid seq area) = if seq == next then received len (next + 1) (bytes ++ area) else Died WrongSequence
on_channel (Replied m) f = Replied m
on_channel (Failed code) f = Failed code
on_channel (Died kind) f = Died kind

abbrev pub step : ℕ → Shown → Fields → Shown
step c s f = if channel_of f == c then on_channel s f else s

abbrev pub run : Shown → List Fields → Shown
run s [] = s
run s (f ∷ fs) = run (on_channel s f) fs

-- what a collector of channel c shows after these packets
abbrev pub state : ℕ → List Packet → Shown
state c ps = run Waiting (map fields (on c ps))

-- it shows an end, after which nothing comes
abbrev pub IsEnded : Shown → Type 0
IsEnded Waiting = ⊥
IsEnded (Receiving len next bytes) = ⊥
IsEnded (Replied m) = Unit {0}
IsEnded (Failed code) = Unit {0}
IsEnded (Died kind) = Unit {0}
