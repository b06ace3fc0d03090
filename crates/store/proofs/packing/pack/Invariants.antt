use Rattle.std.proofs.Common.{◌≡◌, ◌++◌, ◌-◌, length, reverse, take}
use Rattle.store.specs.Packing.{packed, cell_bytes}
use Rattle.store.proofs.packing.pack.Given as goal

-- the pairs still to come, and behind them those that stand, the last first
abbrev pub invariant-loop-byte : goal.invariant-loop-byte
invariant-loop-byte l =
    (length l.byte-items ≡ cell_bytes) × (packed (cell_bytes - l.byte-index) l.rest ++ reverse (take l.byte-index l.byte-items) ≡ packed cell_bytes l.number)
