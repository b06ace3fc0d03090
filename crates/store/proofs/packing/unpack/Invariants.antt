use Rattle.std.proofs.Common.{◌≡◌, ◌^◌, ◌<◌, drop}
use Rattle.store.specs.Packing.{unpacked_on, unpacked}
use Rattle.store.proofs.packing.unpack.Given as goal

-- reading on from here gives what reading from the start gives, and two digits a byte have been read
abbrev pub invariant-loop-byte : goal.invariant-loop-byte
invariant-loop-byte l = (unpacked_on l.number (drop l.byte-index l.byte-items) ≡ unpacked l.fn.bytes) × (l.number < 100 ^ l.byte-index)
