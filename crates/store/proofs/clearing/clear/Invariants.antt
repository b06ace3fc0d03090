use Rattle.std.proofs.Common.{◌≡◌, ◌++◌, drop, replicate}
use Rattle.store.proofs.clearing.clear.Given as goal

-- the cells before the address are cleared, the others as they were
abbrev pub invariant-loop-address : goal.invariant-loop-address
invariant-loop-address g l = g.S.WordStore.cells l.store ≡ replicate l.address 0 ++ drop l.address (g.S.WordStore.cells l.initial.store)
