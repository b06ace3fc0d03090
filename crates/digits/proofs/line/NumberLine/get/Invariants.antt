use Rattle.std.proofs.Common.{◌≡◌, ◌≤◌, ◌^◌, drop}
use Rattle.digits.specs.Text.{line_of, Below}
use Rattle.digits.proofs.line.NumberLine.get.Given as goal

-- what is left is the line of the numbers that were not passed
abbrev pub invariant-loop : goal.invariant-loop
invariant-loop g l = (l.counter ≤ l.index) × (l.rest ≡ line_of (drop l.counter l.self)) × Below (2 ^ 64) l.self
