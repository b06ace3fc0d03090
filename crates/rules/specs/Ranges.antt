-- A number of a range: one of `count` numbers from `first` on.
use Rattle.std.specs.Prelude.{ℕ, ◌+◌, cond, ◌&&◌, Ok, Err, Result, nat_le, nat_lt}
use Rattle.rules.specs.declared.ranged.OutOfRange.{OutOfRange}

-- the number, where it is in the range
abbrev pub ranged : ℕ → ℕ → ℕ → Result ℕ OutOfRange
ranged first count n = cond (nat_le first n && nat_lt n (first + count)) (Ok n) (Err (record {}))
