-- The rows of many like calls.
use Rattle.std.specs.Prelude.{ℕ, ◌+◌, ◌-◌, ◌%◌, cond, ◌==◌}
use Rattle.bench.specs.declared.call.Call.{Call}
use Rattle.bench.specs.declared.call.Call.TheVariants as c
use Rattle.devices.specs.declared.many.Many.{Many}
use Rattle.devices.specs.declared.many.Many.TheVariants.{FillStore, ReadStore, FillQueue, TakeAll, FillLabel, ReadLabel}

abbrev pub call_count : Many → ℕ
call_count FillStore = 1000
call_count ReadStore = 1000
call_count FillQueue = 16
call_count TakeAll = 32
call_count FillLabel = 48
call_count ReadLabel = 48

abbrev pub call_at : Many → ℕ → Call
call_at FillStore i = c.Store i (99999999999999 - i)
call_at ReadStore i = c.Load i
call_at FillQueue i = c.Add (i + 1)
call_at TakeAll i = cond (i % 2 == 0) c.First c.Drop
call_at FillLabel i = c.Print (i + 208)
call_at ReadLabel i = c.Code (i + 1)
