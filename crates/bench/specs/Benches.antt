-- What three devices on a bench mean, and what each call comes to by the rules of the devices.
use Rattle.std.specs.Prelude.{ℕ, ◌+◌, Bool, true, false, List, [], ◌∷◌, length, Some, None, Ok, Err, Option, Result, ◌==◌}
use Rattle.rules.specs.Numbers.{refusal_number, cause_number}
use Rattle.rules.specs.Calls.{answer_of, left_by}
use Rattle.rules.specs.Stores.{loaded, stored}
use Rattle.rules.specs.Queues.{first_waiting, dropped, added}
use Rattle.rules.specs.Labels.{code_at, printed}
use Rattle.bench.specs.declared.call.Call.{Call}
use Rattle.bench.specs.declared.call.Call.TheVariants as c
use Rattle.bench.specs.declared.call.Reply as replies
use Rattle.bench.specs.declared.call.Reply.TheVariants as r
use Rattle.bench.specs.declared.call.Denial.{Denial}
use Rattle.bench.specs.declared.call.Denial.TheVariants.{Refused, Stopped}

-- the cells, the waiting readings, the codes
pub record Meaning : Type 0 where
  pub cells : List ℕ
  pub waiting : List ℕ
  pub codes : List ℕ

abbrev pub meaning : List ℕ → List ℕ → List ℕ → Meaning
meaning cs ws ls = record { cells = cs; waiting = ws; codes = ls }

-- the number of a denial
abbrev pub denial_number : Denial → ℕ
denial_number (Refused refusal) = refusal_number refusal
denial_number (Stopped cause) = cause_number cause

-- an answer by its denial's number
abbrev pub by_number : Result replies.Reply Denial → Result replies.Reply ℕ
by_number (Ok x) = Ok x
by_number (Err d) = Err (denial_number d)

abbrev pub number : Result ℕ ℕ → Result replies.Reply ℕ
number (Ok n) = Ok (r.Number n)
number (Err e) = Err e

abbrev pub done : Result (Unit {0}) ℕ → Result replies.Reply ℕ
done (Ok x) = Ok r.Done
done (Err e) = Err e

abbrev pub first : Option ℕ → Result replies.Reply ℕ
first (Some n) = Ok (r.Number n)
first None = Ok r.Nothing

abbrev pub answered : Meaning → Call → Result replies.Reply ℕ
answered m (c.Load at) = number (loaded m.cells at)
answered m (c.Store at n) = done (answer_of (stored m.cells at n))
answered m c.First = first (first_waiting m.waiting)
answered m c.Drop = done (answer_of (dropped m.waiting))
answered m (c.Add n) = done (answer_of (added m.waiting n))
answered m c.Count = Ok (r.Number (length m.codes))
answered m (c.Code place) = number (code_at m.codes place)
answered m c.Clear = Ok r.Done
answered m (c.Print code) = done (answer_of (printed m.codes code))

abbrev pub left : Meaning → Call → Meaning
left m (c.Load at) = m
left m (c.Store at n) = record { cells = left_by (stored m.cells at n) m.cells; waiting = m.waiting; codes = m.codes }
left m c.First = m
left m c.Drop = record { cells = m.cells; waiting = left_by (dropped m.waiting) m.waiting; codes = m.codes }
left m (c.Add n) = record { cells = m.cells; waiting = left_by (added m.waiting n) m.waiting; codes = m.codes }
left m c.Count = m
left m (c.Code place) = m
left m c.Clear = record { cells = m.cells; waiting = m.waiting; codes = [] }
left m (c.Print code) = record { cells = m.cells; waiting = m.waiting; codes = left_by (printed m.codes code) m.codes }

abbrev pub same_reply : replies.Reply → replies.Reply → Bool
same_reply r.Done r.Done = true
same_reply r.Done (r.Number n) = false
same_reply r.Done r.Nothing = false
same_reply (r.Number m) r.Done = false
same_reply (r.Number m) (r.Number n) = m == n
same_reply (r.Number m) r.Nothing = false
same_reply r.Nothing r.Done = false
same_reply r.Nothing (r.Number n) = false
same_reply r.Nothing r.Nothing = true

-- whether two answers are the same
abbrev pub same_answer : Result replies.Reply ℕ → Result replies.Reply ℕ → Bool
same_answer (Ok x) (Ok y) = same_reply x y
same_answer (Ok x) (Err e) = false
same_answer (Err d) (Ok y) = false
same_answer (Err d) (Err e) = d == e

abbrev pub one_if : Bool → ℕ
one_if true = 1
one_if false = 0

-- how many of a row of calls are answered alike, each bench going on from what the calls before have left
abbrev pub agreements : Meaning → Meaning → List Call → ℕ
agreements l r [] = 0
agreements l r (call ∷ calls) = one_if (same_answer (answered l call) (answered r call)) + agreements (left l call) (left r call) calls

-- what a row of calls leaves
abbrev pub left_all : Meaning → List Call → Meaning
left_all m [] = m
left_all m (call ∷ calls) = left_all (left m call) calls
