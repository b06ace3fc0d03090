-- What calls and answers are written as.
use Rattle.std.specs.Prelude.{ℕ, List, ◌++◌, Ok, Err, Result, codes, decimal}
use Rattle.bench.specs.declared.call.Call.{Call}
use Rattle.bench.specs.declared.call.Call.TheVariants as c
use Rattle.bench.specs.declared.call.Reply as replies
use Rattle.bench.specs.declared.call.Reply.TheVariants as r

abbrev pub call_text : Call → List ℕ
call_text (c.Load at) = codes "load " ++ decimal at
call_text (c.Store at n) = codes "store " ++ (decimal at ++ (codes " " ++ decimal n))
call_text c.First = codes "first"
call_text c.Drop = codes "drop"
call_text (c.Add n) = codes "add " ++ decimal n
call_text c.Count = codes "count"
call_text (c.Code place) = codes "code " ++ decimal place
call_text c.Clear = codes "clear"
call_text (c.Print code) = codes "print " ++ decimal code

abbrev pub reply_text : replies.Reply → List ℕ
reply_text r.Done = codes "ok"
reply_text (r.Number n) = decimal n
reply_text r.Nothing = codes "none"

abbrev pub denial_text : ℕ → List ℕ
denial_text e = codes "refused," ++ decimal e

abbrev pub answer_text : Result replies.Reply ℕ → List ℕ
answer_text (Ok x) = reply_text x
answer_text (Err e) = denial_text e

abbrev pub row_text : Call → Result replies.Reply ℕ → Result replies.Reply ℕ → List ℕ
row_text call x y = call_text call ++ (codes ": " ++ (answer_text x ++ (codes " | " ++ answer_text y)))
