-- What a text compiles to: its tape, or the one refusal.
use Rattle.std.specs.Prelude.{ℕ, cond, List, [], ◌++◌, length, drop, Some, None, Ok, Err, Option, Result, nat_le}
use Rattle.rules.specs.declared.refusal.Report.{Report}
use Rattle.rules.specs.declared.refusal.TextRefusal.{TextRefusal}
use Rattle.rules.specs.Refusals.{report, reported}
use Rattle.rules.specs.Tree.{Program}
use Rattle.rules.specs.Texts.{Parsed, program, refused, parsed, text_limit}
use Rattle.rules.specs.Mentions.{program_mentions, first_loose, first_past, constants_of}
use Rattle.rules.specs.Operations.{first_over}
use Rattle.rules.specs.Words.{tape_of}

pub data Outcome : Type 0 where
  tape : List ℕ → Outcome
  refuse : Report → Outcome

abbrev pub unless : Option Report → Outcome → Outcome
unless None o = o
unless (Some r) o = refuse r

-- after all lines: 7, then 8, then 9
abbrev pub judged : Program → Outcome
judged ks = unless (first_loose ks (program_mentions 1 ks)) (unless (first_past (program_mentions 1 ks) []) (unless (first_over 0 1 ks) (tape (tape_of (constants_of ks) ks))))

abbrev pub on_parsed : Parsed → Outcome
on_parsed (program ks) = judged ks
on_parsed (refused r) = refuse r

unfoldable pub compiled : List ℕ → Outcome
compiled text = cond (nat_le (length text) text_limit) (on_parsed (parsed text)) (refuse (report 1 0 0))

-- an answer by its refusal's number, line and place
abbrev pub told : Result ℕ TextRefusal → Result ℕ Report
told (Ok n) = Ok n
told (Err e) = Err (reported e)

-- what a call answers that is lent a buffer of so many words
abbrev pub answered : Outcome → ℕ → Result ℕ Report
answered (tape ws) room = cond (nat_le (length ws) room) (Ok (length ws)) (Err (report 10 0 0))
answered (refuse r) room = Err r

-- what the buffer then holds: beyond the tape, and on a refusal, what it held
abbrev pub buffered : Outcome → List ℕ → List ℕ
buffered (tape ws) old = cond (nat_le (length ws) (length old)) (ws ++ drop (length ws) old) old
buffered (refuse r) old = old
