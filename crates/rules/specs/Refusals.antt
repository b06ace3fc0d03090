-- The number, line and place of each refusal of a text.
use Rattle.std.specs.Prelude.{ℕ, List, ◌∷◌, ◌++◌, codes, decimal}
use Rattle.rules.specs.declared.refusal.Report.{Report}
use Rattle.rules.specs.declared.refusal.Fault.{Fault}
use Rattle.rules.specs.declared.refusal.Fault.TheVariants.{LineEndMissing, ByteOutOfPlace, BadConstant, NestedTooDeep}
use Rattle.rules.specs.declared.refusal.TextRefusal.{TextRefusal}
use Rattle.rules.specs.declared.refusal.TextRefusal.TheVariants.{TextTooLong, Unreadable, GroupOutOfPlace, LetterWithoutGroup, TooManyConstants, TooManyInstructions, TapeTooShort}

abbrev pub report : ℕ → ℕ → ℕ → Report
report n l p = record { number = n; at = record { line = l; place = p } }

abbrev pub fault_number : Fault → ℕ
fault_number LineEndMissing = 2
fault_number ByteOutOfPlace = 3
fault_number BadConstant = 4
fault_number NestedTooDeep = 5

-- 0 where no line or no place is named
abbrev pub reported : TextRefusal → Report
reported TextTooLong = report 1 0 0
reported (Unreadable e at) = report (fault_number e) at.line at.place
reported (GroupOutOfPlace at) = report 6 at.line at.place
reported (LetterWithoutGroup at) = report 7 at.line at.place
reported (TooManyConstants at) = report 8 at.line at.place
reported (TooManyInstructions l) = report 9 l 0
reported TapeTooShort = report 10 0 0

-- the refusal of a text whose line fails to be read
abbrev pub placed : Fault → ℕ → ℕ → TextRefusal
placed e l p = Unreadable e (record { line = l; place = p })

-- what is written for a refusal: its number, line and place, by commas
abbrev pub report_text : Report → List ℕ
report_text r = codes "refused," ++ (decimal r.number ++ (44 ∷ (decimal r.at.line ++ (44 ∷ decimal r.at.place))))
