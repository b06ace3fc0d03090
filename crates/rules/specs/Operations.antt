-- The operations of a pair in the order in which they are worked, and the temporaries that hold their results.
use Rattle.std.specs.Prelude.{ℕ, suc, ◌+◌, cond, List, [], ◌∷◌, ◌++◌, length, Some, None, Option, nat_le}
use Rattle.rules.specs.declared.sign.Sign.{Sign}
use Rattle.rules.specs.declared.operation.Source.{Source}
use Rattle.rules.specs.declared.operation.Source.TheVariants.{Named, Temporary}
use Rattle.rules.specs.declared.operation.Operation.{Operation}
use Rattle.rules.specs.declared.operation.SideKind as kinds
use Rattle.rules.specs.declared.operation.SideKind.TheVariants as k
use Rattle.rules.specs.declared.operation.LineParts.{LineParts}
use Rattle.rules.specs.declared.refusal.Report.{Report}
use Rattle.rules.specs.Refusals.{report}
use Rattle.rules.specs.Tree.{Operand, atom, pair, Side, reading, single, both, Line, Program}

-- where an operand is found with w results waiting: a pair's own result has become the next temporary
abbrev pub source : Operand → ℕ → Source
source (atom x) w = Named x
source (pair l s r) w = Temporary w

-- how many results wait once an operand is at hand
abbrev pub waiting_after : Source → ℕ → ℕ
waiting_after (Named x) w = w
waiting_after (Temporary t) w = w + 1

-- the pair's own operation uses the operands' results up before its own waits
abbrev pub operation : Source → Sign → Operand → ℕ → Operation
operation left s r w = record { left = left; sign = s; right = source r (waiting_after left w); result = w }

-- those of the left operand, those of the right, then the pair's own
abbrev pub operations : Operand → ℕ → List Operation
operations (atom x) w = []
operations (pair l s r) w = operations l w ++ (operations r (waiting_after (source l w) w) ++ (operation (source l w) s r w ∷ []))

abbrev pub side_operations : Side → List Operation
side_operations reading = []
side_operations (single x) = []
side_operations (both l s r) = operations (pair l s r) 0

abbrev pub side_kind : Side → kinds.SideKind
side_kind reading = k.Reading
side_kind (single x) = k.Single x
side_kind (both l s r) = k.Pair

abbrev pub line_parts : Line → LineParts
line_parts l = record { group = l.group; side = side_kind l.side; target = l.target }

-- a line without operation is one instruction
abbrev pub side_count : Side → ℕ
side_count reading = 1
side_count (single x) = 1
side_count (both l s r) = length (operations (pair l s r) 0)

abbrev pub instructions : Program → ℕ
instructions [] = 0
instructions (k ∷ ks) = side_count k.side + instructions ks

abbrev pub instruction_limit : ℕ
instruction_limit = 372

-- the line of the first instruction past the limit, w standing above line l
abbrev pub first_over : ℕ → ℕ → Program → Option Report
first_over w l [] = None
first_over w l (k ∷ ks) = cond (nat_le (w + side_count k.side) instruction_limit) (first_over (w + side_count k.side) (suc l) ks) (Some (report 9 l 0))
