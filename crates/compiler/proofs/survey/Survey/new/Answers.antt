use Rattle.std.proofs.Common.{refl, arith}
use Rattle.compiler.proofs.Surveys.{marks_none}
use Rattle.compiler.proofs.survey.Survey.new.Goals as goal

pub returns : goal.returns
returns c = record { marks = marks_none _ c.new.ensures.0; next = c.new.ensures.1; lines = refl; last = refl; over = λ below. refl; words = λ cs below. omega arith }
