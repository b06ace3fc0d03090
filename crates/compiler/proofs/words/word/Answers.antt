use Rattle.std.proofs.Common.{arith}
use Rattle.rules.specs.Words.{word}
use Rattle.compiler.proofs.words.word.Goals as goal

pub returns : goal.returns
unfolding word
returns c = omega (arith, c.left.view_is, c.right.view_is, c.target.view_is, c.from.ensures)
