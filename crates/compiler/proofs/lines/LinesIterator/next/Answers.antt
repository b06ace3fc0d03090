use Rattle.std.proofs.Common.{refl, arith}
use Rattle.compiler.proofs.Cuts.{cut_tail, cut_parts}
use Rattle.compiler.proofs.lines.LinesIterator.next.Goals as goal

pub returns-in_err-_end-clause-steps : goal.returns-in_err-_end-clause-steps
returns-in_err-_end-clause-steps c =
    rw c.from_residual.ensures (cut_tail c.args.self.now.rest.now (omega (arith, c.line_length.ensures.is, c.split_at.ensures.back_len, c.in_err-_end.ensures.cases)), refl)

pub returns-clause-steps : goal.returns-clause-steps
returns-clause-steps c =
    let k = c.in_ok-_end.ensures.cases in
    (cut_parts c.args.self.now.rest.now _ _ _ c.line_length.result _ c.line_length.ensures.is (omega (arith, k.1, c.split_at.ensures.back_len)) c.split_at.ensures.front c.split_at.ensures.back k.0, omega (arith, k.1, c.split_at.ensures.front_len, c.split_at.ensures.back_len))
