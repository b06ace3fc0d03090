use Rattle.std.proofs.Common.{◌≡◌, ◌+◌, get_or, drop, sym, ◌∙◌, arith}
use Rattle.std.proofs.lemmas.Result.{err_from_is_err_and}
use Rattle.rules.specs.Reading.{is_digit}
use Rattle.compiler.specs.Held.{table}
use Rattle.compiler.specs.Scan.{scan}
use Rattle.compiler.specs.Mentioned.{Alike}
use Rattle.compiler.proofs.Takes.{past_inside, past_other, past_begun, past_full, past_end}
use Rattle.compiler.proofs.constants.Constants.take_side.Goals as goal
use Rattle.compiler.proofs.constants.Constants.take_side.Goals.{then-digit+then-outside+in_ok-take_first, else-digit, else-digit-via-then-digit+else-outside, else-digit-via-else-digit}

pub returns-in_err-take_first : goal.returns-in_err-take_first
returns-in_err-take_first c =
    let p = err_from_is_err_and c.from_residual.result c.from_residual.ensures.1 in
    let t = c.if-outside.true in
    rw (p.1, p.2) (c.loop-i.invariant.0 ∙ rw t (past_full c.args.line c.loop-i.i c.args.side.now (table c.loop-i.self) _ c.loop-i-test.true (sym c.is_digit-digit.ensures ∙ c.if-digit.true) c.in_err-take_first.ensures))

pub loop-i-preserved : goal.loop-i-preserved
loop-i-preserved c =
    let l = c.args.line in
    let i = c.loop-i.i in
    let side = c.args.side.now in
    let e : c.is_digit-digit.result ≡ is_digit (get_or side i 0) = c.is_digit-digit.ensures in
    let t : Alike (scan l c.loop-i.inside (3 + i) (drop i side)) (table c.loop-i.self) (scan l c.if-digit.inside (3 + (i + 1)) (drop (i + 1) side)) (table c.if-digit.self) = elim c.if-digit.branch [
      | then-digit+then-outside+in_ok-take_first w ↦ rw (w.self-is, w.inside-is, w.if-digit.true, w.if-outside.true) (past_begun l i side (table c.loop-i.self) (table w.take_first.new.self) c.loop-i-test.true (sym e ∙ w.if-digit.true) w.in_ok-take_first.ensures)
      | else-digit w ↦ elim w.else-digit.branch [
        | else-digit-via-then-digit+else-outside v ↦ rw (w.self-is, w.inside-is, v.if-digit.true, v.if-outside.false) (past_inside l i side (table c.loop-i.self) c.loop-i-test.true (sym e ∙ v.if-digit.true))
        | else-digit-via-else-digit v ↦ rw (w.self-is, w.inside-is, v.if-digit.false) (past_other l i c.loop-i.inside side (table c.loop-i.self) c.loop-i-test.true c.loop-i.self.few (sym e ∙ v.if-digit.false))
      ]
    ] in
    (c.loop-i.invariant.0 ∙ t.0, c.loop-i.invariant.1 ∙ t.1)

pub returns : goal.returns
returns c =
    let e = past_end c.args.line c.loop-i.i c.loop-i.inside c.args.side.now (table c.loop-i.self) (omega arith) in
    (c.loop-i.invariant.0 ∙ e.0, sym (c.loop-i.invariant.1 ∙ e.1))
