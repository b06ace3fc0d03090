use Rattle.std.proofs.Common.{Ok, Err, arith}
use Rattle.std.proofs.lemmas.Result.{err_from_is_err_and}
use Rattle.compiler.proofs.Finish.{answers, refused_answers, meant}
use Rattle.compiler.proofs.compiling.compile.Goals as goal

pub returns-in_err-plan : goal.returns-in_err-plan
returns-in_err-plan c =
    let p = err_from_is_err_and c.from_residual.result c.from_residual.ensures.1 in
    let a = refused_answers _ c.args.tape.now _ c.in_err-plan.ensures in
    rw (p.1, p.2) (record { answer = a.0; buffer = a.1; meant = meant c.args.text.now c.args.tape.now _ (Err c.in_err-plan.field-0.0) a.0 a.1 })

pub returns : goal.returns
returns c =
    let p = c.in_ok-plan.ensures in
    let a = answers _ _ c.args.tape.now c.put_tape.new.tape c.put_tape.result p.is (omega (arith, p.length, c.if-tape-plan.false)) c.put_tape.ensures in
    record { answer = a.0; buffer = a.1; meant = meant c.args.text.now c.args.tape.now _ (Ok c.put_tape.result) a.0 a.1 }
