use Rattle.std.proofs.Common.{◌≡◌, length, arith}
use Rattle.tapelist.proofs.Answered.{listed_tape, listed_refusal, shortened}
use Rattle.tapelist.proofs.tape_of.Goals as goal

pub returns-in-Ok : goal.returns-in-Ok
returns-in-Ok c =
    let h : length c.compile.new.tape ≡ c.in_ok-tape.tape.len = omega (arith, c.compile.auto.tape, c.deref_mut.ensures.len) in
    shortened _ c.compile.new.tape _ _ c.in-Ok.length c.in_ok-tape.tape.len h c.truncate.ensures.items (listed_tape _ c.deref_mut.result.now c.compile.new.tape c.in-Ok.length c.in-Ok.ensures.answer c.in-Ok.ensures.buffer)

pub returns-in-Err : goal.returns-in-Err
returns-in-Err c = listed_refusal c.args.text.now c.deref_mut.result.now c.in-Err.refusal (omega (arith, c.deref_mut.ensures.len, c.in_ok-tape.ensures.len)) c.in-Err.ensures.answer
