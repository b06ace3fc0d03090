use Rattle.std.proofs.Common.{length, ap}
use Rattle.std.proofs.lemmas.Result.{err_from_is_err_and}
use Rattle.rules.specs.Texts.{cut}
use Rattle.compiler.specs.Held.{table}
use Rattle.compiler.specs.Lines.{read_lines}
use Rattle.compiler.proofs.Finish.{compiled_long, compiled_refused, readable, its_marks, compiled_loose, fine, compiled_past, compiled_over, compiled_tape, its_length}
use Rattle.compiler.proofs.compiling.plan_of.Goals as goal

pub returns-then-text-gt-TEXT_LIMIT : goal.returns-then-text-gt-TEXT_LIMIT
returns-then-text-gt-TEXT_LIMIT c = compiled_long _ c.if-text-gt-TEXT_LIMIT.true

pub returns-in_err-found : goal.returns-in_err-found
returns-in_err-found c =
    let p = err_from_is_err_and c.from_residual.result c.from_residual.ensures.1 in
    rw (p.1, p.2) (compiled_refused _ _ c.if-text-gt-TEXT_LIMIT.false c.in_err-found.ensures)

pub check_letters-requires : goal.check_letters-requires
check_letters-requires c = let s = c.in_ok-found.ensures in readable c.args.text.now s.0 s.1

pub returns-in_err-check_letters : goal.returns-in_err-check_letters
returns-in_err-check_letters c =
    let p = err_from_is_err_and c.from_residual-in_err-check_letters.result c.from_residual-in_err-check_letters.ensures.1 in
    let s = c.in_ok-found.ensures in
    rw (p.1, p.2) (compiled_loose c.args.text.now s.0 _ c.if-text-gt-TEXT_LIMIT.false s.1 (c.in_err-check_letters.ensures (read_lines (cut c.args.text.now)) (its_marks c.in_ok-found.found c.args.text.now s.0 s.1 s.2)))

pub take_constants-requires : goal.take_constants-requires
take_constants-requires c = let s = c.in_ok-found.ensures in readable c.args.text.now s.0 s.1

pub returns-in_err-constants : goal.returns-in_err-constants
returns-in_err-constants c =
    let p = err_from_is_err_and c.from_residual-in_err-constants.result c.from_residual-in_err-constants.ensures.1 in
    let s = c.in_ok-found.ensures in
    let f = fine c.in_ok-found.found c.args.text.now s.0 c.if-text-gt-TEXT_LIMIT.false s.1 s.2 c.in_ok-check_letters.ensures in
    rw (p.1, p.2) (compiled_past c.args.text.now s.0 _ f c.in_err-constants.ensures)

pub returns-in-Some : goal.returns-in-Some
returns-in-Some c =
    let s = c.in_ok-found.ensures in
    let f = fine c.in_ok-found.found c.args.text.now s.0 c.if-text-gt-TEXT_LIMIT.false s.1 s.2 c.in_ok-check_letters.ensures in
    compiled_over c.in_ok-found.found c.args.text.now s.0 (table c.in_ok-constants.constants) c.in-Some.line f c.in_ok-constants.ensures s.2 c.in-Some.is

pub returns : goal.returns
returns c =
    let s = c.in_ok-found.ensures in
    let f = fine c.in_ok-found.found c.args.text.now s.0 c.if-text-gt-TEXT_LIMIT.false s.1 s.2 c.in_ok-check_letters.ensures in
    record {
      is = compiled_tape c.in_ok-found.found c.args.text.now s.0 (table c.in_ok-constants.constants) f c.in_ok-constants.ensures s.2 c.in_default.is;
      readable = readable c.args.text.now s.0 s.1;
      length = its_length c.in_ok-found.found c.args.text.now s.0 (table c.in_ok-constants.constants) _ s.1 s.2 (ap length c.as_slice.ensures);
    }
