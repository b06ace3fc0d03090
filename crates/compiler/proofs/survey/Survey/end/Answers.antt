use Rattle.std.proofs.Common.{◌<◌, ◌≤◌, length, arith}
use Rattle.std.proofs.lemmas.Bool.Decides.{nat_tests}
use Rattle.compiler.proofs.Surveys.{left_end, open_end, closed_end}
use Rattle.compiler.proofs.survey.Survey.end.Goals as goal

pub returns-then-not-is_empty : goal.returns-then-not-is_empty
returns-then-not-is_empty c = λ above k.
    let e = c.if-not-is_empty.ensures in
    let m = c.min-place.ensures in
    let h : 0 < length c.args.rest.now = grind (arith, nat_tests) in
    rw (c.at.ensures, m) (left_end c.args.rest.now above c.args.self.now.lines h k.lines)

pub returns-then-not-all_closed : goal.returns-then-not-all_closed
returns-then-not-all_closed c = λ above k.
    let e = c.if-not-is_empty.ensures in
    let h : length c.args.rest.now ≤ 0 = grind (arith, nat_tests) in
    open_end c.args.rest.now above _ _ h k.lines k.next c.if-not-all_closed.ensures

pub returns : goal.returns
returns c = λ above k.
    let e = c.if-not-is_empty.ensures in
    let h : length c.args.rest.now ≤ 0 = grind (arith, nat_tests) in
    closed_end c.args.rest.now above _ h k.next c.if-not-all_closed.ensures
