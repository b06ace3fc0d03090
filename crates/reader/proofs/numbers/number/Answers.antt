use Rattle.std.proofs.Common.{◌+◌, ◌-◌, ◌*◌, get_or, arith, rules}
use Rattle.std.proofs.lemmas.List.Sums.{fold_more}
use Rattle.std.proofs.lemmas.List.{take_all}
use Rattle.reader.proofs.Tens.{ten_fits, ten_more}
use Rattle.reader.proofs.numbers.number.Goals as goal

pub overflow_mul-number : goal.overflow_mul-number
overflow_mul-number c = omega (arith, ten_fits c.loop-d.number c.loop-d.d-index 0 c.loop-d.invariant.1 (omega arith) (omega arith))

pub overflow_sub-d : goal.overflow_sub-d
overflow_sub-d c = (c.requires.digits _ c.loop-d-test.true).0

pub overflow_add-number : goal.overflow_add-number
overflow_add-number c =
    let b = c.requires.digits _ c.loop-d-test.true in
    omega (arith, ten_fits c.loop-d.number c.loop-d.d-index (get_or c.args.digits.now c.loop-d.d-index 0 - 48) c.loop-d.invariant.1 (omega arith) (omega arith))

pub loop-d-preserved : goal.loop-d-preserved
loop-d-preserved c =
    let b = c.requires.digits _ c.loop-d-test.true in
    let f = fold_more (λ n d. n * 10 + (d - 48)) 0 c.args.digits.now c.loop-d.d-index 0 c.loop-d-test.true in
    (cc (f, c.loop-d.invariant.0), ten_more _ _ _ c.loop-d.invariant.1 (omega arith))

pub returns : goal.returns
returns c = search (rules, take_all)
