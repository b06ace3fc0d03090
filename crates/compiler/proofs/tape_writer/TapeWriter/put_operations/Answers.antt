use Rattle.std.proofs.Common.{arith}
use Rattle.compiler.proofs.Puts.{operation_room, operation_turn, operations_all}
use Rattle.compiler.proofs.tape_writer.TapeWriter.put_operations.Goals as goal

pub put-requires : goal.put-requires
put-requires c =
    let k = c.in-Some.ensures.cases in
    omega (arith, operation_room c.args.self.now c.loop-operation.self _ _ _ c.loop-operation.operation-index _ c.in-Some.others.now _ k.0 c.loop-operation.auto.operation-index-end c.requires c.loop-operation.invariant)

pub loop-operation-preserved : goal.loop-operation-preserved
loop-operation-preserved c = operation_turn c.args.self.now c.loop-operation.self c.put.new.self c.in-Some.others.now c.loop-operation.operation-index c.temporary-temporary.result c.operation_word.result _ c.loop-operation-test.true c.loop-operation.invariant c.temporary-temporary.ensures c.operation_word.ensures c.put.ensures

pub put-requires-2 : goal.put-requires-2
put-requires-2 c =
    let k = c.in-Some.ensures.cases in
    omega (arith, operation_room c.args.self.now c.loop-operation.self _ _ _ c.loop-operation.operation-index _ c.in-Some.others.now _ k.0 c.loop-operation.auto.operation-index-end c.requires c.loop-operation.invariant)

pub returns : goal.returns
returns c =
    let k = c.in-Some.ensures.cases in
    operations_all c.args.self.now c.loop-operation.self c.put-2.new.self c.args.target c.operation_word-2.result c.loop-operation.operation-index c.args.operations.now c.in-Some.others.now c.in-Some.last.now k.0 (omega arith) c.loop-operation.invariant c.operation_word-2.ensures c.put-2.ensures
