use Rattle.std.proofs.Common.{ℕ, ap, ◌∙◌, arith}
use Rattle.std.proofs.lemmas.List.{take_all}
use Rattle.rules.specs.Words.{constant_code, constant_words, word}
use Rattle.compiler.proofs.Puts.{wrote_is, constant_room, constant_turn}
use Rattle.compiler.proofs.tape_writer.TapeWriter.put_constants.Goals as goal

pub put-requires : goal.put-requires
put-requires c = omega (arith, constant_room c.args.self.now c.loop-place.self c.as_slice-held.result.now _ c.loop-place.place c.as_slice-held.ensures c.loop-place-test.true c.requires c.loop-place.invariant)

pub put-requires-in-loop-place : goal.put-requires-in-loop-place
put-requires-in-loop-place c = omega (arith, constant_room c.args.self.now c.loop-place.self c.as_slice-held.result.now _ c.loop-place.place c.as_slice-held.ensures c.loop-place-test.true c.requires c.loop-place.invariant, c.put.ensures.count, c.put.ensures.size)

pub loop-place-preserved : goal.loop-place-preserved
loop-place-preserved c = constant_turn c.args.self.now c.loop-place.self _ _ c.as_slice-held.result.now c.loop-place.place c.constant_word.result c.loop-place-test.true c.loop-place.invariant c.put.ensures c.put-in-loop-place.ensures (c.constant_word.ensures ∙ ap (λ (n : ℕ). word 0 constant_code 0 n) c.constant.ensures)

pub returns : goal.returns
returns c =
    let e = ap (constant_words 0) (take_all c.loop-place.place c.as_slice-held.result.now (omega arith) ∙ c.as_slice-held.ensures) in
    wrote_is c.args.self.now c.loop-place.self _ _ e c.loop-place.invariant
