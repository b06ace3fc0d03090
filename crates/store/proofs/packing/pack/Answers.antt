use Rattle.std.proofs.Common.{◌∙◌}
use Rattle.std.proofs.lemmas.List.{length-set}
use Rattle.store.specs.Pairs.{pack_all, pack_step}
use Rattle.store.proofs.packing.pack.Goals as goal

pub loop-byte-preserved : goal.loop-byte-preserved
loop-byte-preserved c =
    let i = c.loop-byte.invariant in
    (length-set _ _ _ ∙ i.0, pack_step c.loop-byte.byte-items _ c.loop-byte.byte-index c.loop-byte.rest _ c.loop-byte-test.true i.0 c.join_digits.ensures i.1)

pub returns : goal.returns
returns c =
    let i = c.loop-byte.invariant in
    c.reverse.ensures.after ∙ pack_all c.loop-byte.byte-items _ c.loop-byte.byte-index c.loop-byte.rest c.loop-byte-test.false i.0 i.1
