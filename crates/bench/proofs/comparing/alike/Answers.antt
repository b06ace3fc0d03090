use Rattle.std.proofs.Common.{arith}
use Rattle.std.proofs.lemmas.List.{at_drop_all}
use Rattle.bench.specs.Benches.{agreements}
use Rattle.bench.proofs.Agreeing.{agree_same}
use Rattle.bench.proofs.comparing.alike.Goals as goal

-- no call is left to be counted
pub returns-clause-all : goal.returns-clause-all
returns-clause-all g c =
    let l = g.A.Devices.means c.loop-call.a in
    let r = g.B.Devices.means c.loop-call.b in
    let z = at_drop_all (agreements l r) c.args.calls.now c.loop-call.call-index c.loop-call-test.false in
    let i = c.loop-call.invariant in
    agree_same _ _ c.args.calls.now c.loop-call.same (omega (arith, i, z))
