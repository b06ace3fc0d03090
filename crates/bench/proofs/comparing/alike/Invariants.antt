use Rattle.std.proofs.Common.{◌≡◌, ◌+◌, ◌≤◌, drop}
use Rattle.bench.specs.Benches.{agreements, left_all}
use Rattle.bench.proofs.comparing.alike.Given as goal

-- the calls still to come leave what all of them leave, and those counted with those still to be counted are all that agree
abbrev pub invariant-loop-call : goal.invariant-loop-call
invariant-loop-call g l =
    (left_all (g.A.Devices.means l.a) (drop l.call-index l.calls) ≡ left_all (g.A.Devices.means l.initial.a) l.calls)
    × (left_all (g.B.Devices.means l.b) (drop l.call-index l.calls) ≡ left_all (g.B.Devices.means l.initial.b) l.calls)
    × (l.same ≤ l.call-index)
    × (l.same + agreements (g.A.Devices.means l.a) (g.B.Devices.means l.b) (drop l.call-index l.calls) ≡ agreements (g.A.Devices.means l.initial.a) (g.B.Devices.means l.initial.b) l.calls)
