use Rattle.std.proofs.Common.{◌≡◌, ◌^◌, ◌<◌, drop, ap, ◌∙◌, arith}
use Rattle.std.specs.List.{slice_get}
use Rattle.std.proofs.lemmas.List.{drop-drop}
use Rattle.rules.proofs.Each.{each_drop}
use Rattle.digits.specs.Text.{line_of}
use Rattle.digits.proofs.Keeping.{get_front, get_past}
use Rattle.digits.proofs.line.NumberLine.get.Goals as goal

pub loop-init : goal.loop-init
loop-init g c = (omega arith, c.as_bytes-rest.ensures.bytes, c.as_bytes-rest.ensures.below)

pub returns-in_err-rest : goal.returns-in_err-rest
returns-in_err-rest g c =
    let ns = c.args.self.now in
    let k = c.loop.counter in
    let b = c.in_err-rest.ensures (drop k ns) (each_drop (λ n. n < 2 ^ 64) ns k c.loop.invariant.2) c.loop.invariant.1 in
    c.from_residual.ensures ∙ get_past ns c.args.index k b c.loop.invariant.0

pub loop-preserved : goal.loop-preserved
loop-preserved g c =
    let ns = c.args.self.now in
    let k = c.loop.counter in
    let b = c.in_ok-rest.ensures (drop k ns) (each_drop (λ n. n < 2 ^ 64) ns k c.loop.invariant.2) c.loop.invariant.1 in
    (omega arith, b.1 ∙ ap line_of (drop-drop 1 k ns), c.loop.invariant.2)

pub returns : goal.returns
returns g c =
    let ns = c.args.self.now in
    let k = c.loop.counter in
    let e : k ≡ c.args.index = omega arith in
    c.first_number.ensures (drop k ns) (each_drop (λ n. n < 2 ^ 64) ns k c.loop.invariant.2) c.loop.invariant.1
    ∙ get_front ns k ∙ ap (slice_get ns) e
