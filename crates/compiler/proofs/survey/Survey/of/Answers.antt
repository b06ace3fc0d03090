use Rattle.std.proofs.Common.{◌∷◌, ap, ◌∙◌, arith}
use Rattle.rules.specs.Texts.{Text, cut, parsed_from}
use Rattle.compiler.proofs.survey.Survey.of.Goals as goal

pub loop-bytes-preserved : goal.loop-bytes-preserved
loop-bytes-preserved c =
    let i = c.loop-bytes.invariant.1 in
    let s = c.in-Some.ensures.steps in
    let o = c.in_ok-add.ensures.reads i.0 (cut c.next.new.self.rest.now) i.2 in
    (omega (arith, c.loop-bytes.invariant.0, s.1, c.in_ok-add.ensures.lines), (o.0 ∷ i.0, i.1 ∙ (ap (λ (t : Text). parsed_from t i.0) s.0 ∙ o.1), o.2))
