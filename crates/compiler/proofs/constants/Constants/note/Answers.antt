use Rattle.std.proofs.Common.{ℕ, eqb, sym, ap, ◌∙◌}
use Rattle.std.specs.List.{list_any}
use Rattle.arrayvec.specs.ArrayVec.{ArrayVec}
use Rattle.compiler.proofs.Tables.{noted_there, pushed}
use Rattle.compiler.proofs.constants.Constants.note.Goals as goal

pub returns-then-contains : goal.returns-then-contains
returns-then-contains c =
    let e = sym c.contains.ensures.value ∙ c.if-contains.true in
    rw (sym c.as_slice.ensures) (noted_there c.as_slice.result.now c.args.number e)

pub returns : goal.returns
returns c =
    let e = sym (ap (list_any (λ y. eqb y c.args.number)) c.as_slice.ensures) ∙ (sym c.contains.ensures.value ∙ c.if-contains.false) in
    pushed c.try_push.result (λ (v : ArrayVec ℕ). v.items) c.args.self.now.numbers c.try_push.new.self c.args.number e c.try_push.ensures.ok c.try_push.ensures.err c.try_push.ensures.full
