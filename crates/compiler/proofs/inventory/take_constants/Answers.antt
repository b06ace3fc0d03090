use Rattle.std.proofs.Common.{ℕ, suc, false, List, drop, sym, ap, ◌∙◌, inl, inr, length-drop, arith}
use Rattle.std.proofs.lemmas.Result.{err_from_is_err_and}
use Rattle.rules.specs.Texts.{cut}
use Rattle.rules.specs.Mentions.{Mention, program_mentions, first_past, different}
use Rattle.compiler.specs.Held.{table}
use Rattle.compiler.specs.Lines.{read_lines}
use Rattle.compiler.specs.Scan.{scan}
use Rattle.compiler.proofs.Takes.{line_taken, past_stays}
use Rattle.compiler.proofs.Rereads.{readable_parts, parts_short, lines_tail, mentions_line}
use Rattle.compiler.proofs.inventory.take_constants.Goals as goal

pub take_side-requires : goal.take_side-requires
take_side-requires c =
    let l = parts_short _ _ (readable_parts _ _ _ c.in-Some.ensures.steps.1.0 c.loop-line.invariant.0) in
    rw c.side_of.ensures (omega (arith, l, length-drop 2 c.in-Some.bytes.now))

pub returns-in_err-take_side : goal.returns-in_err-take_side
returns-in_err-take_side c =
    let p = err_from_is_err_and c.from_residual.result c.from_residual.ensures.1 in
    let s = c.in-Some.ensures.steps in
    let q = readable_parts _ _ _ s.1.0 c.loop-line.invariant.0 in
    let n = mentions_line _ _ _ c.in-Some.line s.1.0 q in
    let f = ap (λ (o : List ℕ). first_past (scan c.in-Some.line false 3 o) (table c.loop-line.constants)) (sym c.side_of.ensures) ∙ c.in_err-take_side.ensures in
    let g = past_stays (scan c.in-Some.line false 3 (drop 2 c.in-Some.bytes.now)) (program_mentions (suc c.in-Some.line) (read_lines (cut c.next.new.self.b.rest.now))) (table c.loop-line.constants) _ f in
    rw (p.1, p.2) (c.loop-line.invariant.1.0 ∙ (ap (λ (l : ℕ). first_past (program_mentions l (read_lines (cut c.loop-line.line-iterator.b.rest.now))) (table c.loop-line.constants)) (sym s.0.0) ∙ (ap (λ (o : List Mention). first_past o (table c.loop-line.constants)) n ∙ g)))

pub loop-line-preserved : goal.loop-line-preserved
loop-line-preserved c =
    let s = c.in-Some.ensures.steps in
    let q = readable_parts _ _ _ s.1.0 c.loop-line.invariant.0 in
    let n = mentions_line _ _ _ c.in-Some.line s.1.0 q in
    let t = line_taken c.loop-line.line-iterator.a.start c.in-Some.line c.next.new.self.a.start (read_lines (cut c.loop-line.line-iterator.b.rest.now)) (read_lines (cut c.next.new.self.b.rest.now)) (drop 2 c.in-Some.bytes.now) c.side_of.result.now (table c.loop-line.constants) (table c.take_side.new.self) s.0.0 s.0.1 c.side_of.ensures n c.in_ok-take_side.ensures in
    (q.more, (c.loop-line.invariant.1.0 ∙ t.0, c.loop-line.invariant.1.1 ∙ t.1), omega (arith, c.loop-line.invariant.2, s.0.0, s.0.1, s.1.1))

pub returns : goal.returns
returns c = elim c.in-None.ensures.steps [
  | inl f ↦ absurd (omega (arith, c.loop-line.invariant.2, f.1.0))
  | inr f ↦ (
      let n = ap (program_mentions c.loop-line.line-iterator.a.start) (lines_tail _ _ f.1.0) in
      (c.loop-line.invariant.1.0 ∙ ap (λ o. first_past o (table c.loop-line.constants)) n, sym (c.loop-line.invariant.1.1 ∙ ap (λ o. different o (table c.loop-line.constants)) n)))
]
