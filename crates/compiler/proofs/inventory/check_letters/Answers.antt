use Rattle.std.proofs.Common.{◌≡◌, ℕ, suc, false, List, drop, Some, None, sym, ap, ◌∙◌, inl, inr, add-one, arith}
use Rattle.std.specs.List.{position}
use Rattle.rules.specs.Tree.{Program}
use Rattle.rules.specs.Texts.{cut}
use Rattle.rules.specs.Mentions.{Mention, program_mentions, first_loose}
use Rattle.compiler.specs.Lines.{read_lines}
use Rattle.compiler.specs.Scan.{scan}
use Rattle.compiler.specs.Mentioned.{lacks}
use Rattle.compiler.proofs.Loose.{loose_found, loose_clear, loose_on, loose_stays}
use Rattle.compiler.proofs.Rereads.{readable_parts, lines_tail, mentions_line}
use Rattle.compiler.proofs.inventory.check_letters.Goals as goal

pub returns-in-Some-loose_letter : goal.returns-in-Some-loose_letter
returns-in-Some-loose_letter c = λ ks m.
    let s = c.in-Some.ensures.steps in
    let q = readable_parts _ _ _ s.1.0 c.loop-line.invariant.0 in
    let n = mentions_line _ _ _ c.in-Some.line s.1.0 q in
    let w : position (lacks c.args.groups.now) (drop 2 c.in-Some.bytes.now) ≡ Some c.in-Some-loose_letter.i = sym (ap (position (lacks c.args.groups.now)) c.side_of.ensures) ∙ (sym c.loose_letter.ensures ∙ c.in-Some-loose_letter.is) in
    c.loop-line.invariant.1 ks m ∙ (ap (λ (l : ℕ). first_loose ks (program_mentions l (read_lines (cut c.loop-line.line-iterator.b.rest.now)))) (sym s.0.0) ∙ (ap (first_loose ks) n ∙ loose_stays ks (scan c.in-Some.line false 3 (drop 2 c.in-Some.bytes.now)) _ _ (loose_found c.args.groups.now ks c.in-Some.line 3 c.in-Some-loose_letter.i false (drop 2 c.in-Some.bytes.now) w m)))

pub loop-line-preserved : goal.loop-line-preserved
loop-line-preserved c =
    let s = c.in-Some.ensures.steps in
    let q = readable_parts _ _ _ s.1.0 c.loop-line.invariant.0 in
    let n = mentions_line _ _ _ c.in-Some.line s.1.0 q in
    let b : List Mention = program_mentions (suc c.in-Some.line) (read_lines (cut c.next.new.self.b.rest.now)) in
    let a : List Mention = scan c.in-Some.line false 3 (drop 2 c.in-Some.bytes.now) in
    let w : position (lacks c.args.groups.now) (drop 2 c.in-Some.bytes.now) ≡ None = sym (ap (position (lacks c.args.groups.now)) c.side_of.ensures) ∙ (sym c.loose_letter.ensures ∙ c.in_default.is) in (
      q.more,
      (λ ks m. c.loop-line.invariant.1 ks m ∙ (ap (λ (l : ℕ). first_loose ks (program_mentions l (read_lines (cut c.loop-line.line-iterator.b.rest.now)))) (sym s.0.0) ∙ (ap (first_loose ks) n ∙ (loose_on ks a b (loose_clear c.args.groups.now ks c.in-Some.line 3 false (drop 2 c.in-Some.bytes.now) w m) ∙ ap (λ (l : ℕ). first_loose ks (program_mentions l (read_lines (cut c.next.new.self.b.rest.now)))) (sym (s.0.1 ∙ add-one c.in-Some.line)))))),
      omega (arith, c.loop-line.invariant.2, s.0.0, s.0.1, s.1.1),
    )

pub returns : goal.returns
returns c = elim c.in-None.ensures.steps [
  | inl f ↦ absurd (omega (arith, c.loop-line.invariant.2, f.1.0))
  | inr f ↦ (λ ks m. c.loop-line.invariant.1 ks m ∙ ap (λ (o : Program). first_loose ks (program_mentions c.loop-line.line-iterator.a.start o)) (lines_tail _ _ f.1.0))
]
