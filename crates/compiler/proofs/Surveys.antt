-- One line of the text, at each way out of the survey, and what the survey then holds.
-- The two counts, of instructions and of words, are facts about any lines below: reading one line more only uses such a fact
-- at that line put before the others. So nothing has to be said of a list that grows at its end.
use Rattle.std.proofs.Common.{◌≡◌, ℕ, suc, ◌+◌, ◌-◌, ◌<◌, ◌≤◌, Bool, true, false, cond, not, ◌||◌, eqb, leb, ◌≢◌, min, List, [], ◌∷◌, reverse, length, get_or, set, replicate, is_some, Some, None, Option, sym, refl, ap, ◌∙◌, inl, inr, arith}
use Rattle.std.proofs.lemmas.List.{length-set, get_or-set_same, get_or-set_other, get_or-replicate}
use Rattle.std.proofs.lemmas.Bool.{eq-eqb, ne_eqb, cases_eq}
use Rattle.std.proofs.lemmas.Bool.Decides.{nat_tests}
use Rattle.rules.specs.declared.refusal.Report.{Report}
use Rattle.rules.specs.declared.refusal.Fault.{Fault}
use Rattle.rules.specs.Refusals.{report, reported, placed}
use Rattle.rules.specs.Tree.{Line, Program}
use Rattle.rules.specs.Reading.{got, fails, line_read}
use Rattle.rules.specs.Texts.{Text, tail, line, has, awaited, allowed_by, allowed, closes, program, refused, parsed_from}
use Rattle.rules.specs.Operations.{side_count, first_over}
use Rattle.rules.specs.Words.{same_group, code_words}
use Rattle.reader.specs.declared.line.ReadLine.{ReadLine}
use Rattle.reader.specs.Lines.{line_of}
use Rattle.laws.proofs.Lines.{lines_written, read_short}
use Rattle.laws.proofs.Lengths.{code_length}
use Rattle.laws.proofs.Parsing.{reverse_onto}
use Rattle.compiler.specs.declared.groups.Groups.{Groups}
use Rattle.compiler.specs.declared.survey.Survey.{Survey}
use Rattle.compiler.specs.Onward.{admits, over_with}
use Rattle.compiler.specs.Counted.{Marks, Counted, last_group, over_or}

-- after the last line end
pub left_end : (p : List ℕ) (above : List Line) (n : ℕ) → 0 < length p → n ≡ length above → parsed_from (tail p) above ≡ refused (report 2 (n + 1) (min (length p) 80 + 1))
unfolding parsed_from
left_end [] above n h e = absurd (omega arith)
left_end (x ∷ xs) above n h e = let f : n + 1 ≡ suc (length above) = omega arith in rw f (by (leb (length (x ∷ xs)) 80) refl)
  where
    by : (b : Bool) → leb (length (x ∷ xs)) 80 ≡ b → refused (report 2 (suc (length above)) (cond b (suc (length (x ∷ xs))) 81)) ≡ refused (report 2 (suc (length above)) (min (length (x ∷ xs)) 80 + 1))
    by true g = let k : suc (length (x ∷ xs)) ≡ min (length (x ∷ xs)) 80 + 1 = grind (arith, nat_tests) in rw k
    by false g = let k : 81 ≡ min (length (x ∷ xs)) 80 + 1 = grind (arith, nat_tests) in rw k

pub open_end : (p : List ℕ) (above : List Line) (n : ℕ) (o : Option ℕ) → length p ≤ 0 → n ≡ length above → o ≡ awaited above → false ≡ not (is_some o) → parsed_from (tail p) above ≡ refused (report 6 (n + 1) 0)
unfolding parsed_from
open_end [] above n (Some a) h e m f = let g : n + 1 ≡ suc (length above) = omega arith in rw (← m, g)
open_end [] above n None h e m f = let z : ◌≡◌ {A = ℕ} 0 1 = cc in absurd (omega arith)
open_end (x ∷ xs) above n o h e m f = absurd (omega arith)

pub closed_end : (p : List ℕ) (above : List Line) (o : Option ℕ) → length p ≤ 0 → o ≡ awaited above → true ≡ not (is_some o) → parsed_from (tail p) above ≡ program (reverse above)
unfolding parsed_from
closed_end [] above None h m f = rw (← m)
closed_end [] above (Some a) h m f = let z : ◌≡◌ {A = ℕ} 0 1 = cc in absurd (omega arith)
closed_end (x ∷ xs) above o h m f = absurd (omega arith)

-- a line
pub misread_line : (p : List ℕ) (t : Text) (above : List Line) (n left place : ℕ) (e : Fault) → n ≡ length above → line_read p ≡ fails e left → place ≡ length p + 1 - left → parsed_from (line p t) above ≡ refused (reported (placed e (n + 1) place))
unfolding parsed_from
misread_line p t above n left place e h f g = let i : n + 1 ≡ suc (length above) = omega arith in rw (f, g, i)

pub forbidden_line : (p : List ℕ) (t : Text) (above : List Line) (n : ℕ) (k : Line) → n ≡ length above → line_read p ≡ got k [] → allowed above k.group ≡ false → parsed_from (line p t) above ≡ refused (report 6 (n + 1) 1)
unfolding parsed_from
forbidden_line p t above n k h f g = let i : n + 1 ≡ suc (length above) = omega arith in rw (f, g, i)

pub allowed_line : (p : List ℕ) (t : Text) (above : List Line) (k : Line) → line_read p ≡ got k [] → allowed above k.group ≡ true → parsed_from (line p t) above ≡ parsed_from t (k ∷ above)
unfolding parsed_from
allowed_line p t above k f g = rw (f, g)

-- a line that was read has a letter for its group
group_letter : (p : List ℕ) (l : Line) → line_read p ≡ got l [] → (65 ≤ l.group) × (l.group ≤ 90)
group_letter p l e = let w = (lines_written p [] l (read_short p [] l e).1).0.group in (omega (arith, w.0), omega (arith, w.1))

-- the letter's test is the rule
admits_by : (o : Option ℕ) (seen : List Bool) (above : List Line) (g : ℕ) → get_or seen (g - 65) false ≡ has above g → admits o seen g ≡ allowed_by o above g
admits_by None seen above g e = rw e
admits_by (Some a) seen above g e = refl

pub admits_allowed : (s : Survey) (above : List Line) (p : List ℕ) (q : ReadLine) (k : Line) (b : Bool) → Counted s above → line_read p ≡ got k [] → q ≡ line_of k → b ≡ admits s.groups.awaited s.groups.seen q.group → allowed above k.group ≡ b
admits_allowed s above p q k b c r e f =
    let g : q.group ≡ k.group = ap (λ (o : ReadLine). o.group) e in
    let w = group_letter p k r in
    let a : admits s.groups.awaited s.groups.seen k.group ≡ allowed above k.group = admits_by s.groups.awaited s.groups.seen above k.group (c.marks.each k.group w.0 w.1) ∙ ap (λ (o : Option ℕ). allowed_by o above k.group) c.next in
    sym (f ∙ (ap (admits s.groups.awaited s.groups.seen) g ∙ a))

-- the marks with one line more
noted : (s : List Bool) (a k : ℕ) → 65 ≤ a → a ≤ 90 → 65 ≤ k → k ≤ 90 → length s ≡ 26 → (b : Bool) → get_or s (k - 65) false ≡ b → get_or (set s (a - 65) true) (k - 65) false ≡ (eqb a k || b)
noted s a k a₁ a₂ k₁ k₂ l b e = elim (cases_eq a k) [ inl q ↦ (let h : a - 65 < length s = omega arith in rw (eq-eqb a k q, sym q) (get_or-set_same s (a - 65) true false h)) | inr q ↦ (let h : k - 65 ≢ a - 65 = λ z. q (omega arith) in rw (ne_eqb a k q) (get_or-set_other s (a - 65) (k - 65) true false h ∙ e)) ]

pub marks_none : (g : Groups) → g.seen ≡ replicate 26 false → Marks g []
marks_none g e = record { size = rw e; each = λ k a b. rw e (get_or-replicate 26 (k - 65) false false (omega arith)) }

marks_more : (g h : Groups) (above : List Line) (l : Line) → 65 ≤ l.group → l.group ≤ 90 → Marks g above → h.seen ≡ set g.seen (l.group - 65) true → Marks h (l ∷ above)
marks_more g h above l a b m s = record { size = rw s (length-set g.seen (l.group - 65) true ∙ m.size); each = λ k c d. rw s (noted g.seen l.group k a b c d m.size (has above k) (m.each k c d)) }

over_turn : (k : Line) (below : Program) (o : Option ℕ) (w n : ℕ) (o' : Option ℕ) (w' m : ℕ) → m ≡ suc n → w' ≡ w + side_count k.side → o' ≡ over_with o (leb (w + side_count k.side) 372) m → over_or o (first_over w (suc n) (k ∷ below)) ≡ over_or o' (first_over w' (suc (suc n)) below)
over_turn k below o w n o' w' m e f g = rw (g, f, e) (by (first_over (w + side_count k.side) (suc (suc n)) below) o (leb (w + side_count k.side) 372))
  where
    by : (x : Option Report) (o : Option ℕ) (b : Bool) → over_or o (cond b x (Some (report 9 (suc n) 0))) ≡ over_or (over_with o b (suc n)) x
    by x None true = refl
    by x None false = refl
    by x (Some l) b = refl

-- what a line's count makes of the survey
pub record Grown (s s' : Survey) (k : Line) : Type 0 where
  pub seen : s'.groups.seen ≡ set s.groups.seen (k.group - 65) true
  pub awaited : s'.groups.awaited ≡ cond (closes k.target) None (Some k.group)
  pub lines : s'.lines ≡ s.lines + 1
  pub instructions : s'.instructions ≡ s.instructions + side_count k.side
  pub heads : s'.heads ≡ s.heads + cond (same_group s.last k.group) 0 1
  pub over : s'.over ≡ over_with s.over (leb (s.instructions + side_count k.side) 372) (s.lines + 1)
  pub last : s'.last ≡ Some k.group

pub counted_more : (s s' : Survey) (above : List Line) (p : List ℕ) (k : Line) → line_read p ≡ got k [] → Counted s above → Grown s s' k → Counted s' (k ∷ above)
counted_more s s' above p k r c g =
    record {
      marks = marks_more s.groups s'.groups above k (group_letter p k r).0 (group_letter p k r).1 c.marks g.seen;
      next = g.awaited;
      lines = omega (arith, c.lines, g.lines);
      last = g.last;
      over = λ below. ap (first_over 0 1) (reverse_onto k above below) ∙ (c.over (k ∷ below) ∙ over_turn k below s.over s.instructions (length above) s'.over s'.instructions (s.lines + 1) (omega (arith, c.lines)) g.instructions g.over);
      words = λ cs below. ap (λ (o : Program). length (code_words cs None o)) (reverse_onto k above below) ∙ (c.words cs (k ∷ below) ∙ (let h : cond {A = ℕ} (same_group s.last k.group) 0 1 ≡ cond (same_group (last_group above) k.group) 0 1 = ap (λ (o : Option ℕ). cond (same_group o k.group) 0 1) c.last in omega (arith, code_length cs (last_group above) k below, g.heads, g.instructions)));
    }

-- what the code does with the parts of a line is what is to be done with the line
pub grown : (s s' : Survey) (q : ReadLine) (l : Line) (n : ℕ) → q ≡ line_of l → n ≡ side_count l.side → s'.groups.seen ≡ set s.groups.seen (q.group - 65) true → s'.groups.awaited ≡ cond (closes q.target) None (Some q.group) → s'.lines ≡ s.lines + 1 → s'.instructions ≡ s.instructions + n → s'.heads ≡ s.heads + cond (same_group s.last q.group) 0 1 → s'.over ≡ over_with s.over (leb (s.instructions + n) 372) (s.lines + 1) → s'.last ≡ Some q.group → Grown s s' l
grown s s' q l n e f a b c d h o z =
    record {
      seen = a ∙ ap (λ (k : ReadLine). set s.groups.seen (k.group - 65) true) e;
      awaited = b ∙ ap (λ (k : ReadLine). cond (closes k.target) None (Some k.group)) e;
      lines = c;
      instructions = d ∙ ap (λ (k : ℕ). s.instructions + k) f;
      heads = h ∙ ap (λ (k : ReadLine). s.heads + cond (same_group s.last k.group) 0 1) e;
      over = o ∙ ap (λ (k : ℕ). over_with s.over (leb (s.instructions + k) 372) (s.lines + 1)) f;
      last = z ∙ ap (λ (k : ReadLine). Some k.group) e;
    }
