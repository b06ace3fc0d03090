-- The whole text: the order of the refusals, and how long its tape is.
-- The first reading gives the program, the inventory its letters and constants, the counts its length; the definition asks for
-- them in the same order as the code, so each way out of the code is one rewriting of the definition. That an accepted text
-- writes a well-formed program is the law of acceptance, put to use on the answer.
use Rattle.std.proofs.Common.{◌≡◌, ℕ, suc, ◌+◌, ◌*◌, ◌<◌, ◌≤◌, Bool, true, false, cond, ◌||◌, eqb, leb, List, [], ◌∷◌, ◌++◌, reverse, length, take, drop, Some, None, Ok, Err, Option, Result, sym, refl, ap, ◌∙◌, subst, append-nil, arith}
use Rattle.std.proofs.lemmas.List.{take-append-drop, take_at, reverse-append}
use Rattle.std.proofs.lemmas.Bool.{le-leb, lt-leb}
use Rattle.rules.specs.declared.refusal.TextRefusal.{TextRefusal}
use Rattle.rules.specs.declared.refusal.TextRefusal.TheVariants.{TapeTooShort}
use Rattle.rules.specs.declared.refusal.Report.{Report}
use Rattle.rules.specs.Refusals.{report, reported}
use Rattle.rules.specs.Tree.{Line, Program}
use Rattle.rules.specs.Reading.{Read, got, fails, line_read}
use Rattle.rules.specs.Texts.{Text, tail, line, cut, has, awaited, allowed, ended_by, on_line, Parsed, program, refused, parsed_from, parsed}
use Rattle.rules.specs.Mentions.{program_mentions, first_loose, first_past, different}
use Rattle.rules.specs.Operations.{first_over}
use Rattle.rules.specs.Words.{code_words, tape_of}
use Rattle.rules.specs.Compiled.{Outcome, tape, refuse, judged, on_parsed, compiled, told, answered, buffered}
use Rattle.rules.specs.Written.{written_text}
use Rattle.rules.specs.Programs.{WellFormed}
use Rattle.laws.proofs.Lines.{lines_written, read_short}
use Rattle.laws.proofs.Parsing.{same_program, reverse_onto}
use Rattle.laws.proofs.Accepting.{accepted_written, written_accepted}
use Rattle.laws.proofs.Lengths.{tape_length}
use Rattle.compiler.specs.declared.survey.Survey.{Survey}
use Rattle.compiler.specs.Lines.{read_lines, Readable, onto}
use Rattle.compiler.specs.Counted.{Marks, Counted, over_or}
use Rattle.compiler.specs.Put.{Stands}
use Rattle.compiler.specs.Meant.{Written, Meant}

-- a text that is read is readable, and what was read are its lines
only_line : (p rest : List ℕ) (k : Line) → line_read p ≡ got k rest → line_read p ≡ got k []
only_line p rest k e = let w = lines_written p rest k (read_short p rest k e).1 in e ∙ ap (got k) w.2

closes_at : (o : Option ℕ) (above ks : Program) → ended_by o above ≡ program ks → ks ≡ reverse above
closes_at None above ks e = sym (same_program e)
closes_at (Some a) above ks e = let z : ◌≡◌ {A = ℕ} 0 1 = cc in absurd (omega arith)

abbrev Its : Text → Program → Program → Type 0
Its t above ks = Readable t × (ks ≡ reverse above ++ read_lines t)

abbrev More : Text → Program → Type 0
More t ks = (v : Program) → parsed_from t v ≡ program ks → Its t v ks

its_lines : (t : Text) (above ks : Program) → parsed_from t above ≡ program ks → Its t above ks
unfolding parsed_from Readable read_lines
its_lines (tail []) above ks e = (tt, closes_at (awaited above) above ks e ∙ sym (append-nil (reverse above)))
its_lines (tail (x ∷ xs)) above ks e = let z : ◌≡◌ {A = ℕ} 0 1 = cc in absurd (omega arith)
its_lines (line p t) above ks e = reads (λ (v : Program) f. its_lines t v ks f) (line_read p) refl e
  where
    letter : More t ks → (b : Bool) (k : Line) (rest : List ℕ) → line_read p ≡ got k rest → cond b (parsed_from t (k ∷ above)) (refused (report 6 (suc (length above)) 1)) ≡ program ks → Its (line p t) above ks
    letter more true k rest q f =
        let i = more (k ∷ above) f in
        (((k, only_line p rest k q), i.0), i.1 ∙ (reverse_onto k above (read_lines t) ∙ ap (λ (r : Read Line). reverse above ++ onto r (read_lines t)) (sym q)))
    letter more false k rest q f = let z : ◌≡◌ {A = ℕ} 0 1 = cc in absurd (omega arith)

    reads : More t ks → (r : Read Line) → line_read p ≡ r → on_line (parsed_from t) (length p) r above ≡ program ks → Its (line p t) above ks
    reads more (got k rest) q f = letter more (allowed above k.group) k rest q f
    reads more (fails a b) q f = let z : ◌≡◌ {A = ℕ} 0 1 = cc in absurd (omega arith)

pub readable : (text : List ℕ) (above : Program) → parsed text ≡ program (reverse above) → Readable (cut text)
readable text above e = (its_lines (cut text) [] (reverse above) e).0

the_lines : (text : List ℕ) (above : Program) → parsed text ≡ program (reverse above) → read_lines (cut text) ≡ reverse above
the_lines text above e = sym (its_lines (cut text) [] (reverse above) e).1

-- the marks do not mind the order of the lines
has_append : (ks ls : Program) (g : ℕ) → has (ks ++ ls) g ≡ (has ks g || has ls g)
has_append [] ls g = refl
has_append (k ∷ ks) ls g = by (eqb k.group g) (has_append ks ls g)
  where
    by : (b : Bool) → has (ks ++ ls) g ≡ (has ks g || has ls g) → (b || has (ks ++ ls) g) ≡ ((b || has ks g) || has ls g)
    by true e = refl
    by false e = e

turned : (a b : Bool) → (a || (b || false)) ≡ (b || a)
turned true true = refl
turned true false = refl
turned false true = refl
turned false false = refl

has_reverse : (ks : Program) (g : ℕ) → has (reverse ks) g ≡ has ks g
has_reverse [] g = refl
has_reverse (k ∷ ks) g = ap (λ (o : Program). has o g) (reverse-append (k ∷ []) ks) ∙ (has_append (reverse ks) (k ∷ []) g ∙ (turned (has (reverse ks) g) (eqb k.group g) ∙ ap (λ (b : Bool). eqb k.group g || b) (has_reverse ks g)))

pub its_marks : (s : Survey) (text : List ℕ) (above : Program) → parsed text ≡ program (reverse above) → Counted s above → Marks s.groups (read_lines (cut text))
its_marks s text above e c =
    record {
      size = c.marks.size;
      each = λ k a b. c.marks.each k a b ∙ (sym (has_reverse above k) ∙ ap (λ (o : Program). has o k) (sym (the_lines text above e)));
    }

-- the refusals in their order
pub compiled_long : (text : List ℕ) → 16384 < length text → compiled text ≡ refuse (report 1 0 0)
unfolding compiled
compiled_long text h = rw (lt-leb (length text) 16384 h)

compiled_on : (text : List ℕ) (r : Parsed) → length text ≤ 16384 → parsed text ≡ r → compiled text ≡ on_parsed r
unfolding compiled
compiled_on text r h e = rw (le-leb (length text) 16384 h, e)

pub compiled_refused : (text : List ℕ) (r : Report) → length text ≤ 16384 → parsed text ≡ refused r → compiled text ≡ refuse r
compiled_refused text r h e = compiled_on text (refused r) h e

compiled_judged : (text : List ℕ) (above : Program) → length text ≤ 16384 → parsed text ≡ program (reverse above) → compiled text ≡ judged (read_lines (cut text))
compiled_judged text above h e = compiled_on text (program (reverse above)) h e ∙ ap judged (sym (the_lines text above e))

pub compiled_loose : (text : List ℕ) (above : Program) (r : Report) → length text ≤ 16384 → parsed text ≡ program (reverse above) → first_loose (read_lines (cut text)) (program_mentions 1 (read_lines (cut text))) ≡ Some r → compiled text ≡ refuse r
compiled_loose text above r h e f = compiled_judged text above h e ∙ rw f

-- a text whose letters all have groups
pub record Fine (text : List ℕ) (above : Program) : Type 0 where
  pub short : length text ≤ 16384
  pub parses : parsed text ≡ program (reverse above)
  pub lettered : first_loose (read_lines (cut text)) (program_mentions 1 (read_lines (cut text))) ≡ None

pub fine : (s : Survey) (text : List ℕ) (above : Program) → length text ≤ 16384 → parsed text ≡ program (reverse above) → Counted s above → ((ks : Program) → Marks s.groups ks → first_loose ks (program_mentions 1 (read_lines (cut text))) ≡ None) → Fine text above
fine s text above h e c l = record { short = h; parses = e; lettered = l (read_lines (cut text)) (its_marks s text above e c) }

-- its constants, all of which have places
abbrev Placed : List ℕ → List ℕ → Type 0
Placed text cs = (first_past (program_mentions 1 (read_lines (cut text))) [] ≡ None) × (cs ≡ different (program_mentions 1 (read_lines (cut text))) [])

pub compiled_past : (text : List ℕ) (above : Program) (r : Report) → Fine text above → first_past (program_mentions 1 (read_lines (cut text))) [] ≡ Some r → compiled text ≡ refuse r
compiled_past text above r f e = compiled_judged text above f.short f.parses ∙ rw (f.lettered, e)

its_over : (s : Survey) (text : List ℕ) (above : Program) → parsed text ≡ program (reverse above) → Counted s above → first_over 0 1 (read_lines (cut text)) ≡ over_or s.over None
its_over s text above e c = ap (first_over 0 1) (the_lines text above e ∙ sym (append-nil (reverse above))) ∙ c.over []

pub compiled_over : (s : Survey) (text : List ℕ) (above : Program) (cs : List ℕ) (l : ℕ) → Fine text above → Placed text cs → Counted s above → s.over ≡ Some l → compiled text ≡ refuse (report 9 l 0)
compiled_over s text above cs l f p c h =
    let o : first_over 0 1 (read_lines (cut text)) ≡ Some (report 9 l 0) = its_over s text above f.parses c ∙ ap (λ (x : Option ℕ). over_or x None) h in
    compiled_judged text above f.short f.parses ∙ rw (f.lettered, p.0, o)

pub compiled_tape : (s : Survey) (text : List ℕ) (above : Program) (cs : List ℕ) → Fine text above → Placed text cs → Counted s above → s.over ≡ None → compiled text ≡ tape (tape_of cs (read_lines (cut text)))
compiled_tape s text above cs f p c h =
    let o : first_over 0 1 (read_lines (cut text)) ≡ None = its_over s text above f.parses c ∙ ap (λ (x : Option ℕ). over_or x None) h in
    compiled_judged text above f.short f.parses ∙ rw (f.lettered, p.0, o, p.1)

-- the tape's length, from the counts
pub its_length : (s : Survey) (text : List ℕ) (above : Program) (cs : List ℕ) (l : ℕ) → parsed text ≡ program (reverse above) → Counted s above → l ≡ length cs → 2 * l + s.heads + s.instructions + 1 ≡ length (tape_of cs (read_lines (cut text)))
its_length s text above cs l e c h =
    let g : length (code_words cs None (read_lines (cut text))) ≡ s.heads + s.instructions + 0 = ap (λ (o : Program). length (code_words cs None o)) (the_lines text above e ∙ sym (append-nil (reverse above))) ∙ c.words cs [] in
    omega (arith, tape_length cs (read_lines (cut text)))

-- the answer and the buffer
pub answers : (x : Outcome) (ws old new : List ℕ) (r : ℕ) → x ≡ tape ws → length ws ≤ length old → Stands old ws new r → (told (Ok r) ≡ answered x (length old)) × (new ≡ buffered x old)
answers x ws old new r e h w =
    let n : r ≡ length ws = w.count in
    let b : drop r new ≡ drop (length ws) old = w.back ∙ ap (λ (k : ℕ). drop k old) n in
    let z : new ≡ ws ++ drop (length ws) old = sym (take-append-drop r new) ∙ (ap (λ (o : List ℕ). o ++ drop r new) w.front ∙ ap (λ (o : List ℕ). ws ++ o) b) in
    rw (e, le-leb (length ws) (length old) h) ((cc), z)

pub refused_answers : (x : Outcome) (old : List ℕ) (e : TextRefusal) → x ≡ refuse (reported e) → (told (Err e) ≡ answered x (length old)) × (old ≡ buffered x old)
refused_answers x old e f = rw f (refl, refl)

pub short_answers : (x : Outcome) (ws old : List ℕ) → x ≡ tape ws → length old < length ws → (told (Err TapeTooShort) ≡ answered x (length old)) × (old ≡ buffered x old)
short_answers x ws old e h = rw (e, lt-leb (length ws) (length old) h) (refl, refl)

-- what the answer says of programs: an outcome is a tape exactly for the written form of a well-formed program
tape_not_refuse : (x : Outcome) (ws : List ℕ) (r : Report) → x ≡ refuse r → x ≡ tape ws → ⊥
tape_not_refuse x ws r e f = let z : ◌≡◌ {A = ℕ} 0 1 = cc in absurd (omega arith)

told_ok : (r : Result ℕ TextRefusal) (n : ℕ) (text new : List ℕ) → told r ≡ Ok n → Written text (take n new) → Meant text new r
told_ok (Ok m) n text new e w = let q : n ≡ m = cc in subst (λ (k : ℕ). Written text (take k new)) q w
told_ok (Err x) n text new e w = let z : ◌≡◌ {A = ℕ} 0 1 = cc in absurd (omega arith)

told_err : (r : Result ℕ TextRefusal) (p : Report) (text new : List ℕ) → told r ≡ Err p → ((ks : Program) → WellFormed ks → text ≡ written_text ks → p ≡ report 10 0 0) → Meant text new r
told_err (Ok m) p text new e w = let z : ◌≡◌ {A = ℕ} 0 1 = cc in absurd (omega arith)
told_err (Err x) p text new e w = λ ks g t. let q : reported x ≡ p = cc in q ∙ w ks g t

pub meant : (text old new : List ℕ) (r : Result ℕ TextRefusal) → told r ≡ answered (compiled text) (length old) → new ≡ buffered (compiled text) old → Meant text new r
meant text old new r a b = by (compiled text) refl a b
  where
    fits : (ws : List ℕ) → compiled text ≡ tape ws → (f : Bool) → told r ≡ cond f (Ok (length ws)) (Err (report 10 0 0)) → new ≡ cond f (ws ++ drop (length ws) old) old → Meant text new r
    fits ws e true a b =
        let w = accepted_written text ws e in
        let t : take (length ws) new ≡ ws = ap (take (length ws)) b ∙ take_at ws (drop (length ws) old) (length ws) refl in
        told_ok r (length ws) text new a (w.0, w.1, w.2, t ∙ w.3)
    fits ws e false a b = told_err r (report 10 0 0) text new a (λ ks g t. refl)

    by : (x : Outcome) → compiled text ≡ x → told r ≡ answered x (length old) → new ≡ buffered x old → Meant text new r
    by (tape ws) e a b = fits ws e (leb (length ws) (length old)) a b
    by (refuse p) e a b = told_err r p text new a (λ ks g t. absurd (tape_not_refuse (compiled text) _ p e (ap compiled t ∙ written_accepted ks g)))
