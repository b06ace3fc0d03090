-- The lines of a text, read one after another: which texts are read, and as what.
use Rattle.std.proofs.Common.{◌≡◌, ℕ, suc, ◌≤◌, Bool, true, false, cond, List, [], ◌∷◌, ◌++◌, reverse, length, Some, None, Option, sym, refl, ap, ◌∙◌, subst, append_assoc, append-nil, arith}
use mathlib.Core.List.{reverse-cons}
use Rattle.std.specs.List.{AllByRecursion}
use Rattle.std.proofs.lemmas.Bool.{le-leb}
use Rattle.rules.specs.Refusals.{report}
use Rattle.rules.specs.Tree.{Line, Program}
use Rattle.rules.specs.Written.{written_line, written_text}
use Rattle.rules.specs.Reading.{Read, got, fails, line_read, line_limit}
use Rattle.rules.specs.Texts.{Text, tail, line, cut, awaited, allowed, ended_by, program, refused, on_line, parsed_from}
use Rattle.rules.specs.Programs.{GoodLine}
use Rattle.laws.proofs.Lines.{lines_read, lines_written, read_short}
use Rattle.laws.proofs.Cutting.{uncut, cut_line}
use Rattle.laws.proofs.Groups.{Follows}

abbrev pub Short : Line → Type 0
Short k = length (written_line k) ≤ line_limit

pub reverse_onto : (k : Line) (above ks : List Line) → reverse (k ∷ above) ++ ks ≡ reverse above ++ (k ∷ ks)
reverse_onto k above ks = ap (λ (o : List Line). o ++ ks) (reverse-cons k above) ∙ append_assoc (reverse above) (k ∷ []) ks

pub same_program : {ks ls : Program} → program ks ≡ program ls → ks ≡ ls
same_program e = cc

-- what a text that is read as ks holds, after the lines above
pub record Shows (t : Text) (above : List Line) (ks : Program) : Type 0 where
  pub lines : Program
  pub whole : ks ≡ reverse above ++ lines
  pub good : AllByRecursion GoodLine lines
  pub short : AllByRecursion Short lines
  pub follows : Follows above lines
  pub text : uncut t ≡ written_text lines

abbrev More : Text → Program → Type 0
More t ks = (v : List Line) → parsed_from t v ≡ program ks → Shows t v ks

one_line : (k : Line) (t : Text) (above : List Line) → GoodLine k → Short k → allowed above k.group ≡ true → parsed_from (line (written_line k) t) above ≡ parsed_from t (k ∷ above)
unfolding parsed_from
one_line k t above g h a = rw (le-leb (length (written_line k)) line_limit h, lines_read k g, a)

no_line : (above : List Line) → awaited above ≡ None → parsed_from (tail []) above ≡ program (reverse above)
unfolding parsed_from
no_line above e = rw e

-- Each line is cut off whole and read as itself, and the rule admits it.
-- So the lines are gathered one by one, and at the end no group is open.
pub parses : (ks above : List Line) → AllByRecursion GoodLine ks → AllByRecursion Short ks → Follows above ks → parsed_from (cut (written_text ks)) above ≡ program (reverse above ++ ks)
parses [] above g h f = no_line above f ∙ ap program (sym (append-nil (reverse above)))
parses (k ∷ ks) above g h f =
    ap (λ (t : Text). parsed_from t above) (cut_line k (written_text ks) g.0)
    ∙ (one_line k (cut (written_text ks)) above g.0 h.0 f.0 ∙ (parses ks (k ∷ above) g.1 h.1 f.1 ∙ ap program (reverse_onto k above ks)))

at_end : (o : Option ℕ) (above ks : List Line) → awaited above ≡ o → ended_by o above ≡ program ks → Shows (tail []) above ks
at_end None above ks h e = record { lines = []; whole = sym (same_program e) ∙ sym (append-nil (reverse above)); good = tt; short = tt; follows = h; text = refl }
at_end (Some a) above ks h e = let z : ◌≡◌ {A = ℕ} 0 1 = cc in absurd (omega arith)

-- The way back: a test that fails ends in a refusal, so on the way to a program each was passed.
-- What a line was read as writes just that line, so the lines write the text.
pub shows : (t : Text) (above ks : List Line) → parsed_from t above ≡ program ks → Shows t above ks
unfolding parsed_from
shows (tail []) above ks e = at_end (awaited above) above ks refl e
shows (tail (x ∷ xs)) above ks e = let z : ◌≡◌ {A = ℕ} 0 1 = cc in absurd (omega arith)
shows (line p t) above ks e = known (λ (v : List Line) f. shows t v ks f) (line_read p) refl e
  where
    admitted : More t ks → (b : Bool) (k : Line) (rest : List ℕ) → line_read p ≡ got k rest → allowed above k.group ≡ b → cond b (parsed_from t (k ∷ above)) (refused (report 6 (suc (length above)) 1)) ≡ program ks → Shows (line p t) above ks
    admitted more true k rest q a f =
        let i = more (k ∷ above) f in
        let r = read_short p rest k q in
        let w = lines_written p rest k r.1 in
        let n : Short k = subst (λ (o : List ℕ). length o ≤ line_limit) w.1 r.0 in
        record { lines = k ∷ i.lines; whole = i.whole ∙ reverse_onto k above i.lines; good = (w.0, i.good); short = (n, i.short); follows = (a, i.follows); text = ap (λ (o : List ℕ). o ++ (10 ∷ uncut t)) w.1 ∙ ap (λ (o : List ℕ). written_line k ++ (10 ∷ o)) i.text }
    admitted more false k rest q a f = let z : ◌≡◌ {A = ℕ} 0 1 = cc in absurd (omega arith)

    known : More t ks → (r : Read Line) → line_read p ≡ r → on_line (parsed_from t) (length p) r above ≡ program ks → Shows (line p t) above ks
    known more (got k rest) q f = admitted more (allowed above k.group) k rest q refl f
    known more (fails c left) q f = let z : ◌≡◌ {A = ℕ} 0 1 = cc in absurd (omega arith)
