-- What is judged after all lines, said of the whole program: its letters, its constants, its instructions.
use Rattle.std.proofs.Common.{◌≡◌, ℕ, suc, ◌+◌, ◌≤◌, Bool, true, false, cond, ◌||◌, eqb, ltb, leb, List, [], ◌∷◌, ◌++◌, length, Some, None, Decides, sym, refl, arith}
use Rattle.std.specs.List.{AllByRecursion}
use Rattle.std.proofs.lemmas.List.{length-append}
use Rattle.std.proofs.lemmas.Bool.{false≢true, leb-true, le-leb, cond_both}
use Rattle.std.proofs.lemmas.Bool.Decides.{Decides-at, Decides-like, Decides-or, Decides-eqb}
use Rattle.rules.specs.declared.formula.Atom.{Atom}
use Rattle.rules.specs.declared.formula.Atom.TheVariants.{Variable, Pointed, Letter, Constant}
use Rattle.rules.specs.Refusals.{report}
use Rattle.rules.specs.Tree.{Side, Program}
use Rattle.rules.specs.Texts.{has}
use Rattle.rules.specs.Mentions.{Mention, grouped, first_loose, place_of, noting, different, constant_limit, first_past}
use Rattle.rules.specs.Operations.{side_count, instructions, instruction_limit, first_over}
use Rattle.rules.specs.Programs.{Formula, Group, formula_lines, group_lines, letters, In, LetterIn}

again : (b c : Bool) → (b || (b || c)) ≡ (b || c)
again true c = refl
again false c = refl

has_formulas : (g : ℕ) (fs : List Formula) (z : Side) (rest : Program) (x : ℕ) → has (formula_lines g fs z ++ rest) x ≡ (eqb g x || has rest x)
has_formulas g [] z rest x = refl
has_formulas g (f ∷ fs) z rest x = rw (has_formulas g fs z rest x) (again (eqb g x) (has rest x))

-- a line of the group is there just where its letter is among the letters
pub letters_told : (gs : List Group) (x : ℕ) → Decides (has (group_lines gs) x) (In x (letters gs))
letters_told [] x = (λ e. absurd (false≢true e), λ n. absurd n)
letters_told (g ∷ gs) x =
    Decides-at {P = In x (letters (g ∷ gs))} (has (group_lines (g ∷ gs)) x) (eqb g.letter x || has (group_lines gs) x) (has_formulas g.letter g.formulas g.last (group_lines gs) x)
    (Decides-or {P = x ≡ g.letter} {Q = In x (letters gs)} (eqb g.letter x) (has (group_lines gs) x) (Decides-like {P = g.letter ≡ x} {Q = x ≡ g.letter} (eqb g.letter x) (λ e. sym e) (λ e. sym e) (Decides-eqb g.letter x)) (letters_told gs x))

-- the test on each mention says that its letter is one of these
module _ (ks : Program) (gs : List ℕ) (told : (x : ℕ) → Decides (has ks x) (In x gs)) where
  grouped-told : (a : Atom) → Decides (grouped ks a) (LetterIn gs a)
  grouped-told (Variable v) = (λ e. tt, λ n. refl)
  grouped-told (Pointed v) = (λ e. tt, λ n. refl)
  grouped-told (Letter g) = told g
  grouped-told (Constant n) = (λ e. tt, λ n. refl)

  pub loose_none : (ms : List Mention) → AllByRecursion (λ (m : Mention). LetterIn gs m.what) ms → first_loose ks ms ≡ None
  loose_none [] a = refl
  loose_none (m ∷ ms) a = rw ((grouped-told m.what).1 a.0) (loose_none ms a.1)

  pub none-loose : (ms : List Mention) → first_loose ks ms ≡ None → AllByRecursion (λ (m : Mention). LetterIn gs m.what) ms
  none-loose [] e = tt
  none-loose (m ∷ ms) e = by (grouped ks m.what) refl e (λ f. none-loose ms f)
    where
      by : (b : Bool) → grouped ks m.what ≡ b → cond b (first_loose ks ms) (Some (report 7 m.line m.place)) ≡ None → (first_loose ks ms ≡ None → AllByRecursion (λ (n : Mention). LetterIn gs n.what) ms) → AllByRecursion (λ (n : Mention). LetterIn gs n.what) (m ∷ ms)
      by true h f more = ((grouped-told m.what).0 h, more f)
      by false h f more = let z : ◌≡◌ {A = ℕ} 0 1 = cc in absurd (omega arith)

-- The list of different constants only grows, so it is within the limit at each mention just where it is so at the end.
noting_grows : (cs : List ℕ) (a : Atom) → length cs ≤ length (noting cs a)
noting_grows cs (Variable v) = omega arith
noting_grows cs (Pointed v) = omega arith
noting_grows cs (Letter g) = omega arith
noting_grows cs (Constant n) = cond_both (ltb (place_of n cs) (length cs)) cs (cs ++ (n ∷ [])) (λ o. length cs ≤ length o) (λ e. omega arith) (λ e. simp length-append (omega arith))

different_grows : (ms : List Mention) (cs : List ℕ) → length cs ≤ length (different ms cs)
different_grows [] cs = omega arith
different_grows (m ∷ ms) cs = omega (arith, noting_grows cs m.what, different_grows ms (noting cs m.what))

pub past_none : (ms : List Mention) (cs : List ℕ) → length (different ms cs) ≤ constant_limit → first_past ms cs ≡ None
past_none [] cs h = refl
past_none (m ∷ ms) cs h =
    let n : length (noting cs m.what) ≤ constant_limit = omega (arith, different_grows ms (noting cs m.what)) in
    rw (le-leb (length (noting cs m.what)) constant_limit n) (past_none ms (noting cs m.what) h)

pub none_past : (ms : List Mention) (cs : List ℕ) → length cs ≤ constant_limit → first_past ms cs ≡ None → length (different ms cs) ≤ constant_limit
none_past [] cs h e = h
none_past (m ∷ ms) cs h e = by (leb (length (noting cs m.what)) constant_limit) refl e (λ n f. none_past ms (noting cs m.what) n f)
  where
    by : (b : Bool) → leb (length (noting cs m.what)) constant_limit ≡ b → cond b (first_past ms (noting cs m.what)) (Some (report 8 m.line m.place)) ≡ None → (length (noting cs m.what) ≤ constant_limit → first_past ms (noting cs m.what) ≡ None → length (different ms (noting cs m.what)) ≤ constant_limit) → length (different (m ∷ ms) cs) ≤ constant_limit
    by true q f more = more (leb-true (length (noting cs m.what)) constant_limit q) f
    by false q f more = let z : ◌≡◌ {A = ℕ} 0 1 = cc in absurd (omega arith)

-- The count of instructions only grows too, so no line goes past the limit just where the whole program does not.
pub over_none : (ks : Program) (w l : ℕ) → w + instructions ks ≤ instruction_limit → first_over w l ks ≡ None
over_none [] w l h = refl
over_none (k ∷ ks) w l h =
    let n : w + side_count k.side ≤ instruction_limit = omega arith in
    rw (le-leb (w + side_count k.side) instruction_limit n) (over_none ks (w + side_count k.side) (suc l) (omega arith))

pub none_over : (ks : Program) (w l : ℕ) → w ≤ instruction_limit → first_over w l ks ≡ None → w + instructions ks ≤ instruction_limit
none_over [] w l h e = omega arith
none_over (k ∷ ks) w l h e = by (leb (w + side_count k.side) instruction_limit) refl e (λ n f. none_over ks (w + side_count k.side) (suc l) n f)
  where
    by : (b : Bool) → leb (w + side_count k.side) instruction_limit ≡ b → cond b (first_over (w + side_count k.side) (suc l) ks) (Some (report 9 l 0)) ≡ None → (w + side_count k.side ≤ instruction_limit → first_over (w + side_count k.side) (suc l) ks ≡ None → w + side_count k.side + instructions ks ≤ instruction_limit) → w + instructions (k ∷ ks) ≤ instruction_limit
    by true q f more = let i : w + side_count k.side + instructions ks ≤ instruction_limit = more (leb-true (w + side_count k.side) instruction_limit q) f in omega arith
    by false q f more = let z : ◌≡◌ {A = ℕ} 0 1 = cc in absurd (omega arith)
