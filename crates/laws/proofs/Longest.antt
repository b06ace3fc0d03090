-- No tape is longer than 491 words.
-- Inside a group the letter stays the same, so each group has at most one head, and beside the heads the code is the instructions.
-- The letters of the groups are distinct and from A to Z, so there are at most 26; the constants and the instructions have their limits.
use Rattle.std.proofs.Common.{◌≡◌, ℕ, zero, suc, ◌+◌, ◌<◌, ◌≤◌, Bool, true, false, cond, eqb, List, [], ◌∷◌, ◌++◌, length, Some, None, Option, sym, refl, ap, ◌∙◌, subst, inl, inr, arith}
use Rattle.std.specs.List.{AllByRecursion}
use Rattle.std.proofs.lemmas.Bool.{false≢true, eqb-true, eqb-false, eq-eqb, or_cases}
use Rattle.rules.specs.declared.formula.Target.TheVariants.{Place}
use Rattle.rules.specs.Tree.{Side, Program}
use Rattle.rules.specs.Texts.{has}
use Rattle.rules.specs.Mentions.{constants_of}
use Rattle.rules.specs.Operations.{instructions}
use Rattle.rules.specs.Words.{same_group, code_words, tape_of}
use Rattle.rules.specs.Programs.{IsLetter, GoodLine, Formula, Group, formula_lines, group_lines, letters, In, Distinct, WellFormed}
use Rattle.laws.specs.Longest.{LongestTape}
use Rattle.laws.proofs.Limits.{letters_told}
use Rattle.laws.proofs.Lengths.{code_length, tape_length}
use Rattle.laws.proofs.Accepting.{accepted_written}

-- a list without the first that equals g
abbrev without : ℕ → List ℕ → List ℕ
without g [] = []
without g (x ∷ xs) = cond (eqb x g) xs (x ∷ without g xs)

without_length : (g : ℕ) (xs : List ℕ) → length xs ≤ suc (length (without g xs))
without_length g [] = omega arith
without_length g (x ∷ xs) = by (eqb x g) (without_length g xs)
  where
    by : (b : Bool) → length xs ≤ suc (length (without g xs)) → length (x ∷ xs) ≤ suc (length (cond b xs (x ∷ without g xs)))
    by true h = omega arith
    by false h = omega arith

without_in : (g : ℕ) (xs : List ℕ) → Distinct xs → (x : ℕ) → In x (without g xs) → In x xs × (x ≡ g → ⊥)
without_in g [] d x n = absurd n
without_in g (y ∷ ys) d x n = by (eqb y g) refl n (without_in g ys d.1 x)
  where
    by : (b : Bool) → eqb y g ≡ b → In x (cond b ys (y ∷ without g ys)) → (In x (without g ys) → In x ys × (x ≡ g → ⊥)) → In x (y ∷ ys) × (x ≡ g → ⊥)
    by true e m more = (inr m, λ q. d.0 (subst (λ (z : ℕ). In z ys) (q ∙ sym (eqb-true y g e)) m))
    by false e (inl q) more = (inl q, λ r. eqb-false y g e (sym q ∙ r))
    by false e (inr m) more = let k = more m in (inr k.0, k.1)

without_distinct : (g : ℕ) (xs : List ℕ) → Distinct xs → Distinct (without g xs)
without_distinct g [] d = tt
without_distinct g (x ∷ xs) d = by (eqb x g) (without_distinct g xs d.1)
  where
    by : (b : Bool) → Distinct (without g xs) → Distinct (cond b xs (x ∷ without g xs))
    by true h = d.1
    by false h = (λ n. d.0 (without_in g xs d.1 x n).0, h)

-- distinct numbers from low on and below low + n are at most n: without the greatest they are at most one less
distinct_few : (n low : ℕ) (xs : List ℕ) → Distinct xs → ((x : ℕ) → In x xs → (low ≤ x) × (x < low + n)) → length xs ≤ n
distinct_few zero low [] d h = omega arith
distinct_few zero low (x ∷ xs) d h = let r = h x (inl refl) in absurd (omega arith)
distinct_few (suc n) low xs d h =
    omega (arith, without_length (low + n) xs, distinct_few n low (without (low + n) xs) (without_distinct (low + n) xs d) (λ x m. let k = without_in (low + n) xs d x m in let r = h x k.0 in (r.0, omega arith)))

-- the letter of a line is from A to Z, and every group has a line
good_has : (ks : Program) (x : ℕ) → AllByRecursion GoodLine ks → has ks x ≡ true → IsLetter x
good_has [] x a h = absurd (false≢true h)
good_has (k ∷ ks) x a h = elim (or_cases (eqb k.group x) (has ks x) h) [ inl e ↦ subst IsLetter (eqb-true k.group x e) a.0.group | inr e ↦ good_has ks x a.1 e ]

letters_few : (gs : List Group) → Distinct (letters gs) → AllByRecursion GoodLine (group_lines gs) → length (letters gs) ≤ 26
letters_few gs d a = distinct_few 26 65 (letters gs) d (λ x n. let g = good_has (group_lines gs) x a ((letters_told gs x).1 n) in (g.0, omega arith))

-- a head where the group begins, and none inside
formulas_words : (cs : List ℕ) (above : Option ℕ) (g : ℕ) (fs : List Formula) (z : Side) (rest : Program) (m : ℕ) → length (code_words cs (Some g) rest) ≤ m + instructions rest → length (code_words cs above (formula_lines g fs z ++ rest)) ≤ cond (same_group above g) 0 1 + m + instructions (formula_lines g fs z ++ rest)
formulas_words cs above g [] z rest m h = omega (arith, code_length cs above (record { group = g; side = z; target = Place }) rest)
formulas_words cs above g (f ∷ fs) z rest m h = omega (arith, code_length cs above (record { group = g; side = f.side; target = f.target }) (formula_lines g fs z ++ rest), rw (eq-eqb g g refl) at (formulas_words cs (Some g) g fs z rest m h))

groups_words : (cs : List ℕ) (above : Option ℕ) (gs : List Group) → length (code_words cs above (group_lines gs)) ≤ length (letters gs) + instructions (group_lines gs)
groups_words cs above [] = omega arith
groups_words cs above (g ∷ gs) = by (same_group above g.letter) (formulas_words cs above g.letter g.formulas g.last (group_lines gs) (length (letters gs)) (groups_words cs (Some g.letter) gs))
  where
    by : (b : Bool) {n : ℕ} → n ≤ cond b 0 1 + length (letters gs) + instructions (group_lines (g ∷ gs)) → n ≤ length (letters (g ∷ gs)) + instructions (group_lines (g ∷ gs))
    by true h = omega arith
    by false h = omega arith

well_formed_words : (ks : Program) → WellFormed ks → length (tape_of (constants_of ks) ks) ≤ 491
well_formed_words ks w =
    let c : length (code_words (constants_of ks) None ks) ≤ length (letters w.groups) + instructions ks = subst (λ (o : Program). length (code_words (constants_of ks) None o) ≤ length (letters w.groups) + instructions o) (sym w.lines) (groups_words (constants_of ks) None w.groups) in
    omega (arith, tape_length (constants_of ks) ks, letters_few w.groups w.distinct (subst (AllByRecursion GoodLine) w.lines w.good))

pub longest_tape : LongestTape
longest_tape text ws e = let a = accepted_written text ws e in omega (arith, ap length a.3, well_formed_words a.0 a.1)
