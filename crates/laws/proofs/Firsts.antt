-- The refusals that are judged after all lines name the first that breaks its rule, and where it is written.
-- Each search goes on while the rule holds and stops where it does not, so what was passed holds and what stopped it does not.
-- A mention's place counts the bytes before it: the group letter and the comma, then parentheses, operands and signs as they are written.
use Rattle.std.proofs.Common.{◌≡◌, ℕ, suc, ◌+◌, ◌<◌, ◌≤◌, Bool, true, false, cond, leb, List, [], ◌∷◌, ◌++◌, length, Some, sym, refl, ap, ◌∙◌, subst, append_assoc, arith}
use Rattle.std.proofs.ByRecursion.{All-append, All-weaker}
use Rattle.std.proofs.lemmas.List.{length-append}
use Rattle.std.proofs.lemmas.Bool.{leb-true, leb-false}
use Rattle.std.specs.List.{AllByRecursion}
use Rattle.rules.specs.declared.formula.Atom.{Atom}
use Rattle.rules.specs.declared.formula.Atom.TheVariants.{Variable, Pointed, Letter, Constant}
use Rattle.rules.specs.declared.refusal.Report.{Report}
use Rattle.rules.specs.Refusals.{report}
use Rattle.rules.specs.Codes.{sign_byte}
use Rattle.rules.specs.Tree.{Operand, atom, pair, Side, reading, single, both, Program}
use Rattle.rules.specs.Written.{written_atom, written, written_side, written_target, written_line}
use Rattle.rules.specs.Mentions.{Mention, atom_mentions, mentions, side_mentions, program_mentions, grouped, first_loose, noting, different, first_past}
use Rattle.rules.specs.Operations.{side_count, instructions, first_over}
use Rattle.laws.specs.Firsts.{Stands, Written, MentionsWritten, FirstIn, LettersFirst, ConstantsFirst, InstructionsFirst}

some_same : {r s : Report} → Some r ≡ Some s → r ≡ s
some_same e = cc

pub letters_first : LettersFirst
letters_first ks [] r e = let z : ◌≡◌ {A = ℕ} 0 1 = cc in absurd (omega arith)
letters_first ks (m ∷ ms) r e = by (letters_first ks ms r) (grouped ks m.what) refl e
  where
    by : (first_loose ks ms ≡ Some r → FirstIn ms (AllByRecursion (λ (n : Mention). grouped ks n.what ≡ true)) (λ before n. (grouped ks n.what ≡ false) × (r ≡ report 7 n.line n.place))) → (b : Bool) → grouped ks m.what ≡ b → cond b (first_loose ks ms) (Some (report 7 m.line m.place)) ≡ Some r → FirstIn (m ∷ ms) (AllByRecursion (λ (n : Mention). grouped ks n.what ≡ true)) (λ before n. (grouped ks n.what ≡ false) × (r ≡ report 7 n.line n.place))
    by more true g e = let f = more e in record { before = m ∷ f.before; it = f.it; after = f.after; is = ap (λ (o : List Mention). m ∷ o) f.is; holds = (g, f.holds); breaks = f.breaks }
    by more false g e = record { before = []; it = m; after = ms; is = refl; holds = tt; breaks = (g, sym (some_same e)) }

-- the same from some constants on
abbrev PastIn : List Mention → List ℕ → Report → Type 0
PastIn ms cs r = FirstIn ms (λ before. length (different before cs) ≤ 46) (λ before m. (46 < length (different (before ++ (m ∷ [])) cs)) × (r ≡ report 8 m.line m.place))

past_first : (ms : List Mention) (cs : List ℕ) (r : Report) → length cs ≤ 46 → first_past ms cs ≡ Some r → PastIn ms cs r
past_first [] cs r h e = let z : ◌≡◌ {A = ℕ} 0 1 = cc in absurd (omega arith)
past_first (m ∷ ms) cs r h e = by (past_first ms (noting cs m.what) r) (leb (length (noting cs m.what)) 46) refl e
  where
    by : (length (noting cs m.what) ≤ 46 → first_past ms (noting cs m.what) ≡ Some r → PastIn ms (noting cs m.what) r) → (b : Bool) → leb (length (noting cs m.what)) 46 ≡ b → cond b (first_past ms (noting cs m.what)) (Some (report 8 m.line m.place)) ≡ Some r → PastIn (m ∷ ms) cs r
    by more true g e = let f = more (leb-true (length (noting cs m.what)) 46 g) e in record { before = m ∷ f.before; it = f.it; after = f.after; is = ap (λ (o : List Mention). m ∷ o) f.is; holds = f.holds; breaks = f.breaks }
    by more false g e = record { before = []; it = m; after = ms; is = refl; holds = h; breaks = (leb-false (length (noting cs m.what)) 46 g, sym (some_same e)) }

pub constants_first : ConstantsFirst
constants_first ms r e = past_first ms [] r (omega arith) e

-- the same with w instructions above line l
abbrev OverIn : Program → ℕ → ℕ → Report → Type 0
OverIn ks w l r = FirstIn ks (λ above. w + instructions above ≤ 372) (λ above k. (372 < w + instructions (above ++ (k ∷ []))) × (r ≡ report 9 (l + length above) 0))

over_first : (ks : Program) (w l : ℕ) (r : Report) → w ≤ 372 → first_over w l ks ≡ Some r → OverIn ks w l r
over_first [] w l r h e = let z : ◌≡◌ {A = ℕ} 0 1 = cc in absurd (omega arith)
over_first (k ∷ ks) w l r h e = by (over_first ks (w + side_count k.side) (suc l) r) (leb (w + side_count k.side) 372) refl e
  where
    by : (w + side_count k.side ≤ 372 → first_over (w + side_count k.side) (suc l) ks ≡ Some r → OverIn ks (w + side_count k.side) (suc l) r) → (b : Bool) → leb (w + side_count k.side) 372 ≡ b → cond b (first_over (w + side_count k.side) (suc l) ks) (Some (report 9 l 0)) ≡ Some r → OverIn (k ∷ ks) w l r
    by more true g e =
        let f = more (leb-true (w + side_count k.side) 372 g) e in
        record { before = k ∷ f.before; it = f.it; after = f.after; is = ap (λ (o : Program). k ∷ o) f.is; holds = omega (arith, f.holds); breaks = (omega (arith, f.breaks.0), f.breaks.1 ∙ ap (λ (n : ℕ). report 9 n 0) (omega arith)) }
    by more false g e = record { before = []; it = k; after = ks; is = refl; holds = omega arith; breaks = (omega (arith, leb-false (w + side_count k.side) 372 g), sym (some_same e) ∙ ap (λ (n : ℕ). report 9 n 0) (omega arith)) }

pub instructions_first : InstructionsFirst
instructions_first ks r e =
    let f = over_first ks 0 1 r (omega arith) e in
    record { before = f.before; it = f.it; after = f.after; is = f.is; holds = omega (arith, f.holds); breaks = (omega (arith, f.breaks.0), f.breaks.1 ∙ ap (λ (n : ℕ). report 9 n 0) (omega arith)) }

-- where the letters and constants of an operand stand, between the bytes before it and those after it
atom_stands : (x : Atom) (l p : ℕ) (pre post : List ℕ) → p ≡ suc (length pre) → AllByRecursion (Stands l (pre ++ (written_atom x ++ post))) (atom_mentions l p x)
atom_stands (Variable v) l p pre post e = tt
atom_stands (Pointed v) l p pre post e = tt
atom_stands (Letter g) l p pre post e = (record { line = refl; front = pre; back = post; is = refl; place = e }, tt)
atom_stands (Constant n) l p pre post e = (record { line = refl; front = pre; back = post; is = refl; place = e }, tt)

moved : (l : ℕ) (ms : List Mention) (xs ys : List ℕ) → xs ≡ ys → AllByRecursion (Stands l xs) ms → AllByRecursion (Stands l ys) ms
moved l ms xs ys e a = subst (λ (o : List ℕ). AllByRecursion (Stands l o) ms) e a

operand_stands : (x : Operand) (l p : ℕ) (pre post : List ℕ) → p ≡ suc (length pre) → AllByRecursion (Stands l (pre ++ (written x ++ post))) (mentions l p x)
operand_stands (atom x) l p pre post e = atom_stands x l p pre post e
operand_stands (pair x s y) l p pre post e =
    let front : List ℕ = pre ++ (40 ∷ (written x ++ (sign_byte s ∷ []))) in
    let n : length front ≡ length pre + length (written x) + 2 = simp length-append (omega arith) in
    let m : length (pre ++ (40 ∷ [])) ≡ length pre + 1 = simp length-append (omega arith) in
    All-append _ (mentions l (suc p) x) (mentions l (suc (suc p) + length (written x)) y)
    (moved l (mentions l (suc p) x) _ _ (simp append_assoc) (operand_stands x l (suc p) (pre ++ (40 ∷ [])) (sign_byte s ∷ (written y ++ (41 ∷ post))) (omega arith)))
    (moved l (mentions l (suc (suc p) + length (written x)) y) _ _ (simp append_assoc) (operand_stands y l (suc (suc p) + length (written x)) front (41 ∷ post) (omega arith)))

side_stands : (z : Side) (l g : ℕ) (post : List ℕ) → AllByRecursion (Stands l (g ∷ (44 ∷ (written_side z ++ post)))) (side_mentions l z)
side_stands reading l g post = tt
side_stands (single x) l g post = atom_stands x l 3 (g ∷ (44 ∷ [])) post refl
side_stands (both x s y) l g post =
    let front : List ℕ = g ∷ (44 ∷ (written x ++ (sign_byte s ∷ []))) in
    let n : length front ≡ length (written x) + 3 = simp length-append (omega arith) in
    All-append _ (mentions l 3 x) (mentions l (4 + length (written x)) y)
    (moved l (mentions l 3 x) _ _ (simp append_assoc) (operand_stands x l 3 (g ∷ (44 ∷ [])) (sign_byte s ∷ (written y ++ post)) refl))
    (moved l (mentions l (4 + length (written x)) y) _ _ (simp append_assoc) (operand_stands y l (4 + length (written x)) front post (omega arith)))

lines_written : (ks above below : Program) (l : ℕ) → ks ≡ above ++ below → l ≡ suc (length above) → AllByRecursion (Written ks) (program_mentions l below)
lines_written ks above [] l e f = tt
lines_written ks above (k ∷ below) l e f =
    let n : length (above ++ (k ∷ [])) ≡ length above + 1 = simp length-append (omega arith) in
    All-append (Written ks) (side_mentions l k.side) (program_mentions (suc l) below)
    (All-weaker (Stands l (written_line k)) (Written ks) (λ m s. record { above = above; k = k; below = below; lines = e; stands = subst (λ (o : ℕ). Stands o (written_line k) m) f s }) (side_mentions l k.side) (side_stands k.side l k.group (44 ∷ written_target k.target)))
    (lines_written ks (above ++ (k ∷ [])) below (suc l) (e ∙ sym (append_assoc above (k ∷ []) below)) (omega arith))

pub mentions_written : MentionsWritten
mentions_written ks = lines_written ks [] ks 1 refl refl
