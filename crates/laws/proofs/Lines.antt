-- A line that is written is read again as what it was, and what was read as a line is what was written.
use Rattle.std.proofs.Common.{◌≡◌, ℕ, ◌-◌, ◌≤◌, Bool, true, false, cond, eqb, leb, ◌⊎◌, List, [], ◌∷◌, ◌++◌, length, drop, sym, refl, ap, ◌∙◌, subst, inl, inr, append_assoc, append-nil, arith}
use Rattle.std.proofs.lemmas.Bool.Decides.{nat_tests}
use Rattle.std.proofs.lemmas.Bool.{ne_eqb, eqb-true, leb-true}
use Rattle.rules.specs.declared.sign.Sign.{Sign}
use Rattle.rules.specs.declared.sign.Sign.TheVariants.{Sum, Product, Difference, Quotient, Distance, Remainder, Greater, Smaller}
use Rattle.rules.specs.declared.formula.Start.{Start}
use Rattle.rules.specs.declared.formula.Start.TheVariants as S
use Rattle.rules.specs.declared.formula.Atom.{Atom}
use Rattle.rules.specs.declared.formula.Atom.TheVariants as A
use Rattle.rules.specs.declared.formula.Target.{Target}
use Rattle.rules.specs.declared.formula.Target.TheVariants as T
use Rattle.rules.specs.declared.refusal.Fault.TheVariants.{LineEndMissing}
use Rattle.rules.specs.Codes.{sign_byte}
use Rattle.rules.specs.Tree.{Operand, atom, pair, Side, reading, single, both, Line}
use Rattle.rules.specs.Written.{written, written_atom, written_side, written_target, written_line}
use Rattle.rules.specs.Reading.{got, fails, onward, first, start, byte_at, variable_at, letter_at, operand_at, second_at, depth_limit, opening_at, single_on, side_after, side_on, side_at, target_on, target_at, end_at, line_at, line_read}
use Rattle.rules.specs.Programs.{GoodAtom, GoodOperand, GoodSide, GoodTarget, GoodLine}
use Rattle.laws.specs.Roundtrip.{LinesRead, LinesWritten}
use Rattle.laws.proofs.Digits.{constant_start}
use Rattle.laws.proofs.Back.{reads_written, writes_read, atom_reads, sign_reads, sign_digits, onward_back, front, byte_back, variable_back, sign_back, got_value, got_rest, from_second, start_variable, start_pointer}

pub opening_reads : (g : ℕ) (xs : List ℕ) → 65 ≤ g → g ≤ 90 → opening_at (g ∷ (44 ∷ xs)) ≡ got g xs
opening_reads g xs l h = grind (arith, nat_tests)

pub target_reads : (t : Target) → GoodTarget t → target_at (written_target t) ≡ got t []
target_reads (T.Variable v) f = grind (arith, nat_tests)
target_reads (T.Pointed v) f = grind (arith, nat_tests)
target_reads T.Label f = refl
target_reads T.Place f = refl

-- an operand does not begin like a reading
pub atom_first : (x : Atom) (rest : List ℕ) → GoodAtom x → first (written_atom x ++ rest) ≡ 63 → ⊥
atom_first (A.Variable v) rest f e = omega arith
atom_first (A.Pointed v) rest f e = omega arith
atom_first (A.Letter g) rest f e = omega arith
atom_first (A.Constant n) rest f e = let z : S.Digit ≡ S.Other = sym (constant_start n rest f) ∙ ap start e in let y : ◌≡◌ {A = ℕ} 0 1 = cc in omega arith

pub operand_first : (x : Operand) (n : ℕ) (rest : List ℕ) → GoodOperand n x → first (written x ++ rest) ≡ 63 → ⊥
operand_first (atom x) n rest f e = atom_first x rest f e
operand_first (pair l s r) n rest f e = omega arith

pub sign_comma : (s : Sign) → eqb (sign_byte s) 44 ≡ false
sign_comma Sum = refl
sign_comma Product = refl
sign_comma Difference = refl
sign_comma Quotient = refl
sign_comma Distance = refl
sign_comma Remainder = refl
sign_comma Greater = refl
sign_comma Smaller = refl

pub after_reads : (l r : Operand) (s : Sign) (rest : List ℕ) → second_at depth_limit (sign_byte s ∷ (written r ++ rest)) ≡ got (s, r) rest → side_after l (sign_byte s ∷ (written r ++ rest)) ≡ got (both l s r) rest
after_reads (atom x) r s rest e = rw (sign_comma s, e)
after_reads (pair x o y) r s rest e = rw e

pub side_reads : (z : Side) (rest : List ℕ) → GoodSide z → side_at (written_side z ++ (44 ∷ rest)) ≡ got z (44 ∷ rest)
side_reads reading rest f = refl
side_reads (single x) rest f = rw (ne_eqb (first (written_atom x ++ (44 ∷ rest))) 63 (atom_first x (44 ∷ rest) f), atom_reads x depth_limit (44 ∷ rest) f refl)
side_reads (both l s r) rest f =
    let more : List ℕ = written r ++ (44 ∷ rest) in
    let right : operand_at depth_limit (written r ++ (44 ∷ rest)) ≡ got r (44 ∷ rest) = reads_written r depth_limit (44 ∷ rest) f.1 refl in
    let left : operand_at depth_limit (written l ++ (sign_byte s ∷ more)) ≡ got l (sign_byte s ∷ more) = reads_written l depth_limit (sign_byte s ∷ more) f.0 (sign_digits s more) in
    let q : second_at depth_limit (sign_byte s ∷ more) ≡ got (s, r) (44 ∷ rest) = rw (sign_reads, right) in
    rw (append_assoc, ne_eqb (first (written l ++ (sign_byte s ∷ more))) 63 (operand_first l depth_limit (sign_byte s ∷ more) f.0), left, after_reads l r s (44 ∷ rest) q)

pub lines_read : LinesRead
lines_read k f = rw (opening_reads k.group (written_side k.side ++ (44 ∷ written_target k.target)) f.group.0 f.group.1, side_reads k.side (written_target k.target) f.side, target_reads k.target f.target)

-- the other way

pub letter_back : (xs rest : List ℕ) (v : ℕ) → letter_at xs ≡ got v rest → (65 ≤ v) × (v ≤ 90) × (xs ≡ v ∷ rest)
letter_back xs rest v e =
    let b : (65 ≤ first xs) × (first xs ≤ 90) = grind (arith, nat_tests) in
    let f : first xs ≡ v = grind (arith, nat_tests) in
    let r : drop 1 xs ≡ rest = grind (arith, nat_tests) in
    let g : xs ≡ first xs ∷ drop 1 xs = front xs (omega arith) in
    (omega arith, omega arith, cc)

pub opening_back : (xs rest : List ℕ) (g : ℕ) → opening_at xs ≡ got g rest → (65 ≤ g) × (g ≤ 90) × (xs ≡ g ∷ (44 ∷ rest))
opening_back xs rest g e = let a = onward_back (letter_at xs) _ g rest e in next a.0 a.1 a.2 a.3
  where
    next : (h : ℕ) (ys : List ℕ) → letter_at xs ≡ got h ys → onward (byte_at 44 ys) (λ _ zs. got h zs) ≡ got g rest → (65 ≤ g) × (g ≤ 90) × (xs ≡ g ∷ (44 ∷ rest))
    next h ys e₁ e₂ =
        let u = letter_back xs ys h e₁ in
        let b = onward_back (byte_at 44 ys) _ g rest e₂ in
        let y : ys ≡ 44 ∷ b.1 = byte_back 44 ys b.1 b.0 (omega arith) b.2 in
        let p : h ≡ g = got_value b.3 in
        let q : b.1 ≡ rest = got_rest b.3 in
        (omega arith, omega arith, u.2 ∙ cc)

abbrev SideBack : List ℕ → List ℕ → Side → Type 0
SideBack xs rest z = GoodSide z × (xs ≡ written_side z ++ rest)

both_back : (t : Operand) (xs ys rest : List ℕ) (z : Side) → GoodOperand depth_limit t → xs ≡ written t ++ ys → onward (second_at depth_limit ys) (λ q zs. got (both t q.0 q.1) zs) ≡ got z rest → SideBack xs rest z
both_back t xs ys rest z f x e = let a = onward_back (second_at depth_limit ys) _ z rest e in next a.0 a.1 a.2 a.3
  where
    next : (q : Sign × Operand) (zs : List ℕ) → second_at depth_limit ys ≡ got q zs → got (both t q.0 q.1) zs ≡ got z rest → SideBack xs rest z
    next q zs e₁ e₂ =
        let g = from_second (operand_at depth_limit) ys zs q e₁ in
        let w = writes_read depth_limit g.0 zs q.1 g.2 in
        let i : ys ≡ sign_byte q.0 ∷ g.0 = sign_back ys g.0 q.0 g.1 in
        let j : xs ≡ (written t ++ (sign_byte q.0 ∷ written q.1)) ++ zs = x ∙ (ap (λ us. written t ++ us) (i ∙ ap (λ us. sign_byte q.0 ∷ us) w.1) ∙ sym (append_assoc (written t) (sign_byte q.0 ∷ written q.1) zs)) in
        subst (λ v. SideBack xs rest v) (got_value e₂) ((f, w.0), j ∙ ap (λ us. (written t ++ (sign_byte q.0 ∷ written q.1)) ++ us) (got_rest e₂))

single_back : (b : Bool) (x : Atom) (xs ys rest : List ℕ) (z : Side) → GoodAtom x → xs ≡ written_atom x ++ ys → single_on b x ys ≡ got z rest → SideBack xs rest z
single_back true x xs ys rest z f i e = subst (λ v. SideBack xs rest v) (got_value e) (f, i ∙ ap (λ us. written_atom x ++ us) (got_rest e))
single_back false x xs ys rest z f i e = both_back (atom x) xs ys rest z f i e

after_back : (t : Operand) (xs ys rest : List ℕ) (z : Side) → GoodOperand depth_limit t → xs ≡ written t ++ ys → side_after t ys ≡ got z rest → SideBack xs rest z
after_back (atom x) xs ys rest z f i e = single_back (eqb (first ys) 44) x xs ys rest z f i e
after_back (pair l o r) xs ys rest z f i e = both_back (pair l o r) xs ys rest z f i e

side_on_lem : (xs rest : List ℕ) (z : Side) (b : Bool) → eqb (first xs) 63 ≡ b → side_on b xs ≡ got z rest → SideBack xs rest z
side_on_lem xs rest z true c e =
    let f : first xs ≡ 63 = eqb-true (first xs) 63 c in
    subst (λ v. SideBack xs rest v) (got_value e) (tt, front xs (omega arith) ∙ (ap (λ h. h ∷ drop 1 xs) f ∙ ap (λ us. 63 ∷ us) (got_rest e)))
side_on_lem xs rest z false c e =
    let a = onward_back (operand_at depth_limit xs) side_after z rest e in
    let w = writes_read depth_limit xs a.1 a.0 a.2 in
    after_back a.0 xs a.1 rest z w.0 w.1 a.3

pub side_back : (xs rest : List ℕ) (z : Side) → side_at xs ≡ got z rest → GoodSide z × (xs ≡ written_side z ++ rest)
side_back xs rest z e = side_on_lem xs rest z (eqb (first xs) 63) refl e

abbrev TargetBack : List ℕ → List ℕ → Target → Type 0
TargetBack xs rest t = GoodTarget t × (xs ≡ written_target t ++ rest)

target_on_lem : (xs rest : List ℕ) (t : Target) (k : Start) → k ≡ start (first xs) → target_on k xs ≡ got t rest → TargetBack xs rest t
target_on_lem xs rest t S.Parenthesis s e = let z : ◌≡◌ {A = ℕ} 0 1 = cc in absurd (omega arith)
target_on_lem xs rest t S.Variable s e =
    let b = start_variable (first xs) s in
    subst (λ v. TargetBack xs rest v) (got_value e) (b, front xs (omega arith) ∙ ap (λ us. first xs ∷ us) (got_rest e))
target_on_lem xs rest t S.Pointer s e =
    let b = start_pointer (first xs) s in
    let p = onward_back (variable_at (drop 1 xs)) _ t rest e in
    let w = variable_back (drop 1 xs) p.1 p.0 p.2 in
    subst (λ v. TargetBack xs rest v) (got_value p.3) ((w.0, w.1), front xs (omega arith) ∙ (ap (λ c. c ∷ drop 1 xs) b ∙ (ap (λ us. 64 ∷ us) w.2 ∙ ap (λ us. 64 ∷ (p.0 ∷ us)) (got_rest p.3))))
target_on_lem xs rest t S.Letter s e = let z : ◌≡◌ {A = ℕ} 0 1 = cc in absurd (omega arith)
target_on_lem xs rest t S.Digit s e = let z : ◌≡◌ {A = ℕ} 0 1 = cc in absurd (omega arith)
target_on_lem xs rest t S.Other s e =
    let h : ((first xs ≡ 63) × (T.Label ≡ t)) ⊎ ((first xs ≡ 35) × (T.Place ≡ t)) = grind (arith, nat_tests) in
    let r : drop 1 xs ≡ rest = grind (arith, nat_tests) in
    elim h [ inl q ↦ subst (λ v. TargetBack xs rest v) q.1 (tt, front xs (omega (arith, q.0)) ∙ (ap (λ c. c ∷ drop 1 xs) q.0 ∙ ap (λ us. 63 ∷ us) r)) | inr q ↦ subst (λ v. TargetBack xs rest v) q.1 (tt, front xs (omega (arith, q.0)) ∙ (ap (λ c. c ∷ drop 1 xs) q.0 ∙ ap (λ us. 35 ∷ us) r)) ]

pub target_back : (xs rest : List ℕ) (t : Target) → target_at xs ≡ got t rest → GoodTarget t × (xs ≡ written_target t ++ rest)
target_back xs rest t e = target_on_lem xs rest t (start (first xs)) refl e

pub end_back : (vs rest : List ℕ) (k l : Line) → end_at k vs ≡ got l rest → (k ≡ l) × (vs ≡ []) × (rest ≡ [])
end_back [] rest k l e = (got_value e, refl, sym (got_rest e))
end_back (v ∷ vs) rest k l e = let z : ◌≡◌ {A = ℕ} 0 1 = cc in absurd (omega arith)

pub lines_written : LinesWritten
lines_written xs rest k e = let a = onward_back (opening_at xs) _ k rest e in sides a.0 a.1 (opening_back xs a.1 a.0 a.2) a.3
  where
    targets : (g : ℕ) (s : Side) (us : List ℕ) → (65 ≤ g) × (g ≤ 90) × (xs ≡ g ∷ (44 ∷ (written_side s ++ (44 ∷ us)))) → GoodSide s → onward (target_at us) (λ t vs. end_at (record { group = g; side = s; target = t }) vs) ≡ got k rest → GoodLine k × (xs ≡ written_line k) × (rest ≡ [])
    targets g s us o f e =
        let c = onward_back (target_at us) _ k rest e in
        let t = target_back us c.1 c.0 c.2 in
        let n = end_back c.1 rest (record { group = g; side = s; target = c.0 }) k c.3 in
        let u : us ≡ written_target c.0 = t.1 ∙ (ap (λ vs. written_target c.0 ++ vs) n.1 ∙ append-nil (written_target c.0)) in
        let P : Line → Type 0 = λ v. GoodLine v × (xs ≡ written_line v) × (rest ≡ []) in
        subst P n.0 (record { group = (o.0, o.1); side = f; target = t.0 }, o.2 ∙ ap (λ vs. g ∷ (44 ∷ (written_side s ++ (44 ∷ vs)))) u, n.2)

    commas : (g : ℕ) (s : Side) (ys zs : List ℕ) → (65 ≤ g) × (g ≤ 90) × (xs ≡ g ∷ (44 ∷ ys)) → GoodSide s × (ys ≡ written_side s ++ zs) → onward (byte_at 44 zs) (λ _ us. onward (target_at us) (λ t vs. end_at (record { group = g; side = s; target = t }) vs)) ≡ got k rest → GoodLine k × (xs ≡ written_line k) × (rest ≡ [])
    commas g s ys zs o f e =
        let b = onward_back (byte_at 44 zs) _ k rest e in
        let y : zs ≡ 44 ∷ b.1 = byte_back 44 zs b.1 b.0 (omega arith) b.2 in
        targets g s b.1 (o.0, o.1, o.2 ∙ ap (λ vs. g ∷ (44 ∷ vs)) (f.1 ∙ ap (λ vs. written_side s ++ vs) y)) f.0 b.3

    sides : (g : ℕ) (ys : List ℕ) → (65 ≤ g) × (g ≤ 90) × (xs ≡ g ∷ (44 ∷ ys)) → onward (side_at ys) (λ s zs. onward (byte_at 44 zs) (λ _ us. onward (target_at us) (λ t vs. end_at (record { group = g; side = s; target = t }) vs))) ≡ got k rest → GoodLine k × (xs ≡ written_line k) × (rest ≡ [])
    sides g ys o e = let a = onward_back (side_at ys) _ k rest e in commas g a.0 ys a.1 o (side_back ys a.1 a.0 a.2) a.3

-- a line that is read is short enough
pub read_short : (p rest : List ℕ) (k : Line) → line_read p ≡ got k rest → (length p ≤ 80) × (line_at p ≡ got k rest)
read_short p rest k e = by (leb (length p) 80) refl e
  where
    by : (b : Bool) → leb (length p) 80 ≡ b → cond b (line_at p) (fails LineEndMissing (length p - 80)) ≡ got k rest → (length p ≤ 80) × (line_at p ≡ got k rest)
    by true h f = (leb-true (length p) 80 h, f)
    by false h f = let z : ◌≡◌ {A = ℕ} 0 1 = cc in absurd (omega arith)
