-- The first letter without group, byte by byte and line by line.
use Rattle.std.proofs.Common.{◌≡◌, ℕ, suc, ◌+◌, ◌-◌, ◌<◌, ◌≤◌, Bool, true, false, cond, not, ltb, List, [], ◌∷◌, ◌++◌, length, get_or, Some, None, sym, refl, ap, ◌∙◌, arith}
use Rattle.std.proofs.lemmas.Bool.Decides.{nat_tests}
use Rattle.std.specs.List.{prefix_len, position}
use Rattle.rules.specs.declared.formula.Atom.TheVariants.{Letter}
use Rattle.rules.specs.declared.refusal.Report.{Report}
use Rattle.rules.specs.Refusals.{report}
use Rattle.rules.specs.Tree.{Program}
use Rattle.rules.specs.Reading.{Read, got, fails, between, is_digit, constant_at}
use Rattle.rules.specs.Texts.{has}
use Rattle.rules.specs.Mentions.{Mention, mention, grouped, first_loose}
use Rattle.compiler.specs.declared.groups.Groups.{Groups}
use Rattle.compiler.specs.Counted.{Marks}
use Rattle.compiler.specs.Scan.{scan, found}
use Rattle.compiler.specs.Mentioned.{lacks}

letter_bounds : (x : ℕ) → between 65 90 x ≡ true → (65 ≤ x) × (x ≤ 90)
letter_bounds x e = grind (arith, nat_tests)

digit_fine : (ks : Program) (l p : ℕ) (b : Bool) (x : Read ℕ) (ms : List Mention) → first_loose ks (cond b ms (found l p x ms)) ≡ first_loose ks ms
digit_fine ks l p true x ms = refl
digit_fine ks l p false (got n rest) ms = refl
digit_fine ks l p false (fails e left) ms = refl

-- past a byte that is no letter without group
record Past (ks : Program) (l p : ℕ) (ms : List Mention) (xs : List ℕ) : Type 0 where
  inside : Bool
  is : first_loose ks ms ≡ first_loose ks (scan l inside p xs)

past_byte : (g : Groups) (ks : Program) (l p x : ℕ) (b : Bool) (xs : List ℕ) → lacks g x ≡ false → Marks g ks → Past ks l (suc p) (scan l b p (x ∷ xs)) xs
past_byte g ks l p x b xs e m = digit b (is_digit x) refl
  where
    letter : (c : Bool) → is_digit x ≡ false → (u : Bool) → between 65 90 x ≡ u → Past ks l (suc p) (scan l c p (x ∷ xs)) xs
    letter c d true f =
        let r = letter_bounds x f in
        let v : get_or g.seen (x - 65) false ≡ true = grind (arith, nat_tests) in
        let z : has ks x ≡ true = sym (m.each x r.0 r.1) ∙ v in
        record { inside = false; is = rw (d, f, z) }
    letter c d false f = record { inside = false; is = rw (d, f) }

    digit : (c u : Bool) → is_digit x ≡ u → Past ks l (suc p) (scan l c p (x ∷ xs)) xs
    digit c true d =
        let more : List Mention = scan l true (suc p) xs in
        let others : List Mention = cond (between 65 90 x) (mention l p (Letter x) ∷ scan l false (suc p) xs) (scan l false (suc p) xs) in
        record { inside = true; is = ap (λ (u : Bool). first_loose ks (cond u (cond c more (found l p (constant_at (x ∷ xs)) more)) others)) d ∙ digit_fine ks l p c (constant_at (x ∷ xs)) more }
    digit c false d = letter c d (between 65 90 x) refl

loose_byte : (g : Groups) (ks : Program) (l p x : ℕ) (b : Bool) (xs : List ℕ) → lacks g x ≡ true → Marks g ks → first_loose ks (scan l b p (x ∷ xs)) ≡ Some (report 7 l p)
loose_byte g ks l p x b xs e m =
    let f : between 65 90 x ≡ true = grind (arith, nat_tests) in
    let d : is_digit x ≡ false = grind (arith, nat_tests) in
    let r = letter_bounds x f in
    let v : get_or g.seen (x - 65) false ≡ false = grind (arith, nat_tests) in
    let z : has ks x ≡ false = sym (m.each x r.0 r.1) ∙ v in
    rw (d, f, z)

-- how many bytes stand before the first letter without group
abbrev before : Groups → List ℕ → ℕ
before g xs = prefix_len (λ x. not (lacks g x)) xs

loose_none : (g : Groups) (ks : Program) (l p : ℕ) (b : Bool) (xs : List ℕ) → length xs ≤ before g xs → Marks g ks → first_loose ks (scan l b p xs) ≡ None
loose_none g ks l p b [] h m = refl
loose_none g ks l p b (x ∷ xs) h m = by (λ c f. loose_none g ks l (suc p) c xs f m) (lacks g x) refl
  where
    by : ((c : Bool) → length xs ≤ before g xs → first_loose ks (scan l c (suc p) xs) ≡ None) → (u : Bool) → lacks g x ≡ u → first_loose ks (scan l b p (x ∷ xs)) ≡ None
    by more true e = let n : before g (x ∷ xs) ≡ 0 = rw e in absurd (omega (arith, h))
    by more false e =
        let s = past_byte g ks l p x b xs e m in
        let n : before g (x ∷ xs) ≡ 1 + before g xs = rw e in
        s.is ∙ more s.inside (omega (arith, h))

loose_at : (g : Groups) (ks : Program) (l p : ℕ) (b : Bool) (xs : List ℕ) → before g xs < length xs → Marks g ks → first_loose ks (scan l b p xs) ≡ Some (report 7 l (p + before g xs))
loose_at g ks l p b [] h m = absurd (omega arith)
loose_at g ks l p b (x ∷ xs) h m = by (λ c f. loose_at g ks l (suc p) c xs f m) (lacks g x) refl
  where
    by : ((c : Bool) → before g xs < length xs → first_loose ks (scan l c (suc p) xs) ≡ Some (report 7 l (suc p + before g xs))) → (u : Bool) → lacks g x ≡ u → first_loose ks (scan l b p (x ∷ xs)) ≡ Some (report 7 l (p + before g (x ∷ xs)))
    by more true e =
        let n : before g (x ∷ xs) ≡ 0 = rw e in
        let k : p + before g (x ∷ xs) ≡ p = omega arith in
        rw k (loose_byte g ks l p x b xs e m)
    by more false e =
        let s = past_byte g ks l p x b xs e m in
        let n : before g (x ∷ xs) ≡ 1 + before g xs = rw e in
        let k : p + before g (x ∷ xs) ≡ suc p + before g xs = omega arith in
        rw k (s.is ∙ more s.inside (omega (arith, h)))

-- as the code finds it
pub loose_found : (g : Groups) (ks : Program) (l p i : ℕ) (b : Bool) (xs : List ℕ) → position (lacks g) xs ≡ Some i → Marks g ks → first_loose ks (scan l b p xs) ≡ Some (report 7 l (p + i))
loose_found g ks l p i b xs e m = by (ltb (before g xs) (length xs)) refl e
  where
    by : (u : Bool) → ltb (before g xs) (length xs) ≡ u → cond u (Some (before g xs)) None ≡ Some i → first_loose ks (scan l b p xs) ≡ Some (report 7 l (p + i))
    by true f h =
        let k : before g xs ≡ i = cc in
        let n : before g xs < length xs = grind (arith, nat_tests) in
        rw (sym k) (loose_at g ks l p b xs n m)
    by false f h = let z : ◌≡◌ {A = ℕ} 0 1 = cc in absurd (omega arith)

pub loose_clear : (g : Groups) (ks : Program) (l p : ℕ) (b : Bool) (xs : List ℕ) → position (lacks g) xs ≡ None → Marks g ks → first_loose ks (scan l b p xs) ≡ None
loose_clear g ks l p b xs e m = by (ltb (before g xs) (length xs)) refl e
  where
    by : (u : Bool) → ltb (before g xs) (length xs) ≡ u → cond u (Some (before g xs)) None ≡ None → first_loose ks (scan l b p xs) ≡ None
    by true f h = let z : ◌≡◌ {A = ℕ} 0 1 = cc in absurd (omega arith)
    by false f h = let n : length xs ≤ before g xs = grind (arith, nat_tests) in loose_none g ks l p b xs n m

-- one line's letters and those of the lines below
pub loose_on : (ks : Program) (ms ns : List Mention) → first_loose ks ms ≡ None → first_loose ks (ms ++ ns) ≡ first_loose ks ns
loose_on ks [] ns e = refl
loose_on ks (m ∷ ms) ns e = by (loose_on ks ms ns) (grouped ks m.what) e
  where
    by : (first_loose ks ms ≡ None → first_loose ks (ms ++ ns) ≡ first_loose ks ns) → (b : Bool) → cond b (first_loose ks ms) (Some (report 7 m.line m.place)) ≡ None → cond b (first_loose ks (ms ++ ns)) (Some (report 7 m.line m.place)) ≡ first_loose ks ns
    by more true e = more e
    by more false e = let z : ◌≡◌ {A = ℕ} 0 1 = cc in absurd (omega arith)

pub loose_stays : (ks : Program) (ms ns : List Mention) (r : Report) → first_loose ks ms ≡ Some r → first_loose ks (ms ++ ns) ≡ Some r
loose_stays ks [] ns r e = let z : ◌≡◌ {A = ℕ} 0 1 = cc in absurd (omega arith)
loose_stays ks (m ∷ ms) ns r e = by (loose_stays ks ms ns r) (grouped ks m.what) e
  where
    by : (first_loose ks ms ≡ Some r → first_loose ks (ms ++ ns) ≡ Some r) → (b : Bool) → cond b (first_loose ks ms) (Some (report 7 m.line m.place)) ≡ Some r → cond b (first_loose ks (ms ++ ns)) (Some (report 7 m.line m.place)) ≡ Some r
    by more true e = more e
    by more false e = e
