-- The constants that are met, byte by byte and line by line.
-- What is left to be met, after the constants that are there, stays what the whole was at the start. A letter changes nothing.
use Rattle.std.proofs.Common.{◌≡◌, ℕ, suc, ◌+◌, ◌-◌, ◌<◌, ◌≤◌, Bool, true, false, cond, leb, List, [], ◌∷◌, ◌++◌, length, get_or, take, drop, Some, None, sym, refl, ap, ◌∙◌, arith}
use Rattle.std.proofs.lemmas.List.{drop_more, drop_all, take_rest}
use Rattle.std.proofs.lemmas.Bool.{le-leb}
use Rattle.rules.specs.declared.formula.Atom.TheVariants.{Letter}
use Rattle.rules.specs.declared.refusal.Report.{Report}
use Rattle.rules.specs.Refusals.{report}
use Rattle.rules.specs.Reading.{between, is_digit, constant_at}
use Rattle.rules.specs.Tree.{Program}
use Rattle.rules.specs.Mentions.{Mention, mention, noting, first_past, different, program_mentions}
use Rattle.compiler.specs.Scan.{scan, found}
use Rattle.compiler.specs.Mentioned.{Alike}

alike_same : (ms ns : List Mention) (cs : List ℕ) → ms ≡ ns → Alike ms cs ns cs
alike_same ms ns cs e = (ap (λ o. first_past o cs) e, ap (λ o. different o cs) e)

unchanged : (l p g : ℕ) (b : Bool) (ms : List Mention) (cs : List ℕ) → length cs ≤ 46 → Alike (cond b (mention l p (Letter g) ∷ ms) ms) cs ms cs
unchanged l p g true ms cs h = (rw (le-leb (length cs) 46 h), refl)
unchanged l p g false ms cs h = (refl, refl)

-- past one byte of a side
next_place : (l i : ℕ) (b : Bool) (xs : List ℕ) → scan l b (suc (3 + i)) xs ≡ scan l b (3 + (i + 1)) xs
next_place l i b xs = let n : suc (3 + i) ≡ 3 + (i + 1) = omega arith in rw n

pub past_inside : (l i : ℕ) (xs cs : List ℕ) → i < length xs → is_digit (get_or xs i 0) ≡ true → Alike (scan l true (3 + i) (drop i xs)) cs (scan l true (3 + (i + 1)) (drop (i + 1) xs)) cs
past_inside l i xs cs h d =
    alike_same _ _ cs (ap (scan l true (3 + i)) (drop_more xs i 0 h) ∙ (ap (λ b. cond b (scan l true (suc (3 + i)) (drop (i + 1) xs)) (cond (between 65 90 (get_or xs i 0)) (mention l (3 + i) (Letter (get_or xs i 0)) ∷ scan l false (suc (3 + i)) (drop (i + 1) xs)) (scan l false (suc (3 + i)) (drop (i + 1) xs)))) d ∙ next_place l i true (drop (i + 1) xs)))

pub past_other : (l i : ℕ) (b : Bool) (xs cs : List ℕ) → i < length xs → length cs ≤ 46 → is_digit (get_or xs i 0) ≡ false → Alike (scan l b (3 + i) (drop i xs)) cs (scan l false (3 + (i + 1)) (drop (i + 1) xs)) cs
past_other l i b xs cs h f d =
    let more : List Mention = scan l false (suc (3 + i)) (drop (i + 1) xs) in
    let e : scan l b (3 + i) (drop i xs) ≡ cond (between 65 90 (get_or xs i 0)) (mention l (3 + i) (Letter (get_or xs i 0)) ∷ more) more = ap (scan l b (3 + i)) (drop_more xs i 0 h) ∙ ap (λ u. cond u (cond b (scan l true (suc (3 + i)) (drop (i + 1) xs)) (found l (3 + i) (constant_at (get_or xs i 0 ∷ drop (i + 1) xs)) (scan l true (suc (3 + i)) (drop (i + 1) xs)))) (cond (between 65 90 (get_or xs i 0)) (mention l (3 + i) (Letter (get_or xs i 0)) ∷ more) more)) d in
    rw (e, sym (next_place l i false (drop (i + 1) xs))) (unchanged l (3 + i) (get_or xs i 0) (between 65 90 (get_or xs i 0)) more cs f)

-- the constant that begins at a digit which follows no digit
begins : (l i : ℕ) (xs : List ℕ) → i < length xs → is_digit (get_or xs i 0) ≡ true → scan l false (3 + i) (drop i xs) ≡ found l (3 + i) (constant_at (take (length xs - i) (drop i xs))) (scan l true (3 + (i + 1)) (drop (i + 1) xs))
begins l i xs h d =
    rw (take_rest xs i, drop_more xs i 0 h, sym (next_place l i true (drop (i + 1) xs)))
    (ap (λ b. cond b (found l (3 + i) (constant_at (get_or xs i 0 ∷ drop (i + 1) xs)) (scan l true (suc (3 + i)) (drop (i + 1) xs))) (cond (between 65 90 (get_or xs i 0)) (mention l (3 + i) (Letter (get_or xs i 0)) ∷ scan l false (suc (3 + i)) (drop (i + 1) xs)) (scan l false (suc (3 + i)) (drop (i + 1) xs)))) d)

pub past_begun : (l i : ℕ) (xs cs ds : List ℕ) → i < length xs → is_digit (get_or xs i 0) ≡ true → ((more : List Mention) → Alike (found l (3 + i) (constant_at (take (length xs - i) (drop i xs))) more) cs more ds) → Alike (scan l false (3 + i) (drop i xs)) cs (scan l true (3 + (i + 1)) (drop (i + 1) xs)) ds
past_begun l i xs cs ds h d f = rw (begins l i xs h d) (f (scan l true (3 + (i + 1)) (drop (i + 1) xs)))

pub past_full : (l i : ℕ) (xs cs : List ℕ) (r : Report) → i < length xs → is_digit (get_or xs i 0) ≡ true → ((more : List Mention) → first_past (found l (3 + i) (constant_at (take (length xs - i) (drop i xs))) more) cs ≡ Some r) → first_past (scan l false (3 + i) (drop i xs)) cs ≡ Some r
past_full l i xs cs r h d f = ap (λ o. first_past o cs) (begins l i xs h d) ∙ f (scan l true (3 + (i + 1)) (drop (i + 1) xs))

pub past_end : (l i : ℕ) (b : Bool) (xs cs : List ℕ) → length xs ≤ i → Alike (scan l b (3 + i) (drop i xs)) cs [] cs
past_end l i b xs cs h = alike_same _ _ cs (ap (scan l b (3 + i)) (drop_all i xs h))

-- one line's constants and those of the lines below
alike_append : (ms ns : List Mention) (cs : List ℕ) → first_past ms cs ≡ None → Alike (ms ++ ns) cs ns (different ms cs)
alike_append [] ns cs e = (refl, refl)
alike_append (m ∷ ms) ns cs e = by (alike_append ms ns (noting cs m.what)) (leb (length (noting cs m.what)) 46) e
  where
    by : (first_past ms (noting cs m.what) ≡ None → Alike (ms ++ ns) (noting cs m.what) ns (different ms (noting cs m.what))) → (b : Bool) → cond b (first_past ms (noting cs m.what)) (Some (report 8 m.line m.place)) ≡ None → (cond b (first_past (ms ++ ns) (noting cs m.what)) (Some (report 8 m.line m.place)) ≡ first_past ns (different ms (noting cs m.what))) × (different (ms ++ ns) (noting cs m.what) ≡ different ns (different ms (noting cs m.what)))
    by more true e = more e
    by more false e = let z : ◌≡◌ {A = ℕ} 0 1 = cc in absurd (omega arith)

pub line_taken : (a l m : ℕ) (ks ls : Program) (side bytes : List ℕ) (cs ds : List ℕ) → l ≡ a → m ≡ l + 1 → bytes ≡ side → program_mentions l ks ≡ scan l false 3 side ++ program_mentions (suc l) ls → (first_past (scan l false 3 bytes) cs ≡ None) × (ds ≡ different (scan l false 3 bytes) cs) → Alike (program_mentions a ks) cs (program_mentions m ls) ds
line_taken a l m ks ls side bytes cs ds e f g n t =
    let k : m ≡ suc l = omega (arith, f) in
    let h : first_past (scan l false 3 side) cs ≡ None = ap (λ (o : List ℕ). first_past (scan l false 3 o) cs) (sym g) ∙ t.0 in
    let d : ds ≡ different (scan l false 3 side) cs = t.1 ∙ ap (λ (o : List ℕ). different (scan l false 3 o) cs) g in
    rw (sym e, k, n, d) (alike_append (scan l false 3 side) (program_mentions (suc l) ls) cs h)

pub past_stays : (ms ns : List Mention) (cs : List ℕ) (r : Report) → first_past ms cs ≡ Some r → first_past (ms ++ ns) cs ≡ Some r
past_stays [] ns cs r e = let z : ◌≡◌ {A = ℕ} 0 1 = cc in absurd (omega arith)
past_stays (m ∷ ms) ns cs r e = by (past_stays ms ns (noting cs m.what) r) (leb (length (noting cs m.what)) 46) e
  where
    by : (first_past ms (noting cs m.what) ≡ Some r → first_past (ms ++ ns) (noting cs m.what) ≡ Some r) → (b : Bool) → cond b (first_past ms (noting cs m.what)) (Some (report 8 m.line m.place)) ≡ Some r → cond b (first_past (ms ++ ns) (noting cs m.what)) (Some (report 8 m.line m.place)) ≡ Some r
    by more true e = more e
    by more false e = e
