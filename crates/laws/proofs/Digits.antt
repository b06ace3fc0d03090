-- Digits at the front of a list, and the numbers that they write.
use Rattle.std.proofs.Common.{◌≡◌, ℕ, zero, suc, ◌+◌, ◌-◌, ◌*◌, ◌^◌, ◌<◌, ◌≤◌, Bool, true, false, ◌⊎◌, List, [], ◌∷◌, ◌++◌, length, get_or, take, drop, decimal, fold, sym, refl, ap, ◌∙◌, inl, inr, one-add, arith, rules}
use Rattle.std.proofs.lemmas.List.{take_at, drop_at, get_or_append_left, get_or-take, length-take-le, take-append-drop}
use Rattle.std.proofs.lemmas.List.Sums.{prefix_len-le-length}
use Rattle.std.proofs.lemmas.Str.Parse.{digits_value_short, IsNumeralModel, numerals_by_fold, tells_by_index}
use Rattle.std.proofs.lemmas.Fmt.{decimal-digits_value, digits_decimal, digits_value-decimal, length-decimal-le, first_decimal, decimal_nonempty}
use Rattle.std.proofs.lemmas.Bool.Decides.{nat_tests}
use Rattle.rules.specs.declared.formula.Start.TheVariants as S
use Rattle.rules.specs.Reading.{got, first, is_digit, start, digit_run, Digits, number_of, proper, constant_at}

pub numerals : IsNumeralModel Digits number_of
numerals = numerals_by_fold Digits tells_by_index (fold (λ n d. n * 10 + (d - 48))) (search rules)

pub digit_at : (xs : List ℕ) (k : ℕ) → k < digit_run xs → (48 ≤ get_or xs k 0) × (get_or xs k 0 ≤ 57)
digit_at [] k h = absurd (omega arith)
digit_at (x ∷ xs) zero h = grind (arith, nat_tests)
digit_at (x ∷ xs) (suc k) h = let l : k < digit_run xs = grind (arith, nat_tests) in digit_at xs k l

pub digits_front : (xs : List ℕ) → Digits (take (digit_run xs) xs)
digits_front xs k h =
    let n : length (take (digit_run xs) xs) ≡ digit_run xs = length-take-le (digit_run xs) xs (prefix_len-le-length is_digit xs) in
    let l : k < digit_run xs = omega arith in
    rw get_or-take (digit_at xs k l)

-- the digits of a front that is all digits, before what is no digit
pub digits_append : (ds rest : List ℕ) → Digits ds → digit_run rest ≡ 0 → digit_run (ds ++ rest) ≡ length ds
digits_append [] rest f e = e
digits_append (d ∷ ds) rest f e =
    let b : (48 ≤ d) × (d ≤ 57) = f 0 (omega arith) in
    let g : Digits ds = λ k h. f (suc k) (omega arith) in
    let ih : digit_run (ds ++ rest) ≡ length ds = digits_append ds rest g e in
    let t : is_digit d ≡ true = grind (arith, nat_tests) in
    rw (t, ih) (omega arith)

-- past the whole run no digit stands
pub run_ends : (xs : List ℕ) → digit_run (drop (digit_run xs) xs) ≡ 0
run_ends [] = refl
run_ends (x ∷ xs) = ways (is_digit x) refl (run_ends xs)
  where
    ways : (b : Bool) → is_digit x ≡ b → digit_run (drop (digit_run xs) xs) ≡ 0 → digit_run (drop (digit_run (x ∷ xs)) (x ∷ xs)) ≡ 0
    ways true e ih = rw (e, one-add) ih
    ways false e ih = rw (e, e)

pub proper_is : (xs : List ℕ) (n v : ℕ) (ys zs : List ℕ) → n ≡ digit_run xs → proper xs ≡ true → ys ≡ take n xs → zs ≡ drop n xs → v ≡ number_of ys → constant_at xs ≡ got v zs
proper_is xs n v ys zs en ep ey ez ev = rw (ep, ev, ey, ez, en)

-- one digit, or a first digit that is no zero
plain_front : (n : ℕ) → n < 2 ^ 64 → (length (decimal n) ≤ 1) ⊎ (48 < get_or (decimal n) 0 0)
plain_front zero h = inl (length-decimal-le 1 0 (omega arith) (omega arith) h)
plain_front (suc n) h = inr (first_decimal (suc n) (omega arith) h)

pub constant_reads : (n : ℕ) (rest : List ℕ) → n < 10 ^ 14 → digit_run rest ≡ 0 → constant_at (decimal n ++ rest) ≡ got n rest
constant_reads n rest h e =
    let small : n < 2 ^ 64 = omega arith in
    let f : Digits (decimal n) = digits_decimal numerals n small in
    let c : digit_run (decimal n ++ rest) ≡ length (decimal n) = digits_append (decimal n) rest f e in
    let k : length (decimal n) ≤ 14 = length-decimal-le 14 n (omega arith) h small in
    let i : first (decimal n ++ rest) ≡ get_or (decimal n) 0 0 = get_or_append_left (decimal n) rest 0 0 (decimal_nonempty n small) in
    let j : (length (decimal n) ≤ 1) ⊎ (48 < get_or (decimal n) 0 0) = plain_front n small in
    let p : proper (decimal n ++ rest) ≡ true = grind (arith, nat_tests) in
    proper_is (decimal n ++ rest) (length (decimal n)) n (decimal n) rest (sym c) p (sym (take_at (decimal n) rest _ refl)) (sym (drop_at (decimal n) rest _ refl)) (sym (digits_value-decimal numerals n small))

pub decimal_digits : (n : ℕ) → n < 10 ^ 14 → (0 < length (decimal n)) × Digits (decimal n)
decimal_digits n h = let small : n < 2 ^ 64 = omega arith in (decimal_nonempty n small, digits_decimal numerals n small)

pub digit_start : (v : ℕ) → 48 ≤ v → v ≤ 57 → start v ≡ S.Digit
digit_start v l h = grind (arith, nat_tests)

pub constant_start : (n : ℕ) (rest : List ℕ) → n < 10 ^ 14 → start (first (decimal n ++ rest)) ≡ S.Digit
constant_start n rest h =
    let small : n < 2 ^ 64 = omega arith in
    let i : first (decimal n ++ rest) ≡ get_or (decimal n) 0 0 = get_or_append_left (decimal n) rest 0 0 (decimal_nonempty n small) in
    let f = digits_decimal numerals n small 0 (decimal_nonempty n small) in
    rw i (digit_start (get_or (decimal n) 0 0) f.0 f.1)

pub constant_back : (xs rest : List ℕ) (n : ℕ) → constant_at xs ≡ got n rest → 0 < digit_run xs → (n < 10 ^ 14) × (xs ≡ decimal n ++ rest)
constant_back xs rest n e h =
    let p : proper xs ≡ true = grind (arith, nat_tests) in
    let v : number_of (take (digit_run xs) xs) ≡ n = grind (arith, nat_tests) in
    let r : drop (digit_run xs) xs ≡ rest = grind (arith, nat_tests) in
    let k : digit_run xs ≤ 14 = grind (arith, nat_tests) in
    let z : get_or xs 0 0 ≡ 48 → digit_run xs ≤ 1 = λ q. grind (arith, nat_tests) in
    let f : Digits (take (digit_run xs) xs) = digits_front xs in
    let l : length (take (digit_run xs) xs) ≡ digit_run xs = length-take-le (digit_run xs) xs (prefix_len-le-length is_digit xs) in
    let g : get_or (take (digit_run xs) xs) 0 0 ≡ get_or xs 0 0 = get_or-take (digit_run xs) xs 0 0 h in
    let b : number_of (take (digit_run xs) xs) < 10 ^ 14 = digits_value_short numerals (take (digit_run xs) xs) 14 f (omega arith) in
    let d : decimal (number_of (take (digit_run xs) xs)) ≡ take (digit_run xs) xs = decimal-digits_value numerals (take (digit_run xs) xs) f (omega arith) (λ q. omega (arith, z (sym g ∙ q))) (omega arith) in
    let a : take (digit_run xs) xs ++ drop (digit_run xs) xs ≡ xs = take-append-drop (digit_run xs) xs in
    (omega arith, cc)

-- what follows a constant that was read is no digit
pub constant_rest : (xs rest : List ℕ) (n : ℕ) → constant_at xs ≡ got n rest → digit_run rest ≡ 0
constant_rest xs rest n e =
    let r : drop (digit_run xs) xs ≡ rest = grind (arith, nat_tests) in
    ap digit_run (sym r) ∙ run_ends xs
