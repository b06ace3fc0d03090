-- One constant more in the table.
use Rattle.std.proofs.Common.{◌≡◌, ℕ, ◌+◌, ◌<◌, ◌≤◌, Bool, true, false, cond, not, ◌||◌, eqb, List, [], ◌∷◌, ◌++◌, length, Ok, Err, Result, sym, refl, ap, ◌∙◌, arith}
use Rattle.std.proofs.lemmas.List.{length_push}
use Rattle.std.proofs.lemmas.Bool.{lt-ltb, le-ltb}
use Rattle.std.specs.List.{list_any}
use Rattle.std.specs.Result.{OnOk, OnErr, MatchResult}
use Rattle.rules.specs.Mentions.{place_of, noted}

found_before : (xs : List ℕ) (n : ℕ) → list_any (λ y. eqb y n) xs ≡ true → place_of n xs < length xs
found_before [] n e = let z : ◌≡◌ {A = ℕ} 0 1 = cc in absurd (omega arith)
found_before (x ∷ xs) n e = by (found_before xs n) (eqb x n) e
  where
    by : (list_any (λ y. eqb y n) xs ≡ true → place_of n xs < length xs) → (b : Bool) → (b || list_any (λ y. eqb y n) xs) ≡ true → cond (not b) (1 + place_of n xs) 0 < length (x ∷ xs)
    by more true f = omega arith
    by more false f = omega (arith, more f)

found_nowhere : (xs : List ℕ) (n : ℕ) → list_any (λ y. eqb y n) xs ≡ false → length xs ≤ place_of n xs
found_nowhere [] n e = omega arith
found_nowhere (x ∷ xs) n e = by (found_nowhere xs n) (eqb x n) e
  where
    by : (list_any (λ y. eqb y n) xs ≡ false → length xs ≤ place_of n xs) → (b : Bool) → (b || list_any (λ y. eqb y n) xs) ≡ false → length (x ∷ xs) ≤ cond (not b) (1 + place_of n xs) 0
    by more true f = let z : ◌≡◌ {A = ℕ} 0 1 = cc in absurd (omega arith)
    by more false f = omega (arith, more f)

pub noted_there : (xs : List ℕ) (n : ℕ) → list_any (λ y. eqb y n) xs ≡ true → xs ≡ noted xs n
noted_there xs n e = rw (lt-ltb (place_of n xs) (length xs) (found_before xs n e)) refl

noted_new : (xs : List ℕ) (n : ℕ) → list_any (λ y. eqb y n) xs ≡ false → noted xs n ≡ xs ++ (n ∷ [])
noted_new xs n e = rw (le-ltb (place_of n xs) (length xs) (found_nowhere xs n e)) refl

pub pushed : {E V : Type 0} (r : Result (Unit {0}) E) (items : V → List ℕ) (v w : V) (n : ℕ) → list_any (λ y. eqb y n) (items v) ≡ false → OnOk r ((items w) ≡ (items v) ++ (n ∷ [])) → OnErr r (w ≡ v) → OnErr r (length (items v) ≡ 46) → MatchResult r (λ _. items w ≡ noted (items v) n) (λ _. ((items w) ≡ (items v)) × (46 < length (noted (items v) n)))
pushed (Ok u) items v w n e o s f = o ∙ sym (noted_new (items v) n e)
pushed (Err x) items v w n e o s f =
    let l : length (noted (items v) n) ≡ length (items v) + 1 = ap length (noted_new (items v) n e) ∙ length_push (items v) n in
    (ap items s, omega (arith, f))
