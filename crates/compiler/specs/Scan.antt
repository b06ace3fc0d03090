-- The letters and constants of a line's side, found in its bytes.
use Rattle.std.specs.Prelude.{ℕ, suc, Bool, true, false, cond, List, [], ◌∷◌}
use Rattle.rules.specs.declared.formula.Atom.TheVariants.{Letter, Constant}
use Rattle.rules.specs.Reading.{Read, got, fails, between, is_digit, constant_at}
use Rattle.rules.specs.Mentions.{Mention, mention}

abbrev pub found : ℕ → ℕ → Read ℕ → List Mention → List Mention
found l p (got n rest) more = mention l p (Constant n) ∷ more
found l p (fails e left) more = more

-- a constant begins at a digit that follows no digit; `inside` says that a digit stands before
abbrev pub scan : ℕ → Bool → ℕ → List ℕ → List Mention
scan l inside p [] = []
scan l inside p (x ∷ xs) = cond (is_digit x) (cond inside (scan l true (suc p) xs) (found l p (constant_at (x ∷ xs)) (scan l true (suc p) xs))) (cond (between 65 90 x) (mention l p (Letter x) ∷ scan l false (suc p) xs) (scan l false (suc p) xs))
