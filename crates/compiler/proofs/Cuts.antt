-- Where the first line of a text ends.
use Rattle.std.proofs.Common.{◌≡◌, ℕ, zero, suc, ◌<◌, true, false, eqb, List, [], ◌∷◌, length, take, drop, sym, refl, ap, add-one, ◌∙◌, arith}
use Rattle.std.proofs.lemmas.List.{drop-drop}
use Rattle.std.proofs.lemmas.Bool.Decides.{nat_tests}
use Rattle.std.specs.List.{prefix_len}
use Rattle.rules.specs.Texts.{tail, line, cut}
use Rattle.compiler.specs.Lines.{in_line}

pub cut_tail : (xs : List ℕ) → prefix_len in_line xs ≡ length xs → cut xs ≡ tail xs
cut_tail [] e = refl
cut_tail (x ∷ xs) e =
    let f : eqb x 10 ≡ false = grind (arith, nat_tests) in
    let g : prefix_len in_line xs ≡ length xs = grind (arith, nat_tests) in
    rw (f, cut_tail xs g)

cut_line : (xs : List ℕ) (n : ℕ) → n ≡ prefix_len in_line xs → n < length xs → cut xs ≡ line (take n xs) (cut (drop (suc n) xs))
cut_line [] n e h = absurd (omega arith)
cut_line (x ∷ xs) zero e h = let f : eqb x 10 ≡ true = grind (arith, nat_tests) in rw f
cut_line (x ∷ xs) (suc n) e h =
    let f : eqb x 10 ≡ false = grind (arith, nat_tests) in
    let g : n ≡ prefix_len in_line xs = grind (arith, nat_tests) in
    rw (f, cut_line xs n g (omega arith))

-- as the code names the parts
pub cut_parts : (xs ys zs rest : List ℕ) (n x : ℕ) → n ≡ prefix_len in_line xs → n < length xs → ys ≡ take n xs → zs ≡ drop n xs → zs ≡ x ∷ rest → cut xs ≡ line ys (cut rest)
cut_parts xs ys zs rest n x e h a b c =
    let d : rest ≡ drop (suc n) xs = ap (drop 1) (sym c ∙ b) ∙ (drop-drop 1 n xs ∙ ap (λ k. drop k xs) (add-one n)) in
    rw (a, d) (cut_line xs n e h)
