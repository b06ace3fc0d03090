-- The number that digits write, reckoned from the first digit on.
use Rattle.std.proofs.Common.{◌≡◌, ℕ, ◌+◌, ◌-◌, ◌*◌, ◌%◌, ◌^◌, ◌<◌, ◌≤◌, eqb, true, false, List, [], ◌∷◌, length, get_or, take, Some, None, decimal, sym, refl, ap, ◌∙◌, append-nil, arith}
use Rattle.std.specs.List.{fold, position_or_len, slice_get}
use Rattle.std.proofs.lemmas.List.Sums.{passes_at_first, position_or_len_is}
use Rattle.std.proofs.lemmas.List.{length-append, take_at}
use Rattle.digits.specs.Text.{line_of, Below}
use Rattle.digits.proofs.Splits.{through_digits, comma_at}

abbrev pub with_digit : ℕ → ℕ → ℕ
with_digit n b = n * 10 + (b - 48)

-- what the first i digits write, as 64 bits hold it
abbrev pub written_by : ℕ → List ℕ → ℕ
written_by i digits = fold with_digit 0 (take i digits) % 2 ^ 64

written_decimal : (n : ℕ) → n < 2 ^ 64 → fold with_digit 0 (decimal n) % 2 ^ 64 ≡ n
written_decimal n h =
    let t = ap (fold with_digit 0) (sym (append-nil (decimal n))) ∙ through_digits (λ m bs. fold with_digit m bs) (λ m b bs c. refl) n h [] in
    ap (λ v. v % 2 ^ 64) t ∙ omega arith

-- no comma stands among the first i bytes
abbrev pub NoComma : ℕ → List ℕ → Type 0
NoComma i text = (k : ℕ) → k < i → eqb (get_or text k 0) 44 ≡ false

-- what was read up to the first comma is the first number
pub first_is : (ns text : List ℕ) (i number : ℕ) → Below (2 ^ 64) ns → text ≡ line_of ns → i < length text → get_or text i 0 ≡ 44 → NoComma i text → number ≡ written_by i text → Some number ≡ slice_get ns 0
first_is [] text i number below t h c free e = let l = ap length t in absurd (omega arith)
first_is (n ∷ ns) text i number below t h c free e =
    let p : position_or_len (λ b. eqb b 44) text ≡ i = position_or_len_is (λ b. eqb b 44) text i 0 (omega arith) free (λ within. ap (λ b. eqb b 44) c) in
    let at : i ≡ length (decimal n) = sym p ∙ ap (position_or_len (λ b. eqb b 44)) t ∙ comma_at n ns (below 0) in
    let front : take i text ≡ decimal n = ap (take i) t ∙ take_at (decimal n) (44 ∷ line_of ns) i (sym at) in
    ap Some (e ∙ ap (λ ds. fold with_digit 0 ds % 2 ^ 64) front ∙ written_decimal n (below 0))

-- without a comma there is none
pub first_none : (ns text : List ℕ) (i : ℕ) → Below (2 ^ 64) ns → text ≡ line_of ns → length text ≤ i → NoComma i text → None ≡ slice_get ns 0
first_none [] text i below t h free = refl
first_none (n ∷ ns) text i below t h free =
    let p : position_or_len (λ b. eqb b 44) text ≡ length (decimal n) = ap (position_or_len (λ b. eqb b 44)) t ∙ comma_at n ns (below 0) in
    let l = ap length t ∙ length-append (decimal n) (44 ∷ line_of ns) in
    let f : eqb (get_or text (position_or_len (λ b. eqb b 44) text) 0) 44 ≡ true = passes_at_first (λ b. eqb b 44) text 0 (omega arith) in
    let g : eqb (get_or text (position_or_len (λ b. eqb b 44) text) 0) 44 ≡ false = free (position_or_len (λ b. eqb b 44) text) (omega arith) in
    absurd (let z : ◌≡◌ {A = ℕ} 0 1 = cc in omega arith)
