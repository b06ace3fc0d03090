-- Laws of rows of numbers and of their bytes.
use Rattle.std.proofs.Common.{◌≡◌, ℕ, suc, ◌+◌, ◌*◌, ◌^◌, ◌<◌, ◌≤◌, List, [], ◌∷◌, ◌++◌, length, get_or, drop, decimal, sym, refl, ap, ◌∙◌, append_assoc, mul-le-mul_left, mul-suc, arith}
use Rattle.std.proofs.lemmas.List.{length-append, length_push, drop_at}
use Rattle.std.proofs.lemmas.Fmt.{decimal_nonempty, length-decimal-le}
use Rattle.rules.proofs.Each.{each_push}
use Rattle.digits.specs.Text.{line_of, numbers_from, numbers_in, Below, WellWritten, Sound}
use Rattle.digits.proofs.Splits.{through_digits}

-- what is written is read back
pub numbers_line : (ns : List ℕ) → ((i : ℕ) → get_or ns i 0 < 2 ^ 64) → numbers_in (line_of ns) ≡ ns
numbers_line [] below = refl
numbers_line (n ∷ ns) below =
    through_digits numbers_from (λ m b bs e. rw e refl) n (below 0) (44 ∷ line_of ns)
    ∙ ap (λ ms. n ∷ ms) (numbers_line ns (λ i. below (suc i)))

pub line_push : (ns : List ℕ) (n : ℕ) → line_of (ns ++ (n ∷ [])) ≡ line_of ns ++ (decimal n ++ (44 ∷ []))
line_push [] n = refl
line_push (m ∷ ns) n =
    ap (λ bs. decimal m ++ (44 ∷ bs)) (line_push ns n)
    ∙ sym (append_assoc (decimal m) (44 ∷ line_of ns) (decimal n ++ (44 ∷ [])))

-- behind the first number's digits and comma stand the others
pub line_behind : (n : ℕ) (ns : List ℕ) → drop (length (decimal n) + 1) (line_of (n ∷ ns)) ≡ line_of ns
line_behind n ns =
    ap (drop (length (decimal n) + 1)) (sym (append_assoc (decimal n) (44 ∷ []) (line_of ns)))
    ∙ drop_at (decimal n ++ (44 ∷ [])) (line_of ns) (length (decimal n) + 1) (length_push (decimal n) 44)

-- a number takes two bytes at least
pub line_least : (ns : List ℕ) → ((i : ℕ) → get_or ns i 0 < 2 ^ 64) → 2 * length ns ≤ length (line_of ns)
line_least [] below = omega arith
line_least (n ∷ ns) below =
    let some = decimal_nonempty n (below 0) in
    let l = length-append (decimal n) (44 ∷ line_of ns) in
    let rest = line_least ns (λ i. below (suc i)) in
    omega arith

-- Numbers of at most k digits take at most k + 1 bytes each.
pub line_length : (k : ℕ) (ns : List ℕ) → 0 < k → 10 ^ k ≤ 2 ^ 64 → ((i : ℕ) → get_or ns i 0 < 10 ^ k) → length (line_of ns) ≤ (k + 1) * length ns
line_length k [] some fits below = omega arith
line_length k (n ∷ ns) some fits below =
    let small = below 0 in
    let d = length-decimal-le k n some small (omega arith) in
    let l = length-append (decimal n) (44 ∷ line_of ns) in
    let rest = line_length k ns some fits (λ i. below (suc i)) in
    let more = mul-suc (k + 1) (length ns) in
    omega arith

-- Bytes that are the line of a row hold that row.
pub row_written : (bs ns : List ℕ) → bs ≡ line_of ns → Below (2 ^ 64) ns → WellWritten bs × (numbers_in bs ≡ ns)
row_written bs ns e below =
    let r : numbers_in bs ≡ ns = ap numbers_in e ∙ numbers_line ns below in
    ((e ∙ ap line_of (sym r), λ i. rw r (below i)), r)

pub row_sound : (bs : List ℕ) (count : ℕ) (ns : List ℕ) → bs ≡ line_of ns → count ≡ length ns → Below (2 ^ 64) ns → Sound bs count × (numbers_in bs ≡ ns)
row_sound bs count ns e counted below =
    let w = row_written bs ns e below in
    ((counted ∙ ap length (sym w.1), w.0), w.1)

-- One number more finds room, where the line has k + 1 bytes for each number of at most k digits that it may hold.
pub line_room : (N k limit bound : ℕ) (ns : List ℕ) (n : ℕ) → 0 < k → 10 ^ k ≤ 2 ^ 64 → bound ≤ 10 ^ k → (k + 1) * limit ≤ N → ((i : ℕ) → get_or ns i 0 < bound) → n < bound → length ns < limit → length (line_of (ns ++ (n ∷ []))) ≤ N
line_room N k limit bound ns n some fits high room below small few =
    let each = each_push (λ m. m < 10 ^ k) ns n (omega arith) (omega arith) (λ i. omega (arith, below i)) in
    let l = line_length k (ns ++ (n ∷ [])) some fits each in
    let e = ap (λ x. (k + 1) * x) (length_push ns n) in
    let more : length ns + 1 ≤ limit = omega arith in
    let wide = mul-le-mul_left (k + 1) more in
    omega arith
