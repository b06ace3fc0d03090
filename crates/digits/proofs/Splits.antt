-- A row's bytes, cut at the commas.
use Rattle.std.proofs.Common.{◌≡◌, ℕ, ◌+◌, ◌-◌, ◌*◌, ◌/◌, ◌%◌, ◌^◌, ◌<◌, ◌≤◌, false, eqb, List, [], ◌∷◌, ◌++◌, length, decimal, ap, ◌∙◌, append_assoc, arith}
use Rattle.std.specs.List.{All, position_or_len}
use Rattle.std.proofs.Math.Seq.{get_or-append_seam}
use Rattle.std.proofs.lemmas.List.{length-append, get_or_append_left}
use Rattle.std.proofs.lemmas.List.Sums.{position_or_len_is}
use Rattle.std.proofs.lemmas.Fmt.{decimal_by_steps}
use Rattle.std.proofs.lemmas.List.Elements.{All-nil, All-push}
use Rattle.std.proofs.lemmas.Bool.{ne_eqb}
use Rattle.digits.specs.Text.{line_of}

-- What a reader that takes up digits one by one makes of a number's digits is the number.
pub through_digits : {X : Type 0} (F : ℕ → List ℕ → X) → ((n b : ℕ) (bs : List ℕ) → eqb b 44 ≡ false → F n (b ∷ bs) ≡ F (n * 10 + (b - 48)) bs) → (n : ℕ) → n < 2 ^ 64 → (bs : List ℕ) → F 0 (decimal n ++ bs) ≡ F n bs
through_digits F step = decimal_by_steps (λ n ds. (bs : List ℕ) → F 0 (ds ++ bs) ≡ F n bs) one more
  where
    digit : (m n d : ℕ) (bs : List ℕ) → m * 10 + d ≡ n → F m ((48 + d) ∷ bs) ≡ F n bs
    digit m n d bs e =
        let v : m * 10 + (48 + d - 48) ≡ n = omega arith in
        step m (48 + d) bs (ne_eqb (48 + d) 44 (λ q. omega arith)) ∙ ap (λ x. F x bs) v

    one : (n : ℕ) → n < 10 → (bs : List ℕ) → F 0 ((48 + n) ∷ bs) ≡ F n bs
    one n h bs = digit 0 n n bs (omega arith)

    more : (n : ℕ) (ds : List ℕ) → 10 ≤ n → ((bs : List ℕ) → F 0 (ds ++ bs) ≡ F (n / 10) bs) → (bs : List ℕ) → F 0 ((ds ++ ((48 + n % 10) ∷ [])) ++ bs) ≡ F n bs
    more n ds h front bs =
        ap (F 0) (append_assoc ds ((48 + n % 10) ∷ []) bs) ∙ front ((48 + n % 10) ∷ bs) ∙ digit (n / 10) n (n % 10) bs (omega arith)

-- no digit is a comma
no_comma : (n : ℕ) → n < 2 ^ 64 → All (λ b. eqb b 44 ≡ false) (decimal n)
no_comma = decimal_by_steps (λ n ds. All (λ b. eqb b 44 ≡ false) ds) one more
  where
    digit : (d : ℕ) → eqb (48 + d) 44 ≡ false
    digit d = ne_eqb (48 + d) 44 (λ q. omega arith)

    one : (n : ℕ) → n < 10 → All (λ b. eqb b 44 ≡ false) ((48 + n) ∷ [])
    one n h = All-push (λ b. eqb b 44 ≡ false) [] (48 + n) (All-nil (λ b. eqb b 44 ≡ false)) (digit n)

    more : (n : ℕ) (ds : List ℕ) → 10 ≤ n → All (λ b. eqb b 44 ≡ false) ds → All (λ b. eqb b 44 ≡ false) (ds ++ ((48 + n % 10) ∷ []))
    more n ds h front = All-push (λ b. eqb b 44 ≡ false) ds (48 + n % 10) front (digit (n % 10))

-- the first comma stands behind the first number's digits
pub comma_at : (n : ℕ) (ns : List ℕ) → n < 2 ^ 64 → position_or_len (λ b. eqb b 44) (line_of (n ∷ ns)) ≡ length (decimal n)
comma_at n ns h =
    let l = length-append (decimal n) (44 ∷ line_of ns) in
    position_or_len_is (λ b. eqb b 44) (line_of (n ∷ ns)) (length (decimal n)) 0 (omega arith)
    (λ k below. ap (λ b. eqb b 44) (get_or_append_left (decimal n) (44 ∷ line_of ns) 0 k below) ∙ no_comma n h k 0 below)
    (λ within. ap (λ b. eqb b 44) (get_or-append_seam (decimal n) 44 (line_of ns) 0))
