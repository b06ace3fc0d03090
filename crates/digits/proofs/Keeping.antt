-- What a line holds after a number is put at its end, and after its first is cut off.
use Rattle.std.proofs.Common.{◌≡◌, ℕ, zero, suc, ◌≤◌, ◌+◌, ◌-◌, ◌^◌, ◌<◌, List, [], ◌∷◌, ◌++◌, length, take, drop, Some, None, decimal, position, sym, refl, ap, ◌∙◌, eqb, append_assoc, arith}
use Rattle.std.specs.List.{copy_within, refill, slice_get}
use Rattle.std.proofs.lemmas.List.{length-append, length_push, length-drop, take-append-le, take_all}
use Rattle.std.proofs.lemmas.List.Edits.{take-paste}
use Rattle.std.proofs.lemmas.Option.{slice_get_past}
use Rattle.std.proofs.lemmas.Bool.{lt-ltb}
use Rattle.rules.proofs.Each.{each_drop, each_push}
use Rattle.digits.specs.Text.{line_of, numbers_in, Below, Sound}
use Rattle.digits.proofs.Rows.{line_behind, line_push, line_least, row_sound}
use Rattle.digits.proofs.Splits.{comma_at}

-- the line of one number more is longer by its digits and comma, and the count of numbers can rise
pub push_length : (bs digits : List ℕ) (count n : ℕ) → Sound bs count → digits ≡ decimal n → (length (line_of (numbers_in bs ++ (n ∷ []))) ≡ length bs + (length digits + 1)) × (count < length bs + (length digits + 1))
push_length bs digits count n ok e =
    let ns : List ℕ = numbers_in bs in
    let line = ap length ok.1.0 in
    let more = ap length (line_push ns n) ∙ length-append (line_of ns) (decimal n ++ (44 ∷ [])) in
    let some = length_push (decimal n) 44 in
    let same = ap length e in
    let least = line_least ns ok.1.1 in
    (omega arith, omega (arith, ok.0))

pub push_held : (bs digits mid after : List ℕ) (count n : ℕ) → Sound bs count → n < 2 ^ 64 → digits ≡ decimal n → mid ≡ bs ++ digits → after ≡ mid ++ (44 ∷ []) → Sound after (count + 1) × (numbers_in after ≡ numbers_in bs ++ (n ∷ []))
push_held bs digits mid after count n ok small e m a =
    let ns : List ℕ = numbers_in bs in
    let line = a ∙ ap (λ b. b ++ (44 ∷ [])) m ∙ append_assoc bs digits (44 ∷ []) ∙ ap (λ d. bs ++ (d ++ (44 ∷ []))) e ∙ ap (λ b. b ++ (decimal n ++ (44 ∷ []))) ok.1.0 ∙ sym (line_push ns n) in
    let counted = ap (λ k. k + 1) ok.0 ∙ sym (length_push ns n) in
    row_sound after (count + 1) (ns ++ (n ∷ [])) line counted (each_push (λ m. m < 2 ^ 64) ns n (omega arith) small ok.1.1)

-- the first comma of a row's line, if there is one, and what stands behind it
first_comma : (n : ℕ) (ns : List ℕ) → n < 2 ^ 64 → position (λ b. eqb b 44) (line_of (n ∷ ns)) ≡ Some (length (decimal n))
first_comma n ns h =
    let l = length-append (decimal n) (44 ∷ line_of ns) in
    let within = lt-ltb (length (decimal n)) (length (line_of (n ∷ ns))) (omega arith) in
    rw (comma_at n ns h, within) refl

comma_of : (ns : List ℕ) → Below (2 ^ 64) ns → (comma : ℕ) → Some comma ≡ position (λ b. eqb b 44) (line_of ns) → (0 < length ns) × (drop (comma + 1) (line_of ns) ≡ line_of (drop 1 ns))
comma_of [] below comma is = absurd (let z : ◌≡◌ {A = ℕ} 0 1 = cc in omega arith)
comma_of (n ∷ ns) below comma is =
    let f = first_comma n ns (below 0) in
    let same : comma ≡ length (decimal n) = cc in
    (omega arith, ap (λ k. drop (k + 1) (line_of (n ∷ ns))) same ∙ line_behind n ns)

no_comma_of : (ns : List ℕ) → Below (2 ^ 64) ns → None ≡ position (λ b. eqb b 44) (line_of ns) → length ns ≡ 0
no_comma_of [] below is = refl
no_comma_of (n ∷ ns) below is =
    let f = first_comma n ns (below 0) in absurd (let z : ◌≡◌ {A = ℕ} 0 1 = cc in omega arith)

-- what is cut off with the first comma
pub cut_behind : (ns text rest : List ℕ) (comma : ℕ) → Below (2 ^ 64) ns → text ≡ line_of ns → Some comma ≡ position (λ b. eqb b 44) text → rest ≡ drop (comma + 1) text → (0 < length ns) × (rest ≡ line_of (drop 1 ns))
cut_behind ns text rest comma below t is e =
    let p = comma_of ns below comma (is ∙ ap (position (λ b. eqb b 44)) t) in
    (p.0, e ∙ ap (drop (comma + 1)) t ∙ p.1)

pub uncut_behind : (ns text : List ℕ) → Below (2 ^ 64) ns → text ≡ line_of ns → None ≡ position (λ b. eqb b 44) text → length ns ≡ 0
uncut_behind ns text below t is = no_comma_of ns below (is ∙ ap (position (λ b. eqb b 44)) t)

pub uncut_held : (bs text : List ℕ) (count : ℕ) → Sound bs count → text ≡ bs → None ≡ position (λ b. eqb b 44) text → length (numbers_in bs) ≡ 0
uncut_held bs text count ok t is =
    no_comma_of (numbers_in bs) ok.1.1 (is ∙ ap (position (λ b. eqb b 44)) (t ∙ ok.1.0))

cut_held : (bs text after : List ℕ) (count comma : ℕ) → Sound bs count → text ≡ bs → Some comma ≡ position (λ b. eqb b 44) text → after ≡ drop (comma + 1) bs → (0 < length (numbers_in bs)) × Sound after (count - 1) × (numbers_in after ≡ drop 1 (numbers_in bs))
cut_held bs text after count comma ok t is e =
    let ns : List ℕ = numbers_in bs in
    let p = comma_of ns ok.1.1 comma (is ∙ ap (position (λ b. eqb b 44)) (t ∙ ok.1.0)) in
    let counted = ap (λ k. k - 1) ok.0 ∙ sym (length-drop 1 ns) in
    let held = row_sound after (count - 1) (drop 1 ns) (e ∙ ap (drop (comma + 1)) ok.1.0 ∙ p.1) counted (each_drop (λ m. m < 2 ^ 64) ns 1 ok.1.1) in
    (p.0, held.0, held.1)

-- what stands behind the first k bytes, moved to the front, is all that is kept
moved_front : (bs : List ℕ) (k : ℕ) → take (length bs - k) (copy_within bs k (length bs) 0) ≡ drop k bs
moved_front bs k =
    let l = length-drop k bs in
    let z : 0 + (length bs - k) ≡ length bs - k = omega arith in
    ap (λ i. take i (copy_within bs k (length bs) 0)) (sym z)
    ∙ take-paste bs 0 (drop k bs) (length bs - k) (omega arith) (omega arith)
    ∙ take_all (length bs - k) (drop k bs) (omega arith)

-- a loan of all bytes that keeps their number leaves what it holds at its end
lent_back : (bs moved : List ℕ) → length moved ≡ length bs → refill (length bs) bs moved ≡ moved
lent_back bs moved h = take-append-le (length bs) moved (drop (length moved) bs) (omega arith) ∙ take_all (length bs) moved (omega arith)

pub cut_moved : (bs text lent moved after : List ℕ) (count comma n : ℕ) → Sound bs count → text ≡ bs → Some comma ≡ position (λ b. eqb b 44) text → n ≡ length bs → lent ≡ bs → length moved ≡ length lent → moved ≡ copy_within lent (comma + 1) (length lent) 0 → after ≡ take (n - (comma + 1)) (refill (length bs) bs moved) → (0 < length (numbers_in bs)) × Sound after (count - 1) × (numbers_in after ≡ drop 1 (numbers_in bs))
cut_moved bs text lent moved after count comma n ok t is e l s m a =
    let f = a ∙ ap (take (n - (comma + 1))) (lent_back bs moved (s ∙ ap length l)) ∙ ap (λ i. take (i - (comma + 1)) moved) e ∙ ap (take (length bs - (comma + 1))) (m ∙ ap (λ xs. copy_within xs (comma + 1) (length xs) 0) l) in
    cut_held bs text after count comma ok t is (f ∙ moved_front bs (comma + 1))

-- the rest of a row begins with the number at the place where it was cut
pub get_front : (ns : List ℕ) (i : ℕ) → slice_get (drop i ns) 0 ≡ slice_get ns i
get_front ns zero = refl
get_front [] (suc i) = refl
get_front (n ∷ ns) (suc i) = get_front ns i

-- a row cut down to nothing had no number at a later place
pub get_past : (ns : List ℕ) (i k : ℕ) → length (drop k ns) ≡ 0 → k ≤ i → None ≡ slice_get ns i
get_past ns i k e h = let l = length-drop k ns in sym (slice_get_past ns i (omega arith))
