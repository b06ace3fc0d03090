-- What a ring holds, and what dropping and adding do to it.
use Rattle.std.specs.Prelude.{◌≡◌, ℕ, zero, suc, ◌+◌, ◌-◌, ◌%◌, ◌<◌, ◌≢◌, List, [], ◌∷◌, ◌++◌, length, Some, Ok, slice_index, slice_set, refl}
use Rattle.std.proofs.Common.{arith, ap, ◌∙◌}
use Rattle.std.proofs.lemmas.List.{get_or-set_same, get_or-set_other}
use Rattle.rules.specs.Queues.{queue_limit, first_waiting, dropped}
use Rattle.readings.specs.Rings.{round_from}

pub length_round : (slots : List ℕ) (at count : ℕ) → length (round_from slots at count) ≡ count
length_round slots at zero = refl
length_round slots at (suc count) = ap suc (length_round slots (at + 1) count)

pub each_round : (P : ℕ → Type 0) (slots : List ℕ) (at count : ℕ) → P 0 → ((i : ℕ) → P (slice_index slots i)) → (i : ℕ) → P (slice_index (round_from slots at count) i)
each_round P slots at zero z b i = z
each_round P slots at (suc count) z b zero = b (at % queue_limit)
each_round P slots at (suc count) z b (suc i) = each_round P slots (at + 1) count z b i

-- starts that lie a whole round apart begin at the same slot
same_round : (slots : List ℕ) (a b count : ℕ) → a % queue_limit ≡ b % queue_limit → round_from slots a count ≡ round_from slots b count
same_round slots a b zero e = refl
same_round slots a b (suc count) e =
    let h = ap (λ i. slice_index slots i) e in
    let t = same_round slots (a + 1) (b + 1) count (omega arith) in
    cc

pub first_round : (slots : List ℕ) (start count : ℕ) → start < queue_limit → 0 < count → first_waiting (round_from slots start count) ≡ Some (slice_index slots start)
first_round slots start zero h p = absurd (omega arith)
first_round slots start (suc count) h p = ap (λ i. Some (slice_index slots i)) (omega arith)

pub drop_round : (slots : List ℕ) (start count : ℕ) → 0 < count → dropped (round_from slots start count) ≡ Ok (round_from slots ((start + 1) % queue_limit) (count - 1))
drop_round slots start zero p = absurd (omega arith)
drop_round slots start (suc count) p =
    let e : suc count - 1 ≡ count = omega arith in
    rw e (ap Ok (same_round slots (start + 1) ((start + 1) % queue_limit) count (omega arith)))

-- Fewer than sixteen slots lie from the first number to the new one, so the slot that is written is none of theirs. The slot
-- is a variable, so that the induction can go on from the next start.
add_at : (slots : List ℕ) (at count end n : ℕ) → length slots ≡ queue_limit → count < queue_limit → end ≡ (at + count) % queue_limit → round_from (slice_set slots end n) at (suc count) ≡ round_from slots at count ++ (n ∷ [])
add_at slots at zero end n l h e =
    let same : at % queue_limit ≡ end = omega arith in
    let s = get_or-set_same slots end n 0 (omega arith) in
    ap (λ x. x ∷ []) (ap (λ i. slice_index (slice_set slots end n) i) same ∙ s)
add_at slots at (suc count) end n l h e =
    let other : at % queue_limit ≢ end = (λ q. omega arith) in
    let o = get_or-set_other slots end (at % queue_limit) n 0 other in
    let t = add_at slots (at + 1) count end n l (omega arith) (omega arith) in
    cc

pub add_round : (slots : List ℕ) (start count n : ℕ) → length slots ≡ queue_limit → count < queue_limit → round_from (slice_set slots ((start + count) % queue_limit) n) start (count + 1) ≡ round_from slots start count ++ (n ∷ [])
add_round slots start count n l h =
    let e : count + 1 ≡ suc count = omega arith in
    rw e (add_at slots start count ((start + count) % queue_limit) n l h refl)
