-- Numbers in packed decimal: packing and unpacking undo each other, pair by pair from the last.
use Rattle.std.specs.Prelude.{◌≡◌, ℕ, zero, suc, ◌+◌, ◌-◌, ◌*◌, ◌/◌, ◌%◌, ◌^◌, ◌<◌, ◌≤◌, List, [], ◌∷◌, ◌++◌, reverse, length, take, slice_index, slice_index_or, slice_set, All, refl}
use Rattle.std.proofs.Common.{pow-suc, arith, sym, ap, ◌∙◌, append_assoc}
use Rattle.std.proofs.lemmas.List.{take_more, take_more_set, take_all, reverse-append, length-take-le, length_push, nil_from_length}
use Rattle.std.proofs.lemmas.List.Elements.{All-push, All-take}
use Rattle.store.specs.Packing.{IsPacked, TwoDigits, cell_bytes, packed, pair_byte, pair_in, unpacked, unpacked_on}

-- ### packing, from the last pair on

-- one pair more stands
pack_more : (bytes all : List ℕ) (k i rest b : ℕ) → i < length bytes → b ≡ pair_byte (rest % 100) → packed (suc k) rest ++ reverse (take i bytes) ≡ all → packed k (rest / 100) ++ reverse (take (i + 1) (slice_set bytes i b)) ≡ all
unfolding packed
pack_more bytes all k i rest b h w e =
    let t = ap reverse (take_more_set bytes i b h) ∙ reverse-append (take i bytes) (b ∷ []) in
    let a = append_assoc (packed k (rest / 100)) (pair_byte (rest % 100) ∷ []) (reverse (take i bytes)) in
    ap (λ xs. packed k (rest / 100) ++ xs) t ∙ (cc)

pub pack_step : (bytes all : List ℕ) (i rest b : ℕ) → i < cell_bytes → length bytes ≡ cell_bytes → b ≡ pair_byte (rest % 100) → packed (cell_bytes - i) rest ++ reverse (take i bytes) ≡ all → packed (cell_bytes - (i + 1)) (rest / 100) ++ reverse (take (i + 1) (slice_set bytes i b)) ≡ all
pack_step bytes all i rest b h l w e =
    let left : cell_bytes - i ≡ suc (cell_bytes - (i + 1)) = omega arith in
    pack_more bytes all (cell_bytes - (i + 1)) i rest b (omega arith) w (rw left at e)

-- no pair is left to come
pub pack_all : (bytes all : List ℕ) (i rest : ℕ) → cell_bytes ≤ i → length bytes ≡ cell_bytes → packed (cell_bytes - i) rest ++ reverse (take i bytes) ≡ all → reverse bytes ≡ all
unfolding packed
pack_all bytes all i rest h l e =
    let none : cell_bytes - i ≡ 0 = omega arith in
    let t = take_all i bytes (omega arith) in
    rw t at (rw none at e)

pub length_packed : (k n : ℕ) → length (packed k n) ≡ k
unfolding packed
length_packed zero n = refl
length_packed (suc k) n = length_push (packed k (n / 100)) (pair_byte (n % 100)) ∙ (let e = length_packed k (n / 100) in omega arith)

digits_packed : (k n : ℕ) → All TwoDigits (packed k n)
unfolding packed
digits_packed zero n = λ i d h. absurd (omega arith)
digits_packed (suc k) n = All-push TwoDigits (packed k (n / 100)) (pair_byte (n % 100)) (digits_packed k (n / 100)) (omega arith, omega arith)

pub is_packed : (n : ℕ) → IsPacked (packed cell_bytes n)
is_packed n = (length_packed cell_bytes n, digits_packed cell_bytes n)

-- ### unpacking, from the first pair on

unpacked_push : (n b : ℕ) (bs : List ℕ) → unpacked_on n (bs ++ (b ∷ [])) ≡ unpacked_on n bs * 100 + pair_in b
unpacked_push n b [] = refl
unpacked_push n b (x ∷ bs) = unpacked_push (n * 100 + pair_in x) b bs

-- ### each undoes the other

last : (bs : List ℕ) (k : ℕ) → length bs ≡ suc k → take k bs ++ (slice_index bs k ∷ []) ≡ bs
last bs k e = sym (take_more bs k 0 (omega arith)) ∙ take_all (k + 1) bs (omega arith)

pub unpacked_packed : (k n : ℕ) → n < 100 ^ k → unpacked (packed k n) ≡ n
unfolding packed
unpacked_packed zero n h = omega arith
unpacked_packed (suc k) n h =
    let h' : n < 100 ^ k * 100 = rw pow-suc at h in
    let e = unpacked_packed k (n / 100) (omega arith) in
    let f = unpacked_push 0 (pair_byte (n % 100)) (packed k (n / 100)) in
    f ∙ (omega arith)

-- the bytes' number is that of all but the last, times a hundred, and the last pair
split : (bs : List ℕ) (k : ℕ) → length bs ≡ suc k → unpacked bs ≡ unpacked (take k bs) * 100 + pair_in (slice_index bs k)
split bs k e = ap unpacked (sym (last bs k e)) ∙ unpacked_push 0 (slice_index bs k) (take k bs)

pub unpacked_below : (k : ℕ) (bs : List ℕ) → length bs ≡ k → All TwoDigits bs → unpacked bs < 100 ^ k
unpacked_below zero bs e d = let z = ap unpacked (nil_from_length bs e) in omega arith
unpacked_below (suc k) bs e d =
    let b = unpacked_below k (take k bs) (length-take-le k bs (omega arith)) (All-take TwoDigits k bs d) in
    let s = split bs k e in
    let t = d k 0 (omega arith) in
    rw pow-suc (omega arith)

pub packed_unpacked : (k : ℕ) (bs : List ℕ) → length bs ≡ k → All TwoDigits bs → packed k (unpacked bs) ≡ bs
unfolding packed
packed_unpacked zero bs e d = sym (nil_from_length bs e)
packed_unpacked (suc k) bs e d =
    let ih = packed_unpacked k (take k bs) (length-take-le k bs (omega arith)) (All-take TwoDigits k bs d) in
    let s = split bs k e in
    let t = d k 0 (omega arith) in
    let high : unpacked bs / 100 ≡ unpacked (take k bs) = omega arith in
    let low : pair_byte (unpacked bs % 100) ≡ slice_index_or bs k 0 = omega arith in
    rw (high, low) (ap (λ xs. xs ++ (slice_index bs k ∷ [])) ih ∙ last bs k e)
