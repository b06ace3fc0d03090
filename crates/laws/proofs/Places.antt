-- Each reader looks at one byte and then hands the rest on, so what it read before a failure it reads again before any bytes that go on alike.
-- Hence bytes that agree with a refused line up to and at the place are refused there too, whatever follows.
-- What was read before the place can always be withEnd: an operand by a variable, a pair by a sign and a variable, a parenthesis by its close, a line by its target.
use Rattle.std.proofs.Common.{◌≡◌, ℕ, zero, suc, ◌+◌, ◌-◌, ◌<◌, ◌≤◌, Bool, true, false, cond, eqb, List, [], ◌∷◌, ◌++◌, length, get_or, take, drop, Some, None, decimal, filter, Option, sym, refl, ap, ◌∙◌, subst, append_assoc, append-nil, arith}
use Rattle.std.proofs.lemmas.List.{length-append, length-take-le, take_at, drop_at}
use Rattle.std.proofs.lemmas.List.Sums.{prefix_len-le-length}
use Rattle.std.proofs.lemmas.Bool.Decides.{nat_tests}
use Rattle.std.proofs.lemmas.Bool.{ne_eqb, eqb-true, eq-eqb}
use Rattle.rules.specs.declared.refusal.Fault.{Fault}
use Rattle.rules.specs.declared.refusal.Fault.TheVariants.{LineEndMissing, ByteOutOfPlace, BadConstant, NestedTooDeep}
use Rattle.rules.specs.declared.sign.Sign.{Sign}
use Rattle.rules.specs.declared.sign.Sign.TheVariants.{Sum, Product, Difference, Quotient, Distance, Remainder, Greater, Smaller}
use Rattle.rules.specs.declared.formula.Start.{Start}
use Rattle.rules.specs.declared.formula.Start.TheVariants as S
use Rattle.rules.specs.declared.formula.Atom.{Atom}
use Rattle.rules.specs.declared.formula.Atom.TheVariants as A
use Rattle.rules.specs.declared.formula.Target.{Target}
use Rattle.rules.specs.declared.formula.Target.TheVariants as T
use Rattle.rules.specs.Codes.{sign_byte, code_table, sign_of}
use Rattle.rules.specs.Tree.{Operand, atom, pair, Side, reading, single, both, Line}
use Rattle.rules.specs.Written.{written, written_atom, written_side, written_target, written_line}
use Rattle.rules.specs.Reading.{Read, got, fails, onward, first, between, is_digit, start, digit_run, Digits, proper, constant_at, constant_if, letter_from, variable_at, byte_at, letter_at, sign_if, sign_at, second_by, pair_by, closed_by, operand_on, inside_at, operand_at, second_at, depth_limit, single_on, side_after, side_on, side_at, opening_at, target_on, target_at, end_at, line_at}
use Rattle.rules.specs.Programs.{IsVariable, IsLetter, GoodAtom, GoodOperand, GoodSide, GoodTarget, GoodLine}
use Rattle.laws.specs.Places.{place_at, with_end, count_of, open_after, Begins, BeginsNone, Stands, PlacesAreFirst}
use Rattle.laws.proofs.Digits.{decimal_digits, digit_at, digits_front, constant_start, constant_rest, digit_start}
use Rattle.laws.proofs.Back.{reads_written, writes_read, atom_reads, sign_reads, sign_digits, onward_back, got_value, got_rest, front, byte_back, sign_back, start_digit, start_pointer, start_parenthesis, from_second, from_pair, FromPair, closed_step, inside_suc, operand_on_lem, variable_start, letter_start, variable_reads}
use Rattle.laws.proofs.Lines.{lines_read, opening_reads, letter_back, opening_back, side_back, target_back, operand_first, after_reads}

-- counts of a byte

count_step : (t : Bool) (x : ℕ) (ms ns : List ℕ) (k : ℕ) → length ms ≡ length ns + k → length (cond t (x ∷ ms) ms) ≡ length (cond t (x ∷ ns) ns) + k
count_step true x ms ns k e = omega arith
count_step false x ms ns k e = e

count_append : (b : ℕ) (xs ys : List ℕ) → count_of b (xs ++ ys) ≡ count_of b xs + count_of b ys
count_append b [] ys = omega arith
count_append b (x ∷ xs) ys = count_step (eqb x b) x (filter (λ y. eqb y b) (xs ++ ys)) (filter (λ y. eqb y b) xs) (count_of b ys) (count_append b xs ys)

count_digits : (b : ℕ) (ds : List ℕ) → b < 48 → Digits ds → count_of b ds ≡ 0
count_digits b [] h f = refl
count_digits b (d ∷ ds) h f =
    let l : (48 ≤ d) × (d ≤ 57) = f 0 (omega arith) in
    let g : Digits ds = λ k i. f (suc k) (omega arith) in
    rw (ne_eqb d b (λ q. omega arith)) (count_digits b ds h g)

count_sign : (s : Sign) (xs : List ℕ) → (count_of 40 (sign_byte s ∷ xs) ≡ count_of 40 xs) × (count_of 41 (sign_byte s ∷ xs) ≡ count_of 41 xs)
count_sign Sum xs = (refl, refl)
count_sign Product xs = (refl, refl)
count_sign Difference xs = (refl, refl)
count_sign Quotient xs = (refl, refl)
count_sign Distance xs = (refl, refl)
count_sign Remainder xs = (refl, refl)
count_sign Greater xs = (refl, refl)
count_sign Smaller xs = (refl, refl)

abbrev Level : List ℕ → Type 0
Level xs = count_of 40 xs ≡ count_of 41 xs

level_append : (xs ys : List ℕ) → Level xs → Level ys → Level (xs ++ ys)
level_append xs ys p q = omega (arith, count_append 40 xs ys, count_append 41 xs ys)

level_sign : (s : Sign) (xs : List ℕ) → Level xs → Level (sign_byte s ∷ xs)
level_sign s xs p = (count_sign s xs).0 ∙ (p ∙ sym (count_sign s xs).1)

level_byte : (v : ℕ) → 64 ≤ v → Level (v ∷ [])
level_byte v h = rw (ne_eqb v 40 (λ q. omega arith), ne_eqb v 41 (λ q. omega arith))

level_atom : (x : Atom) → GoodAtom x → Level (written_atom x)
level_atom (A.Variable v) f = level_byte v (omega arith)
level_atom (A.Pointed v) f = level_byte v (omega arith)
level_atom (A.Letter g) f = level_byte g (omega arith)
level_atom (A.Constant n) f = let d = decimal_digits n f in count_digits 40 (decimal n) (omega arith) d.1 ∙ sym (count_digits 41 (decimal n) (omega arith) d.1)

level_pair : (xs ys : List ℕ) (s : Sign) → Level xs → Level ys → Level (40 ∷ (xs ++ (sign_byte s ∷ (ys ++ (41 ∷ [])))))
level_pair xs ys s p q =
    let a = count_sign s (ys ++ (41 ∷ [])) in
    omega (arith, a.0, a.1, count_append 40 xs (sign_byte s ∷ (ys ++ (41 ∷ []))), count_append 41 xs (sign_byte s ∷ (ys ++ (41 ∷ []))), count_append 40 ys (41 ∷ []), count_append 41 ys (41 ∷ []))

level : (n : ℕ) (x : Operand) → GoodOperand n x → Level (written x)
level n (atom x) f = level_atom x f
level zero (pair l s r) f = absurd f
level (suc n) (pair l s r) f = level_pair (written l) (written r) s (level n l f.0) (level n r f.1)

level_both : (l r : List ℕ) (s : Sign) → Level l → Level r → Level (l ++ (sign_byte s ∷ r))
level_both l r s p q = level_append l (sign_byte s ∷ r) p (level_sign s r q)

level_side : (z : Side) → GoodSide z → Level (written_side z)
level_side reading f = refl
level_side (single x) f = level_atom x f
level_side (both l s r) f = level_both (written l) (written r) s (level depth_limit l f.0) (level depth_limit r f.1)

-- the first byte, or the line end

keeps : (P : ℕ → Type 0) (xs : List ℕ) → P 10 → P (first xs) → P (get_or xs 0 10)
keeps P [] p q = p
keeps P (x ∷ xs) p q = q

first_some : (xs : List ℕ) → 0 < first xs → get_or xs 0 10 ≡ first xs
first_some [] h = absurd (omega arith)
first_some (x ∷ xs) h = refl

first_append : (c d ys : List ℕ) → first ys ≡ get_or d 0 10 → first (c ++ ys) ≡ get_or (c ++ d) 0 10
first_append [] d ys e = e
first_append (x ∷ c) d ys e = refl

no_digit : (xs : List ℕ) → digit_run xs ≡ 0 → is_digit (first xs) ≡ false
no_digit [] e = refl
no_digit (x ∷ xs) e = grind (arith, nat_tests)

no_run : (xs : List ℕ) → is_digit (first xs) ≡ false → digit_run xs ≡ 0
no_run [] e = refl
no_run (x ∷ xs) e = rw e

alike_run : (xs ys : List ℕ) → first ys ≡ get_or xs 0 10 → digit_run xs ≡ 0 → digit_run ys ≡ 0
alike_run xs ys i e = no_run ys (ap is_digit i ∙ keeps (λ b. is_digit b ≡ false) xs refl (no_digit xs e))

-- what stands at a place: a byte, or a run of digits

abbrev token : Fault → List ℕ → List ℕ
token LineEndMissing d = get_or d 0 10 ∷ []
token ByteOutOfPlace d = get_or d 0 10 ∷ []
token BadConstant d = take (digit_run d) d
token NestedTooDeep d = get_or d 0 10 ∷ []

-- with so many parentheses that may be opened, d being what is left
abbrev Why : ℕ → Fault → List ℕ → List ℕ → Type 0
Why n LineEndMissing c d = ⊥
Why n ByteOutOfPlace c d = Unit {0}
Why n BadConstant c d = (0 < digit_run d) × (proper d ≡ false)
Why n NestedTooDeep c d = (first d ≡ 40) × (count_of 40 c ≡ count_of 41 c + n)

first_take : (m : ℕ) (d zs : List ℕ) → 0 < m → 0 < length d → first (take m d ++ zs) ≡ get_or d 0 10
first_take zero d zs h l = absurd (omega arith)
first_take (suc m) [] zs h l = absurd (omega arith)
first_take (suc m) (x ∷ d) zs h l = refl

token_first : (n : ℕ) (e : Fault) (c d zs : List ℕ) → Why n e c d → first (token e d ++ zs) ≡ get_or d 0 10
token_first n LineEndMissing c d zs y = absurd y
token_first n ByteOutOfPlace c d zs y = refl
token_first n BadConstant c d zs y = let l : digit_run d ≤ length d = prefix_len-le-length is_digit d in first_take (digit_run d) d zs y.0 (omega arith)
token_first n NestedTooDeep c d zs y = refl

why_shift : (n k : ℕ) (e : Fault) (w c d : List ℕ) → count_of 40 w + n ≡ count_of 41 w + k → Why n e c d → Why k e (w ++ c) d
why_shift n k LineEndMissing w c d b y = y
why_shift n k ByteOutOfPlace w c d b y = y
why_shift n k BadConstant w c d b y = y
why_shift n k NestedTooDeep w c d b y = (y.0, omega (arith, y.1, count_append 40 w c, count_append 41 w c))

-- a reader that fails has read c before what is left, d, and c begins what fits
record Found {X : Type 0} (f : List ℕ → Read X) (Fit : List ℕ → Type 0) (n : ℕ) (e : Fault) (xs : List ℕ) (left : ℕ) : Type 0 where
  c : List ℕ
  d : List ℕ
  split : xs ≡ c ++ d
  long : length d ≡ left
  more : List ℕ
  fit : Fit (c ++ more)
  why : Why n e c d
  again : (zs : List ℕ) → f (c ++ (token e d ++ zs)) ≡ fails e (length (token e d ++ zs))

abbrev Places : {X : Type 0} → (List ℕ → Read X) → (List ℕ → Type 0) → ℕ → Type 0
Places f Fit n = (xs : List ℕ) (e : Fault) (left : ℕ) → f xs ≡ fails e left → Found f Fit n e xs left

-- from a reader of what is left after w to a reader of all
shift : {X Y : Type 0} (f : List ℕ → Read X) (h : List ℕ → Read Y) (F G : List ℕ → Type 0) (n k : ℕ) (w xs rest : List ℕ) (e : Fault) (left : ℕ) → xs ≡ w ++ rest → count_of 40 w + n ≡ count_of 41 w + k → ((ws : List ℕ) → F ws → (m : List ℕ) × G (w ++ (ws ++ m))) → ((ys : List ℕ) (l : ℕ) → first ys ≡ get_or rest 0 10 → f ys ≡ fails e l → h (w ++ ys) ≡ fails e l) → Found f F n e rest left → Found h G k e xs left
shift f h F G n k w xs rest e left s b fit go u =
    let m = fit (u.c ++ u.more) u.fit in
    record {
      c = w ++ u.c;
      d = u.d;
      split = s ∙ (ap (λ us. w ++ us) u.split ∙ sym (append_assoc w u.c u.d));
      long = u.long;
      more = u.more ++ m.0;
      fit = subst G (ap (λ us. w ++ us) (append_assoc u.c u.more m.0) ∙ sym (append_assoc w u.c (u.more ++ m.0))) m.1;
      why = why_shift n k e w u.c u.d b u.why;
      again = λ zs. rw append_assoc (go (u.c ++ (token e u.d ++ zs)) (length (token e u.d ++ zs)) (first_append u.c u.d (token e u.d ++ zs) (token_first n e u.c u.d zs u.why) ∙ ap (λ us. get_or us 0 10) (sym u.split)) (u.again zs));
    }

plain : (F G : List ℕ → Type 0) (w : List ℕ) → ((ws : List ℕ) → F ws → G (w ++ ws)) → (ws : List ℕ) → F ws → (m : List ℕ) × G (w ++ (ws ++ m))
plain F G w fit ws x = ([], subst (λ us. G (w ++ us)) (sym (append-nil ws)) (fit ws x))

fault_of : {X : Type 0} {a b : Fault} {m n : ℕ} → ◌≡◌ {A = Read X} (fails a m) (fails b n) → a ≡ b
fault_of e = cc

left_of : {X : Type 0} {a b : Fault} {m n : ℕ} → ◌≡◌ {A = Read X} (fails a m) (fails b n) → m ≡ n
left_of e = cc

-- a reader that fails at its first byte
base : {X : Type 0} (f : List ℕ → Read X) (F : List ℕ → Type 0) (n : ℕ) (xs : List ℕ) (e : Fault) (left : ℕ) (more : List ℕ) → F more → ◌≡◌ {A = Read X} (fails ByteOutOfPlace (length xs)) (fails e left) → ((zs : List ℕ) → f (get_or xs 0 10 ∷ zs) ≡ fails ByteOutOfPlace (suc (length zs))) → Found f F n e xs left
base f F n xs e left more fit q again =
    subst (λ i. Found f F n i xs left) (fault_of q) (subst (λ i. Found f F n ByteOutOfPlace xs i) (left_of q) (record { c = []; d = xs; split = refl; long = refl; more = more; fit = fit; why = tt; again = again }))

onward_ways : {X Y : Type 0} {P : Type 0} (x : Read X) (f : X → List ℕ → Read Y) (e : Fault) (left : ℕ) → onward x f ≡ fails e left → (x ≡ fails e left → P) → ((y : X) (ys : List ℕ) → x ≡ got y ys → f y ys ≡ fails e left → P) → P
onward_ways (got y ys) f e left q a b = b y ys refl q
onward_ways (fails i l) f e left q a b = a (ap (λ j. fails j l) (fault_of q) ∙ ap (λ j. fails e j) (left_of q))

never : {X P : Type 0} {x : X} {xs : List ℕ} {e : Fault} {l : ℕ} → got x xs ≡ fails e l → P
never q = let z : ◌≡◌ {A = ℕ} 0 1 = cc in absurd (omega arith)

-- one reader after another
seq : {X Y : Type 0} (f : List ℕ → Read X) (g : X → List ℕ → Read Y) (F G : List ℕ → Type 0) (n : ℕ) → Places f F n → ((ws : List ℕ) → F ws → (m : List ℕ) × G (ws ++ m)) → ((xs rest : List ℕ) (x : X) (e : Fault) (left : ℕ) → f xs ≡ got x rest → g x rest ≡ fails e left → Found (λ ys. onward (f ys) g) G n e xs left) → Places (λ ys. onward (f ys) g) G n
seq f g F G n p fit second xs e left q =
    onward_ways (f xs) g e left q (λ i. shift f (λ ys. onward (f ys) g) F G n n [] xs xs e left refl refl fit (λ ys l _ j. ap (λ r. onward r g) j) (p xs e left i)) (λ x rest i j. second xs rest x e left i j)

after : {X Y : Type 0} (f : List ℕ → Read X) (g : X → List ℕ → Read Y) (x : X) (F G : List ℕ → Type 0) (n : ℕ) (w xs rest : List ℕ) (e : Fault) (left : ℕ) → xs ≡ w ++ rest → Level w → ((ys : List ℕ) → first ys ≡ get_or rest 0 10 → f (w ++ ys) ≡ got x ys) → ((ws : List ℕ) → F ws → G (w ++ ws)) → Found (g x) F n e rest left → Found (λ ys. onward (f ys) g) G n e xs left
after f g x F G n w xs rest e left s b local fit u =
    shift (g x) (λ ys. onward (f ys) g) F G n n w xs rest e left s (omega arith) (plain F G w fit) (λ ys l i q. ap (λ r. onward r g) (local ys i) ∙ q) u

mapped : {X Y : Type 0} (f : List ℕ → Read X) (k : X → Y) (F : List ℕ → Type 0) (n : ℕ) → Places f F n → Places (λ ys. onward (f ys) (λ x zs. got (k x) zs)) F n
mapped f k F n p = seq f (λ x zs. got (k x) zs) F F n p (λ ws x. ([], subst F (sym (append-nil ws)) x)) (λ xs rest x e left i j. never j)

-- the readers of one byte

byte_places : (b n : ℕ) → eqb 10 b ≡ false → Places (byte_at b) (λ ws. ws ≡ b ∷ []) n
byte_places b n h xs e left q = ways (eqb (first xs) b) refl q
  where
    ways : (t : Bool) → eqb (first xs) b ≡ t → ◌≡◌ {A = Read ℕ} (elim t [ true ↦ got b (drop 1 xs) | false ↦ fails ByteOutOfPlace (length xs) ]) (fails e left) → Found (byte_at b) (λ ws. ws ≡ b ∷ []) n e xs left
    ways true t r = never r
    ways false t r = base (byte_at b) (λ ws. ws ≡ b ∷ []) n xs e left (b ∷ []) refl r (λ zs. keeps (λ y. byte_at b (y ∷ zs) ≡ fails ByteOutOfPlace (suc (length zs))) xs (rw (h, byte_at)) (rw (t, byte_at)))

abbrev AlphabetFit : ℕ → List ℕ → Type 0
AlphabetFit a ws = (v : ℕ) × ((a ≤ v) × (v ≤ a + 25)) × (ws ≡ v ∷ [])

-- the line end is no letter of the alphabet
alphabet_places : (a n : ℕ) → between a (a + 25) 10 ≡ false → Places (letter_from a) (AlphabetFit a) n
alphabet_places a n h xs e left q = ways (between a (a + 25) (first xs)) refl q
  where
    ways : (t : Bool) → between a (a + 25) (first xs) ≡ t → ◌≡◌ {A = Read ℕ} (elim t [ true ↦ got (first xs) (drop 1 xs) | false ↦ fails ByteOutOfPlace (length xs) ]) (fails e left) → Found (letter_from a) (AlphabetFit a) n e xs left
    ways true t r = never r
    ways false t r = base (letter_from a) (AlphabetFit a) n xs e left (a ∷ []) (a, (omega arith, omega arith), refl) r (λ zs. keeps (λ y. letter_from a (y ∷ zs) ≡ fails ByteOutOfPlace (suc (length zs))) xs (rw (h, letter_from)) (rw (t, letter_from)))

abbrev VariableFit : List ℕ → Type 0
VariableFit ws = (v : ℕ) × IsVariable v × (ws ≡ v ∷ [])

variable_places : (n : ℕ) → Places variable_at VariableFit n
variable_places n = alphabet_places 97 n refl

abbrev LetterFit : List ℕ → Type 0
LetterFit ws = (v : ℕ) × IsLetter v × (ws ≡ v ∷ [])

letter_places : (n : ℕ) → Places letter_at LetterFit n
letter_places n = alphabet_places 65 n refl

abbrev SignFit : List ℕ → Type 0
SignFit ws = (s : Sign) × (ws ≡ sign_byte s ∷ [])

sign_places : (n : ℕ) → Places sign_at SignFit n
sign_places n xs e left q = ways (sign_of (first xs) code_table) refl q
  where
    ways : (o : Option Sign) → sign_of (first xs) code_table ≡ o → sign_if o xs ≡ fails e left → Found sign_at SignFit n e xs left
    ways (Some s) o r = never r
    ways None o r = base sign_at SignFit n xs e left (43 ∷ []) (Sum, refl) r (λ zs. keeps (λ y. sign_at (y ∷ zs) ≡ fails ByteOutOfPlace (suc (length zs))) xs refl (ap (λ p. sign_if p (first xs ∷ zs)) o))

-- operands

abbrev OperandFit : ℕ → List ℕ → Type 0
OperandFit n ws = (x : Operand) × GoodOperand n x × (ws ≡ written x)

abbrev SecondFit : ℕ → List ℕ → Type 0
SecondFit n ws = (s : Sign) × (x : Operand) × GoodOperand n x × (ws ≡ sign_byte s ∷ written x)

abbrev PairFit : ℕ → List ℕ → Type 0
PairFit n ws = (l : Operand) × (s : Sign) × (r : Operand) × GoodOperand n l × GoodOperand n r × (ws ≡ written l ++ (sign_byte s ∷ written r))

abbrev ClosedFit : ℕ → List ℕ → Type 0
ClosedFit n ws = (l : Operand) × (s : Sign) × (r : Operand) × GoodOperand n l × GoodOperand n r × (ws ≡ written l ++ (sign_byte s ∷ (written r ++ (41 ∷ []))))

abbrev some_a : Operand
some_a = atom (A.Variable 97)

good_a : (n : ℕ) → GoodOperand n some_a
good_a zero = (omega arith, omega arith)
good_a (suc n) = (omega arith, omega arith)

pair_reads : (n : ℕ) (l r : Operand) (s : Sign) (rest : List ℕ) → GoodOperand n (pair l s r) → operand_at n (written (pair l s r) ++ rest) ≡ got (pair l s r) rest
pair_reads zero l r s rest f = absurd f
pair_reads (suc n) l r s rest f =
    let more : List ℕ = written r ++ (41 ∷ rest) in
    let right : operand_at n (written r ++ (41 ∷ rest)) ≡ got r (41 ∷ rest) = reads_written r n (41 ∷ rest) f.1 refl in
    let left : operand_at n (written l ++ (sign_byte s ∷ more)) ≡ got l (sign_byte s ∷ more) = reads_written l n (sign_byte s ∷ more) f.0 (sign_digits s more) in
    rw (append_assoc, append_assoc, closed_step, left, sign_reads, right)

-- an operand is read again before what begins alike
operand_local : (n : ℕ) (xs rest : List ℕ) (x : Operand) → operand_at n xs ≡ got x rest → (ys : List ℕ) → first ys ≡ get_or rest 0 10 → operand_at n (written x ++ ys) ≡ got x ys
unfolding operand_at
operand_local n xs rest x e ys i = ways x (writes_read n xs rest x e).0 (writes_read n xs rest x e).1 e
  where
    ways : (x : Operand) → GoodOperand n x → xs ≡ written x ++ rest → operand_at n xs ≡ got x rest → operand_at n (written x ++ ys) ≡ got x ys
    ways (atom (A.Variable v)) f w e = rw (variable_start v f.0 f.1)
    ways (atom (A.Pointed v)) f w e = rw (variable_reads v ys f.0 f.1)
    ways (atom (A.Letter g)) f w e = rw (letter_start g f.0 f.1)
    ways (atom (A.Constant m)) f w e =
        let s : start (first xs) ≡ S.Digit = ap (λ us. start (first us)) w ∙ constant_start m rest f in
        let o : operand_on (inside_at n) S.Digit xs ≡ got (atom (A.Constant m)) rest = ap (λ k. operand_on (inside_at n) k xs) (sym s) ∙ e in
        let b = onward_back (constant_at xs) _ (atom (A.Constant m)) rest o in
        let r : digit_run rest ≡ 0 = ap digit_run (sym (got_rest b.3)) ∙ constant_rest xs b.1 b.0 b.2 in
        atom_reads (A.Constant m) n ys f (alike_run rest ys i r)
    ways (pair l s r) f w e = pair_reads n l r s ys f

second_places : (n : ℕ) → Places (operand_at n) (OperandFit n) n → Places (second_by (operand_at n)) (SecondFit n) n
second_places n ih =
    seq sign_at (λ s ys. onward (operand_at n ys) (λ r zs. got (s, r) zs)) SignFit (SecondFit n) n (sign_places n) (λ ws (s, e). (97 ∷ [], (s, some_a, good_a n, ap (λ us. us ++ (97 ∷ [])) e))) (λ xs rest s e left q r. after sign_at (λ s ys. onward (operand_at n ys) (λ r zs. got (s, r) zs)) s (OperandFit n) (SecondFit n) n (sign_byte s ∷ []) xs rest e left (sign_back xs rest s q) (level_sign s [] refl) (λ ys _. sign_reads s ys) (λ ws (x, f, i). (s, x, f, ap (λ us. sign_byte s ∷ us) i)) (mapped (operand_at n) (λ r. (s, r)) (OperandFit n) n ih rest e left r))

pair_places : (n : ℕ) → Places (operand_at n) (OperandFit n) n → Places (pair_by (operand_at n)) (PairFit n) n
pair_places n ih =
    seq (operand_at n) (λ l ys. onward (second_by (operand_at n) ys) (λ q zs. got (pair l q.0 q.1) zs)) (OperandFit n) (PairFit n) n ih (λ ws (x, f, e). (43 ∷ (97 ∷ []), (x, Sum, some_a, f, good_a n, ap (λ us. us ++ (43 ∷ (97 ∷ []))) e))) next
  where
    next : (xs rest : List ℕ) (l : Operand) (e : Fault) (left : ℕ) → operand_at n xs ≡ got l rest → onward (second_by (operand_at n) rest) (λ q zs. got (pair l q.0 q.1) zs) ≡ fails e left → Found (pair_by (operand_at n)) (PairFit n) n e xs left
    next xs rest l e left q r =
        let w = writes_read n xs rest l q in
        after (operand_at n) (λ l ys. onward (second_by (operand_at n) ys) (λ q zs. got (pair l q.0 q.1) zs)) l (SecondFit n) (PairFit n) n (written l) xs rest e left w.1 (level n l w.0) (operand_local n xs rest l q) (λ ws (s, x, f, i). (l, s, x, w.0, f, ap (λ us. written l ++ us) i)) (mapped (second_by (operand_at n)) (λ q. pair l q.0 q.1) (SecondFit n) n (second_places n ih) rest e left r)

closed_places : (n : ℕ) → Places (operand_at n) (OperandFit n) n → Places (closed_by (operand_at n)) (ClosedFit n) n
closed_places n ih =
    seq (pair_by (operand_at n)) (λ p ys. onward (byte_at 41 ys) (λ _ zs. got p zs)) (PairFit n) (ClosedFit n) n (pair_places n ih) (λ ws (l, s, r, f, g, e). (41 ∷ [], (l, s, r, f, g, ap (λ us. us ++ (41 ∷ [])) e ∙ append_assoc (written l) (sign_byte s ∷ written r) (41 ∷ [])))) (λ xs rest p e left q r. next xs rest p e left (from_pair (operand_at n) xs rest p q) r)
  where
    next : (xs rest : List ℕ) (p : Operand) (e : Fault) (left : ℕ) → FromPair (operand_at n) xs rest p → onward (byte_at 41 rest) (λ _ zs. got p zs) ≡ fails e left → Found (closed_by (operand_at n)) (ClosedFit n) n e xs left
    next xs rest p e left (l, o, zs, el, (ws, es, er), ep) q =
        let wl = writes_read n xs zs l el in
        let wr = writes_read n ws rest o.1 er in
        let i : zs ≡ sign_byte o.0 ∷ ws = sign_back zs ws o.0 es in
        let w : List ℕ = written l ++ (sign_byte o.0 ∷ written o.1) in
        let s : xs ≡ (written l ++ (sign_byte o.0 ∷ written o.1)) ++ rest = wl.1 ∙ (ap (λ us. written l ++ us) (i ∙ ap (λ us. sign_byte o.0 ∷ us) wr.1) ∙ sym (append_assoc (written l) (sign_byte o.0 ∷ written o.1) rest)) in
        let local : (ys : List ℕ) → first ys ≡ get_or rest 0 10 → pair_by (operand_at n) ((written l ++ (sign_byte o.0 ∷ written o.1)) ++ ys) ≡ got p ys = λ ys j.
        (let right : operand_at n (written o.1 ++ ys) ≡ got o.1 ys = operand_local n ws rest o.1 er ys j in
        let left : operand_at n (written l ++ (sign_byte o.0 ∷ (written o.1 ++ ys))) ≡ got l (sign_byte o.0 ∷ (written o.1 ++ ys)) = reads_written l n (sign_byte o.0 ∷ (written o.1 ++ ys)) wl.0 (sign_digits o.0 (written o.1 ++ ys)) in
        rw (append_assoc, left, sign_reads, right) (ap (λ v. got v ys) ep)) in
        after (pair_by (operand_at n)) (λ p ys. onward (byte_at 41 ys) (λ _ zs. got p zs)) p (λ us. us ≡ 41 ∷ []) (ClosedFit n) n w xs rest e left s (level_both (written l) (written o.1) o.0 (level n l wl.0) (level n o.1 wr.0)) local (λ us j. (l, o.0, o.1, wl.0, wr.0, ap (λ vs. w ++ vs) j ∙ append_assoc (written l) (sign_byte o.0 ∷ written o.1) (41 ∷ []))) (mapped (byte_at 41) (λ _. p) (λ us. us ≡ 41 ∷ []) n (byte_places 41 n refl) rest e left q)

-- a run of digits that is not proper is none whatever follows

run_grows : (ds zs : List ℕ) → Digits ds → length ds ≤ digit_run (ds ++ zs)
run_grows [] zs f = omega arith
run_grows (d ∷ ds) zs f =
    let b : (48 ≤ d) × (d ≤ 57) = f 0 (omega arith) in
    let g : Digits ds = λ k h. f (suc k) (omega arith) in
    let ih : length ds ≤ digit_run (ds ++ zs) = run_grows ds zs g in
    let t : is_digit d ≡ true = grind (arith, nat_tests) in
    rw t (omega arith)

improper_again : (n : ℕ) (xs zs : List ℕ) → 0 < digit_run xs → proper xs ≡ false → operand_at n (take (digit_run xs) xs ++ zs) ≡ fails BadConstant (length (take (digit_run xs) xs ++ zs))
unfolding operand_at
improper_again n xs zs h p =
    let r : digit_run xs ≤ length xs = prefix_len-le-length is_digit xs in
    let l : length (take (digit_run xs) xs) ≡ digit_run xs = length-take-le (digit_run xs) xs r in
    let d : (48 ≤ first xs) × (first xs ≤ 57) = digit_at xs 0 h in
    let g : digit_run xs ≤ digit_run (take (digit_run xs) xs ++ zs) = omega (arith, run_grows (take (digit_run xs) xs) zs (digits_front xs)) in
    let i : first (take (digit_run xs) xs ++ zs) ≡ first xs = first_take (digit_run xs) xs zs h (omega arith) ∙ first_some xs (omega arith) in
    let s : start (first (take (digit_run xs) xs ++ zs)) ≡ S.Digit = ap start i ∙ digit_start (first xs) d.0 d.1 in
    let q : proper (take (digit_run xs) xs ++ zs) ≡ false = grind (arith, nat_tests) in
    rw (s, q)

on_places : (n : ℕ) → ((xs : List ℕ) (e : Fault) (left : ℕ) → inside_at n xs ≡ fails e left → first xs ≡ 40 → Found (operand_at n) (OperandFit n) n e xs left) → (xs : List ℕ) (e : Fault) (left : ℕ) (k : Start) → k ≡ start (first xs) → operand_on (inside_at n) k xs ≡ fails e left → Found (operand_at n) (OperandFit n) n e xs left
unfolding operand_at
on_places n inside xs e left S.Parenthesis s q = inside xs e left q (start_parenthesis (first xs) s)
on_places n inside xs e left S.Variable s q = never q
on_places n inside xs e left S.Pointer s q =
    let b = start_pointer (first xs) s in
    shift (λ ys. onward (variable_at ys) (λ v zs. got (atom (A.Pointed v)) zs)) (operand_at n) VariableFit (OperandFit n) n n (64 ∷ []) xs (drop 1 xs) e left (front xs (omega arith) ∙ ap (λ c. c ∷ drop 1 xs) b) refl (plain VariableFit (OperandFit n) (64 ∷ []) (λ ws (v, f, i). (atom (A.Pointed v), f, ap (λ us. 64 ∷ us) i))) (λ ys l _ k. k) (mapped variable_at (λ v. atom (A.Pointed v)) VariableFit n (variable_places n) (drop 1 xs) e left q)
on_places n inside xs e left S.Letter s q = never q
on_places n inside xs e left S.Digit s q =
    onward_ways (constant_at xs) (λ m ys. got (atom (A.Constant m)) ys) e left q (λ i. ways (proper xs) refl i) (λ m ys i j. never j)
  where
    ways : (t : Bool) → proper xs ≡ t → constant_if t xs ≡ fails e left → Found (operand_at n) (OperandFit n) n e xs left
    ways true t r = never r
    ways false t r =
        let h : 0 < digit_run xs = start_digit xs s in
        subst (λ i. Found (operand_at n) (OperandFit n) n i xs left) (fault_of r) (subst (λ i. Found (operand_at n) (OperandFit n) n BadConstant xs i) (left_of r) (record { c = []; d = xs; split = refl; long = refl; more = 97 ∷ []; fit = (some_a, good_a n, refl); why = (h, t); again = λ zs. improper_again n xs zs h t }))
on_places n inside xs e left S.Other s q =
    base (operand_at n) (OperandFit n) n xs e left (97 ∷ []) (some_a, good_a n, refl) q (λ zs. keeps (λ y. operand_at n (y ∷ zs) ≡ fails ByteOutOfPlace (suc (length zs))) xs refl (ap (λ k. operand_on (inside_at n) k (first xs ∷ zs)) (sym s)))

deep_places : (xs : List ℕ) (e : Fault) (left : ℕ) → inside_at 0 xs ≡ fails e left → first xs ≡ 40 → Found (operand_at 0) (OperandFit 0) 0 e xs left
unfolding inside_at operand_at
deep_places xs e left q b =
    let f : get_or xs 0 10 ≡ 40 = first_some xs (omega arith) ∙ b in
    subst (λ i. Found (operand_at 0) (OperandFit 0) 0 i xs left) (fault_of q) (subst (λ i. Found (operand_at 0) (OperandFit 0) 0 NestedTooDeep xs i) (left_of q) (record { c = []; d = xs; split = refl; long = refl; more = 97 ∷ []; fit = (some_a, good_a 0, refl); why = (b, refl); again = λ zs. rw f }))

inside_places : (n : ℕ) → Places (operand_at n) (OperandFit n) n → (xs : List ℕ) (e : Fault) (left : ℕ) → inside_at (suc n) xs ≡ fails e left → first xs ≡ 40 → Found (operand_at (suc n)) (OperandFit (suc n)) (suc n) e xs left
inside_places n ih xs e left q b =
    shift (closed_by (operand_at n)) (operand_at (suc n)) (ClosedFit n) (OperandFit (suc n)) n (suc n) (40 ∷ []) xs (drop 1 xs) e left (front xs (omega arith) ∙ ap (λ c. c ∷ drop 1 xs) b) (omega arith) (plain (ClosedFit n) (OperandFit (suc n)) (40 ∷ []) (λ ws (l, s, r, f, g, i). (pair l s r, (f, g), ap (λ us. 40 ∷ us) i))) (λ ys l _ k. closed_step n ys ∙ k) (closed_places n ih (drop 1 xs) e left (sym (inside_suc n xs) ∙ q))

operand_places : (n : ℕ) → Places (operand_at n) (OperandFit n) n
operand_places zero xs e left q = on_places zero deep_places xs e left (start (first xs)) refl (sym (operand_on_lem zero xs) ∙ q)
operand_places (suc n) xs e left q = on_places (suc n) (inside_places n (operand_places n)) xs e left (start (first xs)) refl (sym (operand_on_lem (suc n) xs) ∙ q)

-- sides

abbrev SideFit : List ℕ → Type 0
SideFit ws = (z : Side) × GoodSide z × (ws ≡ written_side z)

-- after an operand that does not stand alone, a second is read
abbrev Goes : Operand → List ℕ → Read Side
Goes x ys = onward (second_at depth_limit ys) (λ q zs. got (both x q.0 q.1) zs)

abbrev GoesOn : Operand → List ℕ → Type 0
GoesOn x rest = (ys : List ℕ) → first ys ≡ get_or rest 0 10 → side_after x ys ≡ Goes x ys

after_fails : (x : Operand) (rest : List ℕ) (e : Fault) (left : ℕ) → side_after x rest ≡ fails e left → (Goes x rest ≡ fails e left) × GoesOn x rest
after_fails (atom x) rest e left q = ways (eqb (first rest) 44) refl q
  where
    ways : (t : Bool) → eqb (first rest) 44 ≡ t → single_on t x rest ≡ fails e left → (Goes (atom x) rest ≡ fails e left) × GoesOn (atom x) rest
    ways true t r = never r
    ways false t r = (r, λ ys i. ap (λ b. single_on b x ys) (ap (λ b. eqb b 44) i ∙ keeps (λ b. eqb b 44 ≡ false) rest refl t))
after_fails (pair l s r) rest e left q = (q, λ ys i. refl)

side_of : (x : Operand) (n : ℕ) (ys : List ℕ) → GoodOperand n x → side_at (written x ++ ys) ≡ onward (operand_at depth_limit (written x ++ ys)) side_after
side_of x n ys f = ap (λ b. side_on b (written x ++ ys)) (ne_eqb (first (written x ++ ys)) 63 (operand_first x n ys f))

side_places : Places side_at SideFit depth_limit
side_places xs e left q = ways (eqb (first xs) 63) refl q
  where
    next : (x : Operand) (rest : List ℕ) → operand_at depth_limit xs ≡ got x rest → side_after x rest ≡ fails e left → Found side_at SideFit depth_limit e xs left
    next x rest i j =
        let w = writes_read depth_limit xs rest x i in
        let o = after_fails x rest e left j in
        shift (Goes x) side_at (SecondFit depth_limit) SideFit depth_limit depth_limit (written x) xs rest e left w.1 (ap (λ m. m + depth_limit) (level depth_limit x w.0)) (plain (SecondFit depth_limit) SideFit (written x) (λ ws (s, r, f, k). (both x s r, (w.0, f), ap (λ us. written x ++ us) k))) (λ ys l k m. side_of x depth_limit ys w.0 ∙ (ap (λ r. onward r side_after) (operand_local depth_limit xs rest x i ys k) ∙ (o.1 ys k ∙ m))) (mapped (second_at depth_limit) (λ q. both x q.0 q.1) (SecondFit depth_limit) depth_limit (second_places depth_limit (operand_places depth_limit)) rest e left o.0)

    ways : (t : Bool) → eqb (first xs) 63 ≡ t → side_on t xs ≡ fails e left → Found side_at SideFit depth_limit e xs left
    ways true t r = never r
    ways false t r =
        onward_ways (operand_at depth_limit xs) side_after e left r (λ i. shift (operand_at depth_limit) side_at (OperandFit depth_limit) SideFit depth_limit depth_limit [] xs xs e left refl refl (λ ws (x, f, k). (43 ∷ (97 ∷ []), (both x Sum some_a, (f, good_a depth_limit), ap (λ us. us ++ (43 ∷ (97 ∷ []))) k))) (λ ys l k m. ap (λ b. side_on b ys) (ap (λ b. eqb b 63) k ∙ keeps (λ b. eqb b 63 ≡ false) xs refl t) ∙ ap (λ r. onward r side_after) m) (operand_places depth_limit xs e left i)) next

-- a side is read again before what begins alike
side_local : (xs rest : List ℕ) (z : Side) → side_at xs ≡ got z rest → (ys : List ℕ) → first ys ≡ get_or rest 0 10 → side_at (written_side z ++ ys) ≡ got z ys
side_local xs rest z e ys i = ways (eqb (first xs) 63) refl e
  where
    goes : (x : Operand) (mid : List ℕ) → operand_at depth_limit xs ≡ got x mid → Goes x mid ≡ got z rest → side_at (written_side z ++ ys) ≡ got z ys
    goes x mid o j =
        let b = onward_back (second_at depth_limit mid) _ z rest j in
        let v = from_second (operand_at depth_limit) mid b.1 b.0 b.2 in
        let w = writes_read depth_limit xs mid x o in
        let right : operand_at depth_limit (written b.0.1 ++ ys) ≡ got b.0.1 ys = operand_local depth_limit v.0 b.1 b.0.1 v.2 ys (i ∙ ap (λ us. get_or us 0 10) (sym (got_rest b.3))) in
        let left : operand_at depth_limit (written x ++ (sign_byte b.0.0 ∷ (written b.0.1 ++ ys))) ≡ got x (sign_byte b.0.0 ∷ (written b.0.1 ++ ys)) = reads_written x depth_limit (sign_byte b.0.0 ∷ (written b.0.1 ++ ys)) w.0 (sign_digits b.0.0 (written b.0.1 ++ ys)) in
        let second : second_at depth_limit (sign_byte b.0.0 ∷ (written b.0.1 ++ ys)) ≡ got (b.0.0, b.0.1) ys = rw (sign_reads, right) in
        let all : side_at ((written x ++ (sign_byte b.0.0 ∷ written b.0.1)) ++ ys) ≡ got (both x b.0.0 b.0.1) ys = ap side_at (append_assoc (written x) (sign_byte b.0.0 ∷ written b.0.1) ys) ∙ (side_of x depth_limit (sign_byte b.0.0 ∷ (written b.0.1 ++ ys)) w.0 ∙ (ap (λ q. onward q side_after) left ∙ after_reads x b.0.1 b.0.0 ys second)) in
        subst (λ u. side_at (written_side u ++ ys) ≡ got u ys) (got_value b.3) all

    alone : (t : Bool) (x : Atom) (mid : List ℕ) → eqb (first mid) 44 ≡ t → operand_at depth_limit xs ≡ got (atom x) mid → single_on t x mid ≡ got z rest → side_at (written_side z ++ ys) ≡ got z ys
    alone true x mid t o j =
        let w = writes_read depth_limit xs mid (atom x) o in
        let k : first ys ≡ get_or mid 0 10 = i ∙ ap (λ us. get_or us 0 10) (sym (got_rest j)) in
        let c : first mid ≡ 44 = eqb-true (first mid) 44 t in
        let m : first ys ≡ 44 = k ∙ (first_some mid (omega arith) ∙ c) in
        let all : side_at (written_atom x ++ ys) ≡ got (single x) ys = side_of (atom x) depth_limit ys w.0 ∙ (ap (λ q. onward q side_after) (operand_local depth_limit xs mid (atom x) o ys k) ∙ ap (λ b. single_on b x ys) (eq-eqb (first ys) 44 m)) in
        subst (λ u. side_at (written_side u ++ ys) ≡ got u ys) (got_value j) all
    alone false x mid t o j = goes (atom x) mid o j

    next : (x : Operand) (mid : List ℕ) → operand_at depth_limit xs ≡ got x mid → side_after x mid ≡ got z rest → side_at (written_side z ++ ys) ≡ got z ys
    next (atom x) mid o j = alone (eqb (first mid) 44) x mid refl o j
    next (pair l s r) mid o j = goes (pair l s r) mid o j

    ways : (t : Bool) → eqb (first xs) 63 ≡ t → side_on t xs ≡ got z rest → side_at (written_side z ++ ys) ≡ got z ys
    ways true t r = subst (λ u. side_at (written_side u ++ ys) ≡ got u ys) (got_value r) refl
    ways false t r = let b = onward_back (operand_at depth_limit xs) side_after z rest r in next b.0 b.1 b.2 b.3

-- targets

abbrev TargetFit : List ℕ → Type 0
TargetFit ws = (u : Target) × GoodTarget u × (ws ≡ written_target u)

target_local : (u : Target) (ys : List ℕ) → GoodTarget u → target_at (written_target u ++ ys) ≡ got u ys
target_local (T.Variable v) ys f = grind (arith, nat_tests)
target_local (T.Pointed v) ys f = grind (arith, nat_tests)
target_local T.Label ys f = refl
target_local T.Place ys f = refl

level_target : (u : Target) → GoodTarget u → Level (written_target u)
level_target (T.Variable v) f = level_byte v (omega arith)
level_target (T.Pointed v) f = level_byte v (omega arith)
level_target T.Label f = refl
level_target T.Place f = refl

target_places : (n : ℕ) → Places target_at TargetFit n
target_places n xs e left q = ways (start (first xs)) refl q
  where
    stuck : ◌≡◌ {A = Read Target} (fails ByteOutOfPlace (length xs)) (fails e left) → ((zs : List ℕ) → target_at (first xs ∷ zs) ≡ fails ByteOutOfPlace (suc (length zs))) → Found target_at TargetFit n e xs left
    stuck r g = base target_at TargetFit n xs e left (97 ∷ []) (T.Variable 97, (omega arith, omega arith), refl) r (λ zs. keeps (λ y. target_at (y ∷ zs) ≡ fails ByteOutOfPlace (suc (length zs))) xs refl (g zs))

    other : (t v : Bool) → S.Other ≡ start (first xs) → eqb (first xs) 63 ≡ t → eqb (first xs) 35 ≡ v → ◌≡◌ {A = Read Target} (elim t [ true ↦ got T.Label (drop 1 xs) | false ↦ elim v [ true ↦ got T.Place (drop 1 xs) | false ↦ fails ByteOutOfPlace (length xs) ] ]) (fails e left) → Found target_at TargetFit n e xs left
    other true v s t w r = never r
    other false true s t w r = never r
    other false false s t w r = stuck r (λ zs. ap (λ k. target_on k (first xs ∷ zs)) (sym s) ∙ rw (t, w, target_on))

    ways : (k : Start) → k ≡ start (first xs) → target_on k xs ≡ fails e left → Found target_at TargetFit n e xs left
    ways S.Parenthesis s r = stuck r (λ zs. ap (λ k. target_on k (first xs ∷ zs)) (sym s))
    ways S.Variable s r = never r
    ways S.Pointer s r =
        let b = start_pointer (first xs) s in
        shift (λ ys. onward (variable_at ys) (λ v zs. got (T.Pointed v) zs)) target_at VariableFit TargetFit n n (64 ∷ []) xs (drop 1 xs) e left (front xs (omega arith) ∙ ap (λ c. c ∷ drop 1 xs) b) refl (plain VariableFit TargetFit (64 ∷ []) (λ ws (v, f, i). (T.Pointed v, f, ap (λ us. 64 ∷ us) i))) (λ ys l _ k. k) (mapped variable_at (λ v. T.Pointed v) VariableFit n (variable_places n) (drop 1 xs) e left r)
    ways S.Letter s r = stuck r (λ zs. ap (λ k. target_on k (first xs ∷ zs)) (sym s))
    ways S.Digit s r = stuck r (λ zs. ap (λ k. target_on k (first xs ∷ zs)) (sym s))
    ways S.Other s r = other (eqb (first xs) 63) (eqb (first xs) 35) s refl refl r

-- lines

end_places : (k : Line) (n : ℕ) → Places (end_at k) (λ ws. ws ≡ []) n
end_places k n [] e left q = never q
end_places k n (x ∷ xs) e left q = base (end_at k) (λ ws. ws ≡ []) n (x ∷ xs) e left [] refl q (λ zs. refl)

abbrev line : ℕ → Side → Target → Line
line g z u = record { group = g; side = z; target = u }

abbrev tail : ℕ → Side → List ℕ → Read Line
tail g z us = onward (target_at us) (λ u vs. end_at (line g z u) vs)

tail_places : (g : ℕ) (z : Side) (n : ℕ) → Places (tail g z) TargetFit n
tail_places g z n = seq target_at (λ u vs. end_at (line g z u) vs) TargetFit TargetFit n (target_places n) (λ ws x. ([], subst TargetFit (sym (append-nil ws)) x)) next
  where
    next : (xs rest : List ℕ) (u : Target) (e : Fault) (left : ℕ) → target_at xs ≡ got u rest → end_at (line g z u) rest ≡ fails e left → Found (tail g z) TargetFit n e xs left
    next xs rest u e left q r =
        let w = target_back xs rest u q in
        after target_at (λ u vs. end_at (line g z u) vs) u (λ ws. ws ≡ []) TargetFit n (written_target u) xs rest e left w.1 (level_target u w.0) (λ ys _. target_local u ys w.0) (λ ws i. (u, w.0, ap (λ us. written_target u ++ us) i ∙ append-nil (written_target u))) (end_places (line g z u) n rest e left r)

abbrev CommaFit : List ℕ → Type 0
CommaFit ws = (u : Target) × GoodTarget u × (ws ≡ 44 ∷ written_target u)

abbrev comma : ℕ → Side → List ℕ → Read Line
comma g z zs = onward (byte_at 44 zs) (λ _ us. tail g z us)

comma_places : (g : ℕ) (z : Side) (n : ℕ) → Places (comma g z) CommaFit n
comma_places g z n = seq (byte_at 44) (λ _ us. tail g z us) (λ ws. ws ≡ 44 ∷ []) CommaFit n (byte_places 44 n refl) (λ ws i. (97 ∷ [], (T.Variable 97, (omega arith, omega arith), ap (λ us. us ++ (97 ∷ [])) i))) (λ xs rest b e left q r. after (byte_at 44) (λ _ us. tail g z us) 44 TargetFit CommaFit n (44 ∷ []) xs rest e left (byte_back 44 xs rest b (omega arith) q) refl (λ ys _. refl) (λ ws (u, f, i). (u, f, ap (λ us. 44 ∷ us) i)) (tail_places g z n rest e left r))

abbrev BodyFit : List ℕ → Type 0
BodyFit ws = (z : Side) × (u : Target) × GoodSide z × GoodTarget u × (ws ≡ written_side z ++ (44 ∷ written_target u))

abbrev body : ℕ → List ℕ → Read Line
body g ys = onward (side_at ys) (λ z zs. comma g z zs)

body_places : (g : ℕ) → Places (body g) BodyFit depth_limit
body_places g = seq side_at (λ z zs. comma g z zs) SideFit BodyFit depth_limit side_places (λ ws (z, f, i). (44 ∷ (97 ∷ []), (z, T.Variable 97, f, (omega arith, omega arith), ap (λ us. us ++ (44 ∷ (97 ∷ []))) i))) next
  where
    next : (xs rest : List ℕ) (z : Side) (e : Fault) (left : ℕ) → side_at xs ≡ got z rest → comma g z rest ≡ fails e left → Found (body g) BodyFit depth_limit e xs left
    next xs rest z e left q r =
        let w = side_back xs rest z q in
        after side_at (λ z zs. comma g z zs) z CommaFit BodyFit depth_limit (written_side z) xs rest e left w.1 (level_side z w.0) (side_local xs rest z q) (λ ws (u, f, i). (z, u, w.0, f, ap (λ us. written_side z ++ us) i)) (comma_places g z depth_limit rest e left r)

letter_reads : (g : ℕ) (ys : List ℕ) → 65 ≤ g → g ≤ 90 → letter_at (g ∷ ys) ≡ got g ys
letter_reads g ys l h = grind (arith, nat_tests)

abbrev OpeningFit : List ℕ → Type 0
OpeningFit ws = (g : ℕ) × IsLetter g × (ws ≡ g ∷ (44 ∷ []))

opening_places : (n : ℕ) → Places opening_at OpeningFit n
opening_places n = seq letter_at (λ g ys. onward (byte_at 44 ys) (λ _ zs. got g zs)) LetterFit OpeningFit n (letter_places n) (λ ws (g, f, i). (44 ∷ [], (g, f, ap (λ us. us ++ (44 ∷ [])) i))) next
  where
    next : (xs rest : List ℕ) (g : ℕ) (e : Fault) (left : ℕ) → letter_at xs ≡ got g rest → onward (byte_at 44 rest) (λ _ zs. got g zs) ≡ fails e left → Found opening_at OpeningFit n e xs left
    next xs rest g e left q r =
        let w = letter_back xs rest g q in
        after letter_at (λ g ys. onward (byte_at 44 ys) (λ _ zs. got g zs)) g (λ ws. ws ≡ 44 ∷ []) OpeningFit n (g ∷ []) xs rest e left w.2 (level_byte g (omega arith)) (λ ys _. letter_reads g ys w.0 w.1) (λ ws i. (g, (w.0, w.1), ap (λ us. g ∷ us) i)) (mapped (byte_at 44) (λ _. g) (λ ws. ws ≡ 44 ∷ []) n (byte_places 44 n refl) rest e left r)

abbrev LineFit : List ℕ → Type 0
LineFit ws = (k : Line) × GoodLine k × (ws ≡ written_line k)

line_places : Places line_at LineFit depth_limit
line_places = seq opening_at (λ g ys. body g ys) OpeningFit LineFit depth_limit (opening_places depth_limit) (λ ws (g, f, i). (63 ∷ (44 ∷ (97 ∷ [])), (line g reading (T.Variable 97), record { group = f; side = tt; target = (omega arith, omega arith) }, ap (λ us. us ++ (63 ∷ (44 ∷ (97 ∷ [])))) i))) next
  where
    next : (xs rest : List ℕ) (g : ℕ) (e : Fault) (left : ℕ) → opening_at xs ≡ got g rest → body g rest ≡ fails e left → Found line_at LineFit depth_limit e xs left
    next xs rest g e left q r =
        let w = opening_back xs rest g q in
        after opening_at (λ g ys. body g ys) g BodyFit LineFit depth_limit (g ∷ (44 ∷ [])) xs rest e left w.2 (level_append (g ∷ []) (44 ∷ []) (level_byte g (omega arith)) refl) (λ ys _. opening_reads g ys w.0 w.1) (λ ws (z, u, f, h, i). (line g z u, record { group = (w.0, w.1); side = f; target = h }, ap (λ us. g ∷ (44 ∷ us)) i)) (body_places g rest e left r)

-- the law

take_before : (c d : List ℕ) → take (length c) (with_end (c ++ d)) ≡ c
take_before [] d = refl
take_before (x ∷ c) d = ap (λ us. x ∷ us) (take_before c d)

before_is : (c d xs : List ℕ) (p : ℕ) → xs ≡ c ++ d → p - 1 ≡ length c → take (p - 1) (with_end xs) ≡ c
before_is c d xs p s j = rw (j, s) (take_before c d)

take_here : (c d : List ℕ) → take (suc (length c)) (with_end (c ++ d)) ≡ c ++ (get_or d 0 10 ∷ [])
take_here [] [] = refl
take_here [] (x ∷ d) = refl
take_here (x ∷ c) d = ap (λ us. x ∷ us) (take_here c d)

byte_here : (c d : List ℕ) → get_or (c ++ d) (length c) 0 ≡ first d
byte_here [] d = refl
byte_here (x ∷ c) d = byte_here c d

none : (e : Fault) (c ts : List ℕ) → ((zs : List ℕ) → line_at (c ++ (ts ++ zs)) ≡ fails e (length (ts ++ zs))) → BeginsNone (c ++ ts)
none e c ts g suffix k f q = never (sym (ap line_at q ∙ lines_read k f) ∙ (ap line_at (append_assoc c ts suffix) ∙ g suffix))

stands : (e : Fault) (c d xs : List ℕ) (p : ℕ) → xs ≡ c ++ d → p ≡ suc (length c) → p - 1 ≡ length c → Why depth_limit e c d → ((zs : List ℕ) → line_at (c ++ (token e d ++ zs)) ≡ fails e (length (token e d ++ zs))) → Stands e xs p
stands LineEndMissing c d xs p s i j y g = y
stands ByteOutOfPlace c d xs p s i j y g = rw (s, i, take_here) (none ByteOutOfPlace c (get_or d 0 10 ∷ []) g)
stands BadConstant c d xs p s i j y g =
    let v : drop (p - 1) xs ≡ d = rw (j, s) (drop_at c d (length c) refl) in
    let u : take (p - 1) xs ≡ c = rw (j, s) (take_at c d (length c) refl) in
    rw (v, u) (y.0, y.1, none BadConstant c (take (digit_run d) d) g)
stands NestedTooDeep c d xs p s i j y g =
    let u : take (p - 1) xs ≡ c = rw (j, s) (take_at c d (length c) refl) in
    let b : get_or xs (p - 1) 0 ≡ 40 = rw (j, s, byte_here) y.0 in
    let o : open_after (take (p - 1) xs) ≡ depth_limit = rw u (omega (arith, y.1)) in
    (b, o, rw (s, i, take_here) (none NestedTooDeep c (get_or d 0 10 ∷ []) g))

pub places_are_first_lem : PlacesAreFirst
places_are_first_lem xs e left q =
    let u = line_places xs e left q in
    let n : length xs ≡ length u.c + length u.d = ap length u.split ∙ length-append u.c u.d in
    let l : length u.d ≡ left = u.long in
    let i : place_at xs left ≡ suc (length u.c) = omega arith in
    let j : place_at xs left - 1 ≡ length u.c = omega arith in
    let t : take (place_at xs left - 1) (with_end xs) ≡ u.c = before_is u.c u.d xs (place_at xs left) u.split j in
    let b : Begins u.c = (u.more, u.fit.0, u.fit.1, u.fit.2) in
    record {
      low = omega arith;
      high = omega arith;
      before = subst Begins (sym t) b;
      here = stands e u.c u.d xs (place_at xs left) u.split i j u.why u.again;
    }
