-- Words put on a tape, one part of them after another.
use Rattle.std.proofs.Common.{◌≡◌, ℕ, suc, ◌+◌, ◌<◌, ◌≤◌, List, [], ◌∷◌, ◌++◌, length, get_or, take, drop, Some, None, Option, sym, refl, ap, ◌∙◌, subst, append_assoc, append-nil, arith}
use Rattle.std.specs.Borrow.{Bor}
use Rattle.std.proofs.lemmas.List.{take_more, take_all, drop-drop, length-append, length-take}
use Rattle.rules.specs.declared.operation.Operation.{Operation}
use Rattle.rules.specs.Tree.{Side, reading, single, both, Line, Program}
use Rattle.rules.specs.Cells.{temporary_cell, constant_cell, target_address}
use Rattle.rules.specs.Words.{word, operation_word, operation_words, side_words, line_words, head_if, code_words, constant_words, tape_of}
use Rattle.laws.proofs.Lengths.{operations_length, constants_length, tape_length}
use Rattle.compiler.specs.declared.tape_writer.TapeWriter.{TapeWriter}
use Rattle.compiler.specs.declared.constants.Constants.{Constants}
use Rattle.compiler.specs.Held.{table}
use Rattle.reader.specs.declared.line.ReadLine.{ReadLine}
use Rattle.reader.specs.Lines.{side_of, line_of}
use Rattle.compiler.specs.Rewritten.{read_side_words, read_words}
use Rattle.compiler.specs.Put.{Room, Wrote, Stands}

pub wrote_none : (a : TapeWriter) → Wrote a [] a
wrote_none a = record { same_reference = refl; constants = refl; front = sym (append-nil (take a.count a.buffer.now)); back = refl; count = omega arith; size = refl }

wrote_then : (a b c : TapeWriter) (ws vs : List ℕ) → Wrote a ws b → Wrote b vs c → Wrote a (ws ++ vs) c
wrote_then a b c ws vs p q =
    let n : c.count ≡ b.count + length vs = q.count in
    let d : (l : List ℕ) → drop c.count l ≡ drop (length vs) (drop b.count l) = λ l. ap (λ (k : ℕ). drop k l) n ∙ sym (drop-drop (length vs) b.count l) in
    record {
      same_reference = q.same_reference ∙ p.same_reference;
      constants = q.constants ∙ p.constants;
      front = q.front ∙ (ap (λ (o : List ℕ). o ++ vs) p.front ∙ append_assoc (take a.count a.buffer.now) ws vs);
      back = q.back ∙ (d b.buffer.now ∙ (ap (drop (length vs)) p.back ∙ sym (d a.buffer.now)));
      count = simp length-append (omega (arith, p.count, q.count));
      size = q.size ∙ p.size;
    }

pub wrote_is : (a b : TapeWriter) (ws vs : List ℕ) → ws ≡ vs → Wrote a ws b → Wrote a vs b
wrote_is a b ws vs e p = subst (λ (o : List ℕ). Wrote a o b) e p

same_table : {X : Type 0} (a b : TapeWriter) (ws : List ℕ) → Wrote a ws b → (f : List ℕ → X) → f (table b.constants.now) ≡ f (table a.constants.now)
same_table a b ws p f = ap (λ (k : Bor Constants). f (table k.now)) p.constants

-- one constant more
constants_append : (i : ℕ) (xs ys : List ℕ) → constant_words i (xs ++ ys) ≡ constant_words i xs ++ constant_words (i + length xs) ys
constants_append i [] ys = let n : i + 0 ≡ i = omega arith in rw n
constants_append i (x ∷ xs) ys =
    let n : suc i + length xs ≡ i + length (x ∷ xs) = omega arith in
    ap (λ (o : List ℕ). word 0 11 0 (constant_cell i) ∷ (x ∷ o)) (constants_append (suc i) xs ys ∙ ap (λ (k : ℕ). constant_words (suc i) xs ++ constant_words k ys) n)

pub constant_room : (a b : TapeWriter) (held cs : List ℕ) (i : ℕ) → held ≡ cs → i < length held → Room a (constant_words 0 cs) → Wrote a (constant_words 0 (take i held)) b → b.count + 2 ≤ length b.buffer.now
constant_room a b held cs i e h r p = let n : length (take i held) ≡ i = simp length-take (omega arith) in omega (arith, r, p.count, p.size, constants_length 0 cs, constants_length 0 (take i held), ap length e)

pub constant_turn : (a b c d : TapeWriter) (held : List ℕ) (i w : ℕ) → i < length held → Wrote a (constant_words 0 (take i held)) b → Wrote b (w ∷ []) c → Wrote c (get_or held i 0 ∷ []) d → w ≡ word 0 11 0 (constant_cell i) → Wrote a (constant_words 0 (take (i + 1) held)) d
constant_turn a b c d held i w h p q r e =
    let n : 0 + length (take i held) ≡ i = simp length-take (omega arith) in
    let f : constant_words 0 (take i held) ++ ((w ∷ []) ++ (get_or held i 0 ∷ [])) ≡ constant_words 0 (take (i + 1) held) = rw (take_more held i 0 h, constants_append 0 (take i held) (get_or held i 0 ∷ []), n, e) refl in
    wrote_is a d _ _ f (wrote_then a b d (constant_words 0 (take i held)) ((w ∷ []) ++ (get_or held i 0 ∷ [])) p (wrote_then b c d (w ∷ []) (get_or held i 0 ∷ []) q r))

-- the operations of a pair: all but the last give their results to temporaries
abbrev pub inner_words : List ℕ → List Operation → List ℕ
inner_words cs [] = []
inner_words cs (o ∷ os) = operation_word cs (temporary_cell o.result) o ∷ inner_words cs os

inner_append : (cs : List ℕ) (os ps : List Operation) → inner_words cs (os ++ ps) ≡ inner_words cs os ++ inner_words cs ps
inner_append cs [] ps = refl
inner_append cs (o ∷ os) ps = ap (λ (ws : List ℕ). operation_word cs (temporary_cell o.result) o ∷ ws) (inner_append cs os ps)

inner_length : (cs : List ℕ) (os : List Operation) → length (inner_words cs os) ≡ length os
inner_length cs [] = refl
inner_length cs (o ∷ os) = ap suc (inner_length cs os)

not_last : (cs : List ℕ) (er : ℕ) (p o : Operation) (os : List Operation) → operation_words cs er (p ∷ (os ++ (o ∷ []))) ≡ operation_word cs (temporary_cell p.result) p ∷ operation_words cs er (os ++ (o ∷ []))
not_last cs er p o [] = refl
not_last cs er p o (q ∷ qs) = refl

operations_end : (cs : List ℕ) (er : ℕ) (os : List Operation) (o : Operation) → operation_words cs er (os ++ (o ∷ [])) ≡ inner_words cs os ++ (operation_word cs er o ∷ [])
operations_end cs er [] o = refl
operations_end cs er (p ∷ os) o = not_last cs er p o os ∙ ap (λ (ws : List ℕ). operation_word cs (temporary_cell p.result) p ∷ ws) (operations_end cs er os o)

pub operation_room : (a b : TapeWriter) (cs ds : List ℕ) (er i : ℕ) (all os : List Operation) (o : Operation) → all ≡ os ++ (o ∷ []) → i ≤ length os → Room a (operation_words cs er all) → Wrote a (inner_words ds (take i os)) b → b.count + 1 ≤ length b.buffer.now
operation_room a b cs ds er i all os o e h r p = let n : length (take i os) ≡ i = simp length-take (omega arith) in omega (arith, r, p.count, p.size, operations_length cs er all, inner_length ds (take i os), n, ap length e, length-append os (o ∷ []))

pub operation_turn : (a b c : TapeWriter) (os : List Operation) (i t w : ℕ) (d : Operation) → i < length os → Wrote a (inner_words (table a.constants.now) (take i os)) b → t ≡ temporary_cell (get_or os i d).result → w ≡ operation_word (table b.constants.now) t (get_or os i d) → Wrote b (w ∷ []) c → Wrote a (inner_words (table a.constants.now) (take (i + 1) os)) c
operation_turn a b c os i t w d h p e g q =
    let cs : List ℕ = table a.constants.now in
    let k : w ≡ operation_word cs (temporary_cell (get_or os i d).result) (get_or os i d) = g ∙ (same_table a b _ p (λ (o : List ℕ). operation_word o t (get_or os i d)) ∙ ap (λ (o : ℕ). operation_word cs o (get_or os i d)) e) in
    let f : inner_words cs (take i os) ++ (w ∷ []) ≡ inner_words cs (take (i + 1) os) = rw (take_more os i d h, inner_append cs (take i os) (get_or os i d ∷ []), k) refl in
    wrote_is a c _ _ f (wrote_then a b c (inner_words cs (take i os)) (w ∷ []) p q)

pub operations_all : (a b c : TapeWriter) (er w i : ℕ) (all os : List Operation) (o : Operation) → all ≡ os ++ (o ∷ []) → length os ≤ i → Wrote a (inner_words (table a.constants.now) (take i os)) b → w ≡ operation_word (table b.constants.now) er o → Wrote b (w ∷ []) c → Wrote a (operation_words (table a.constants.now) er all) c
operations_all a b c er w i all os o e h p f q =
    let cs : List ℕ = table a.constants.now in
    let k : w ≡ operation_word cs er o = f ∙ same_table a b _ p (λ (z : List ℕ). operation_word z er o) in
    let g : inner_words cs (take i os) ++ (w ∷ []) ≡ operation_words cs er all = rw (e, operations_end cs er os o, k, take_all i os h) refl in
    wrote_is a c _ _ g (wrote_then a b c (inner_words cs (take i os)) (w ∷ []) p q)

-- what is put and what is still to be put is the whole
pub record Left (a b : TapeWriter) (above : Option ℕ) (ks : Program) (whole : List ℕ) : Type 0 where
  pub done : List ℕ
  pub wrote : Wrote a done b
  pub is : whole ≡ done ++ code_words (table a.constants.now) above ks

pub left_start : (a : TapeWriter) (above : Option ℕ) (ks : Program) → Left a a above ks (code_words (table a.constants.now) above ks)
left_start a above ks = record { done = []; wrote = wrote_none a; is = refl }

left_line : (a b : TapeWriter) (above : Option ℕ) (k : Line) (ls ks : Program) (whole : List ℕ) → ks ≡ k ∷ ls → (l : Left a b above ks whole) → whole ≡ l.done ++ (head_if above k.group ++ (line_words (table a.constants.now) k ++ code_words (table a.constants.now) (Some k.group) ls))
left_line a b above k ls ks whole e l = l.is ∙ ap (λ (o : Program). l.done ++ code_words (table a.constants.now) above o) e

pub head_room : (a b : TapeWriter) (above : Option ℕ) (k : Line) (g : ℕ) (ls ks : Program) (whole : List ℕ) → ks ≡ k ∷ ls → g ≡ k.group → Left a b above ks whole → Room a whole → Room b (head_if above g)
head_room a b above k g ls ks whole e q l r =
    let n : length whole ≡ length l.done + (length (head_if above k.group) + (length (line_words (table a.constants.now) k) + length (code_words (table a.constants.now) (Some k.group) ls))) = ap length (left_line a b above k ls ks whole e l) ∙ simp length-append in
    rw q (omega (arith, r, n, l.wrote.count, l.wrote.size))

pub line_room : (a b c : TapeWriter) (above : Option ℕ) (k : Line) (g : ℕ) (ls ks : Program) (whole : List ℕ) → ks ≡ k ∷ ls → g ≡ k.group → Left a b above ks whole → Wrote b (head_if above g) c → Room a whole → Room c (line_words (table c.constants.now) k)
line_room a b c above k g ls ks whole e q l p r =
    let n : length whole ≡ length l.done + (length (head_if above k.group) + (length (line_words (table a.constants.now) k) + length (code_words (table a.constants.now) (Some k.group) ls))) = ap length (left_line a b above k ls ks whole e l) ∙ simp length-append in
    let h : length (head_if above g) ≡ length (head_if above k.group) = ap (λ (x : ℕ). length (head_if above x)) q in
    let m : length (line_words (table c.constants.now) k) ≡ length (line_words (table a.constants.now) k) = same_table b c _ p (λ (z : List ℕ). length (line_words z k)) ∙ same_table a b _ l.wrote (λ (z : List ℕ). length (line_words z k)) in
    omega (arith, r, n, h, m, l.wrote.count, l.wrote.size, p.count, p.size)

pub left_turn : (a b c d : TapeWriter) (above : Option ℕ) (k : Line) (g : ℕ) (ls ks : Program) (whole : List ℕ) → ks ≡ k ∷ ls → g ≡ k.group → Left a b above ks whole → Wrote b (head_if above g) c → Wrote c (line_words (table c.constants.now) k) d → Left a d (Some g) ls whole
left_turn a b c d above k g ls ks whole e q l p s =
    let cs : List ℕ = table a.constants.now in
    let t : line_words (table c.constants.now) k ≡ line_words cs k = same_table b c _ p (λ (z : List ℕ). line_words z k) ∙ same_table a b _ l.wrote (λ (z : List ℕ). line_words z k) in
    record {
      done = l.done ++ (head_if above g ++ line_words cs k);
      wrote = wrote_then a b d l.done (head_if above g ++ line_words cs k) l.wrote (wrote_then b c d (head_if above g) (line_words cs k) p (wrote_is c d _ _ t s));
      is = rw q (left_line a b above k ls ks whole e l ∙ (ap (λ (o : List ℕ). l.done ++ o) (sym (append_assoc (head_if above k.group) (line_words cs k) (code_words cs (Some k.group) ls))) ∙ sym (append_assoc l.done (head_if above k.group ++ line_words cs k) (code_words cs (Some k.group) ls))));
    }

pub left_same : (a b : TapeWriter) (above : Option ℕ) (ks ls : Program) (whole : List ℕ) → ks ≡ ls → Left a b above ks whole → Left a b above ls whole
left_same a b above ks ls whole e l = subst (λ (o : Program). Left a b above o whole) e l

pub left_none : (a b : TapeWriter) (above : Option ℕ) (ks : Program) (whole : List ℕ) → ks ≡ [] → Left a b above ks whole → Wrote a whole b
left_none a b above ks whole e l = wrote_is a b _ _ (sym (append-nil l.done) ∙ sym (l.is ∙ ap (λ (o : Program). l.done ++ code_words (table a.constants.now) above o) e)) l.wrote

-- the words of a line as it was read are the line's
pub read_is : (cs : List ℕ) (r : ReadLine) (k : Line) → r ≡ line_of k → read_words cs r ≡ line_words cs k
read_is cs r k e = ap (read_words cs) e ∙ by k.side
  where
    by : (z : Side) → read_side_words cs (target_address k.target) (side_of z) ≡ side_words cs (target_address k.target) z
    by reading = refl
    by (single x) = refl
    by (both l o r) = refl

-- the whole tape
tape_wrote : (a b c d : TapeWriter) (ks : Program) → Wrote a (constant_words 0 (table a.constants.now)) b → Wrote b (code_words (table b.constants.now) None ks) c → Wrote c (0 ∷ []) d → Wrote a (tape_of (table a.constants.now) ks) d
unfolding tape_of
tape_wrote a b c d ks p q r =
    let cs : List ℕ = table a.constants.now in
    let t : code_words (table b.constants.now) None ks ≡ code_words cs None ks = same_table a b _ p (λ (z : List ℕ). code_words z None ks) in
    wrote_then a b d (constant_words 0 cs) (code_words cs None ks ++ (0 ∷ [])) p (wrote_then b c d (code_words cs None ks) (0 ∷ []) (wrote_is b c _ _ t q) r)

stands_at : (a d : TapeWriter) (ws old : List ℕ) → a.count ≡ 0 → a.buffer.now ≡ old → Wrote a ws d → Stands old ws d.buffer.now d.count
stands_at a d ws old e f w = record { front = w.front ∙ ap (λ (k : ℕ). take k a.buffer.now ++ ws) e; back = w.back ∙ ap (drop d.count) f; count = omega (arith, e, w.count) }

pub stands : (a b c d : TapeWriter) (ks : Program) (cs old new : List ℕ) → a.count ≡ 0 → a.buffer.now ≡ old → table a.constants.now ≡ cs → Wrote a (constant_words 0 (table a.constants.now)) b → Wrote b (code_words (table b.constants.now) None ks) c → Wrote c (0 ∷ []) d → new ≡ d.buffer.now → Stands old (tape_of cs ks) new d.count
stands a b c d ks cs old new e f g p q r h = rw (h, sym g) (stands_at a d (tape_of (table a.constants.now) ks) old e f (tape_wrote a b c d ks p q r))

-- room for the parts, in turn
pub tape_room : (a : TapeWriter) (cs old : List ℕ) (ks : Program) → a.count ≡ 0 → a.buffer.now ≡ old → table a.constants.now ≡ cs → length (tape_of cs ks) ≤ length old → a.count + (length (constant_words 0 (table a.constants.now)) + (length (code_words (table a.constants.now) None ks) + 1)) ≤ length a.buffer.now
tape_room a cs old ks e f g h = rw (e, f, g) (omega (arith, h, tape_length cs ks, constants_length 0 cs))

pub lines_room : (a b : TapeWriter) (ks : Program) → a.count + (length (constant_words 0 (table a.constants.now)) + (length (code_words (table a.constants.now) None ks) + 1)) ≤ length a.buffer.now → Wrote a (constant_words 0 (table a.constants.now)) b → b.count + (length (code_words (table b.constants.now) None ks) + 1) ≤ length b.buffer.now
lines_room a b ks r p = let t : length (code_words (table b.constants.now) None ks) ≡ length (code_words (table a.constants.now) None ks) = same_table a b _ p (λ (z : List ℕ). length (code_words z None ks)) in omega (arith, r, t, p.count, p.size)
