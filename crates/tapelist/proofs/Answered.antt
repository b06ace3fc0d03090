-- What an answer of the compiler says of the text, where the buffer is as long as the longest tape: the only refusal that is the
-- buffer's and not the text's cannot come.
use Rattle.std.proofs.Common.{◌≡◌, ℕ, ◌≤◌, Bool, true, false, cond, leb, List, ◌++◌, length, take, drop, Ok, Err, sym, refl, ap, ◌∙◌, arith}
use Rattle.std.proofs.lemmas.List.{take_at}
use Rattle.std.proofs.lemmas.Bool.{le-leb}
use Rattle.rules.specs.declared.refusal.TextRefusal.{TextRefusal}
use Rattle.rules.specs.Refusals.{report, reported}
use Rattle.rules.specs.Compiled.{Outcome, tape, refuse, compiled, told, answered, buffered}
use Rattle.laws.proofs.Longest.{longest_tape}

pub listed_tape : (x : Outcome) (old new : List ℕ) (n : ℕ) → told (Ok n) ≡ answered x (length old) → new ≡ buffered x old → x ≡ tape (take n new)
listed_tape (tape ws) old new n a b = by (leb (length ws) (length old)) a b
  where
    by : (f : Bool) → told (Ok n) ≡ cond f (Ok (length ws)) (Err (report 10 0 0)) → new ≡ cond f (ws ++ drop (length ws) old) old → tape ws ≡ tape (take n new)
    by true a b = let m : n ≡ length ws = cc in ap tape (sym (ap (take n) b ∙ take_at ws (drop (length ws) old) n (sym m)))
    by false a b = let z : ◌≡◌ {A = ℕ} 0 1 = cc in absurd (omega arith)
listed_tape (refuse r) old new n a b = let z : ◌≡◌ {A = ℕ} 0 1 = cc in absurd (omega arith)

pub listed_refusal : (text old : List ℕ) (e : TextRefusal) → 491 ≤ length old → told (Err e) ≡ answered (compiled text) (length old) → compiled text ≡ refuse (reported e)
listed_refusal text old e h a = by (compiled text) refl a
  where
    by : (x : Outcome) → compiled text ≡ x → told (Err e) ≡ answered x (length old) → x ≡ refuse (reported e)
    by (tape ws) q a =
        let l : length ws ≤ length old = omega (arith, longest_tape text ws q) in
        let b : told (Err e) ≡ Ok (length ws) = a ∙ rw (le-leb (length ws) (length old) l) in
        let z : ◌≡◌ {A = ℕ} 0 1 = cc in absurd (omega arith)
    by (refuse r) q a = let m : reported e ≡ r = cc in ap refuse (sym m)

-- the vector, written to and then cut to the tape's length, holds the tape
pub shortened : (x : Outcome) (new more items : List ℕ) (n l : ℕ) → length new ≡ l → items ≡ take n (take l (new ++ more)) → x ≡ tape (take n new) → x ≡ tape items
shortened x new more items n l h e f = f ∙ ap tape (sym (e ∙ ap (take n) (take_at new more l h)))
