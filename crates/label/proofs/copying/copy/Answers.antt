use Rattle.std.proofs.Common.{◌≡◌, ℕ, ◌+◌, ◌<◌, ◌≤◌, List, [], ◌∷◌, ◌++◌, length, get_or, take, Some, None, ap, ◌∙◌, arith}
use Rattle.std.specs.List.{slice_get}
use Rattle.std.proofs.lemmas.List.{length-take-le, take_more}
use Rattle.std.proofs.lemmas.Option.{slice_get-get_or}
use Rattle.std.proofs.lemmas.Bool.Decides.{nat_tests}
use Rattle.rules.specs.Calls.{left_by}
use Rattle.rules.specs.Labels.{greatest_code, label_limit, printed}
use Rattle.label.proofs.copying.copy.Goals as goal
use Rattle.label.proofs.copying.copy.Goals.{in-Some, in_default}

-- one code more is copied: it finds room, since all of them fit on a label
copied : (cs t t' : List ℕ) (i n : ℕ) → i < length cs → length cs ≤ label_limit → ((k : ℕ) → get_or cs k 0 ≤ greatest_code) → t ≡ take i cs → Some n ≡ slice_get cs i → t' ≡ left_by (printed t n) t → t' ≡ take (i + 1) cs
copied cs t t' i n h s b e f g =
    let there = slice_get-get_or cs i 0 h in
    let is : n ≡ get_or cs i 0 = cc in
    let l = length-take-le i cs (omega arith) in
    let l' = ap length e in
    let small = b i in
    let put : left_by (printed t n) t ≡ t ++ (n ∷ []) = grind (arith, nat_tests) in
    let m = take_more cs i 0 h in
    cc

never : (cs : List ℕ) (i : ℕ) → i < length cs → None ≡ slice_get cs i → ⊥
never cs i h e =
    let there = slice_get-get_or cs i 0 h in
    let z : ◌≡◌ {A = ℕ} 0 1 = cc in
    omega arith

pub loop-index-preserved : goal.loop-index-preserved
loop-index-preserved g c =
    let from = c.args.from.now in
    elim c.match-get.branch [
      | in-Some w ↦ ap g.B.LabelLine.codes w.to-is ∙ copied _ _ _ c.loop-index.index _ (omega arith) (g.met.A.LabelLine.short from) (g.met.A.LabelLine.bytes from) c.loop-index.invariant w.in-Some.ensures w.push.ensures.after
      | in_default w ↦ absurd (never (g.A.LabelLine.codes from) c.loop-index.index (omega arith) w.in_default.ensures)
    ]
