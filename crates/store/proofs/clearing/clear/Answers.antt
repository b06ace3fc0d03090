use Rattle.std.proofs.Common.{◌≡◌, ℕ, ◌+◌, ◌<◌, ◌≤◌, List, ◌++◌, length, drop, set, replicate, ◌∙◌, arith, rules}
use Rattle.std.proofs.lemmas.List.{drop_all, append-nil}
use Rattle.std.proofs.lemmas.List.Edits.{fill_more}
use Rattle.rules.specs.Stores.{cell_count, stored, zeros}
use Rattle.rules.specs.Calls.{left_by}
use Rattle.store.proofs.clearing.clear.Goals as goal

-- the address is a cell's and 0 is small enough
put : (cs : List ℕ) (a : ℕ) → a < cell_count → left_by (stored cs a 0) cs ≡ set cs a 0
put cs a h = search rules

-- one more cell is cleared
step : (old cur new : List ℕ) (i : ℕ) → length old ≡ cell_count → i < cell_count → cur ≡ replicate i 0 ++ drop i old → new ≡ set cur i 0 → new ≡ replicate (i + 1) 0 ++ drop (i + 1) old
step old cur new i l h e f =
    let h' : i < length old = omega arith in
    let m = fill_more i 0 old h' in
    cc

-- all are; the count is a variable, since a thousand zeros written out compute
end : (old cur : List ℕ) (i n : ℕ) → length old ≡ n → n ≤ i → i ≤ n → cur ≡ replicate i 0 ++ drop i old → cur ≡ replicate n 0
end old cur i n l h k e =
    let same : i ≡ n = omega arith in
    let h' : length old ≤ i = omega arith in
    let d = drop_all i old h' in
    let a = append-nil {A = ℕ} (replicate i 0) in
    cc

pub loop-address-preserved : goal.loop-address-preserved
loop-address-preserved g c =
    step _ _ _ c.loop-address.address (g.met.S.WordStore.sized c.args.store.now) c.loop-address-test.true c.loop-address.invariant (c.store.ensures.after ∙ put _ _ c.loop-address-test.true)

pub returns : goal.returns
unfolding zeros
returns g c =
    end _ _ c.loop-address.address cell_count (g.met.S.WordStore.sized c.args.store.now) c.loop-address-test.false c.loop-address.auto.address-end c.loop-address.invariant
