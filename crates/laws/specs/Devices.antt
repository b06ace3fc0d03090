-- Worked examples: what loading, storing, adding, dropping and printing come to.
use Rattle.std.specs.Prelude.{◌≡◌, ℕ, List, [], ◌∷◌, ◌++◌, replicate, Some, None, Ok, Err}
use Rattle.rules.specs.Stores.{loaded, stored}
use Rattle.rules.specs.Queues.{first_waiting, dropped, added}
use Rattle.rules.specs.Labels.{code_at, printed}

pub record Devices : Type 0 where
  -- a store: the cell, and no other, is altered
  pub reads : loaded (7 ∷ (8 ∷ [])) 1 ≡ Ok 8
  pub writes : stored (7 ∷ (8 ∷ (9 ∷ []))) 1 99999999999999 ≡ Ok (7 ∷ (99999999999999 ∷ (9 ∷ [])))
  pub beyond : (cs : List ℕ) → loaded cs 1000 ≡ Err 15
  pub nowhere : (cs : List ℕ) → stored cs 1000 0 ≡ Err 15
  pub broad : (cs : List ℕ) → stored cs 0 100000000000000 ≡ Err 15
  -- a queue: first in, first out; a number too large comes before a full queue
  pub front : first_waiting (5 ∷ (6 ∷ [])) ≡ Some 5
  pub none : first_waiting [] ≡ None
  pub next : dropped (5 ∷ (6 ∷ [])) ≡ Ok (6 ∷ [])
  pub empty : dropped [] ≡ Err 27
  pub sixteenth : added (replicate 15 1) 2 ≡ Ok (replicate 15 1 ++ (2 ∷ []))
  pub seventeenth : added (replicate 16 1) 2 ≡ Err 26
  pub both : added (replicate 16 1) 100000000000000 ≡ Err 15
  -- a label line: a full line comes before a code too large
  pub last : printed (replicate 47 65) 255 ≡ Ok (replicate 47 65 ++ (255 ∷ []))
  pub full : printed (replicate 48 65) 66 ≡ Err 35
  pub wide : printed [] 256 ≡ Err 36
  pub order : printed (replicate 48 65) 256 ≡ Err 35
  pub placed : code_at (65 ∷ (66 ∷ [])) 2 ≡ Ok 66
  pub zeroth : code_at (65 ∷ (66 ∷ [])) 0 ≡ Err 18
  pub third : code_at (65 ∷ (66 ∷ [])) 3 ≡ Err 18
