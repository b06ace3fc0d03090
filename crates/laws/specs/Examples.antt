-- Worked examples: texts and what they compile to.
use Rattle.std.specs.Prelude.{◌≡◌, ℕ, List, [], ◌∷◌, ◌++◌, codes}
use Rattle.rules.specs.Refusals.{report}
use Rattle.rules.specs.Compiled.{compiled, tape, refuse}

-- a text of lines, each ended by byte 10
abbrev pub typed : List ℕ → List ℕ → List ℕ
typed l more = l ++ (10 ∷ more)

pub record Examples : Type 0 where
  -- net weight and price: gross is read, tare in t, price in p
  pub weighing : compiled (typed (codes "A,?,n") (typed (codes "A,(n-t)*p,c") (typed (codes "A,0,#") []))) ≡ tape (1100000054 ∷ (0 ∷ (509990028 ∷ (500010015 ∷ (150300210500 ∷ (5000200170004 ∷ (500540000 ∷ (0 ∷ []))))))))
  pub chained : compiled (typed (codes "A,a+b+c,d") []) ≡ refuse (report 3 1 6)
  pub bracketed : compiled (typed (codes "A,(a),b") []) ≡ refuse (report 3 1 5)
  pub padded : compiled (typed (codes "A,01,b") []) ≡ refuse (report 4 1 3)
  pub unclosed : compiled (typed (codes "A,0,b") []) ≡ refuse (report 6 2 0)
  pub empty : compiled [] ≡ refuse (report 6 1 0)
  pub endless : compiled (codes "A,0,#") ≡ refuse (report 2 1 6)
  pub astray : compiled (typed (codes "A,0,a") (typed (codes "A,(1+B)*C,#") [])) ≡ refuse (report 7 2 6)
  -- the right-hand result waits beside the left one, in 501, and not over it
  pub beside : compiled (typed (codes "A,(a+b)*(c+d),#") []) ≡ tape (509990028 ∷ (20100030500 ∷ (40100050501 ∷ (5000205010000 ∷ (0 ∷ [])))))
  -- constants are numbered in the order of the text, 3, 1, 2, though 1+2 is worked first
  pub numbered : compiled (typed (codes "A,3*(1+2),#") []) ≡ tape (1100000054 ∷ (3 ∷ (1100000055 ∷ (1 ∷ (1100000056 ∷ (2 ∷ (509990028 ∷ (550100560500 ∷ (540205000000 ∷ (0 ∷ []))))))))))
  -- 81 bytes before the line end
  pub long : compiled (typed (codes "A,aaaaaaaaaaaaaaaaaaaaaaaaaaaaaaaaaaaaaaaaaaaaaaaaaaaaaaaaaaaaaaaaaaaaaaaaaaaaaaa") []) ≡ refuse (report 2 1 81)
