-- The rule of groups, line by line, holds of just the lines that are groups.
use Rattle.std.proofs.Common.{◌≡◌, ℕ, Bool, true, false, not, eqb, List, [], ◌∷◌, ◌++◌, Some, None, sym, refl, ap, ◌∙◌, subst, inl, inr, arith}
use Rattle.std.specs.List.{AllByRecursion}
use Rattle.std.proofs.lemmas.Bool.{false≢true, both_ways, not-true, eqb-true, eq-eqb, ne_eqb, or_from, or_parts}
use Rattle.rules.specs.declared.formula.Target.{Target}
use Rattle.rules.specs.declared.formula.Target.TheVariants.{Variable, Pointed, Label, Place}
use Rattle.rules.specs.Tree.{Side, Line, Program}
use Rattle.rules.specs.Texts.{closes, has, awaited, allowed}
use Rattle.rules.specs.Programs.{Formula, Group, formula_lines, group_lines, letters, In, Distinct, Inner, WellFormed}

-- each line may come after those above it, the last one first, and no group is open at the end
abbrev pub Follows : List Line → Program → Type 0
Follows above [] = awaited above ≡ None
Follows above (k ∷ ks) = (allowed above k.group ≡ true) × Follows (k ∷ above) ks

abbrev Still : Formula → Type 0
Still f = closes f.target ≡ false

abbrev line_of : ℕ → Formula → Line
line_of g f = record { group = g; side = f.side; target = f.target }

abbrev last_of : ℕ → Side → Line
last_of g z = record { group = g; side = z; target = Place }

may_open : (above : List Line) (g : ℕ) → awaited above ≡ None → has above g ≡ false → allowed above g ≡ true
may_open above g e h = rw (e, h)

may_stay : (k : Line) (above : List Line) → closes k.target ≡ false → allowed (k ∷ above) k.group ≡ true
may_stay k above e = rw (e, eq-eqb k.group k.group refl)

has_not : (k : Line) (above : List Line) (x : ℕ) → has above x ≡ false → (k.group ≡ x → ⊥) → has (k ∷ above) x ≡ false
has_not k above x h n = or_from (eqb k.group x) (has above x) (ne_eqb k.group x n) h

-- From groups to the rule. A group's first line may come since its letter is new, the others since none before the last closes it.
-- After the last line no group is open, and only this group's letter is no longer new.
formulas_follow : (g : ℕ) (fs : List Formula) (z : Side) (rest : Program) (above : List Line) → allowed above g ≡ true → AllByRecursion Still fs → ((v : List Line) → awaited v ≡ None → ((x : ℕ) → has above x ≡ false → (g ≡ x → ⊥) → has v x ≡ false) → Follows v rest) → Follows above (formula_lines g fs z ++ rest)
formulas_follow g [] z rest above a i more = (a, more (last_of g z ∷ above) refl (λ x h n. has_not (last_of g z) above x h n))
formulas_follow g (f ∷ fs) z rest above a i more = (a, formulas_follow g fs z rest (line_of g f ∷ above) (may_stay (line_of g f) above i.0) i.1 (λ v e w. more v e (λ x h n. w x (has_not (line_of g f) above x h n) n)))

-- where the first line of all may come, and the other letters are new
groups_follow : (g : Group) (gs : List Group) (above : List Line) → allowed above g.letter ≡ true → ((x : ℕ) → In x (letters gs) → has above x ≡ false) → Distinct (letters (g ∷ gs)) → AllByRecursion Inner (g ∷ gs) → Follows above (group_lines (g ∷ gs))
groups_follow g [] above a f d i = formulas_follow g.letter g.formulas g.last [] above a i.0 (λ v e w. e)
groups_follow g (h ∷ gs) above a f d i =
    formulas_follow g.letter g.formulas g.last (group_lines (h ∷ gs)) above a i.0 (λ v e w.
    let fresh : (x : ℕ) → In x (letters (h ∷ gs)) → has v x ≡ false = (λ x n. w x (f x n) (λ s. d.0 (subst (λ (y : ℕ). In y (letters (h ∷ gs))) (sym s) n))) in
    groups_follow h gs v (may_open v h.letter e (fresh h.letter (inl refl))) (λ x n. fresh x (inr n)) d.1 i.1)

pub groups_ruled : (ks : Program) → WellFormed ks → Follows [] ks
groups_ruled ks w = subst (Follows []) (sym w.lines) (start w.groups w.more w.first_a w.distinct w.inner)
  where
    start : (gs : List Group) (more : List ℕ) → letters gs ≡ 65 ∷ more → Distinct (letters gs) → AllByRecursion Inner gs → Follows [] (group_lines gs)
    start [] more e d i = let z : ◌≡◌ {A = ℕ} 0 1 = cc in absurd (omega arith)
    start (g ∷ gs) more e d i = let q : g.letter ≡ 65 = cc in groups_follow g gs [] (eq-eqb g.letter 65 q) (λ x n. refl) d i

-- From the rule to groups: k and the lines after it are the rest of k's group and then groups whose letters no line so far has.
pub record Begun (above : List Line) (k : Line) (ks : Program) : Type 0 where
  pub formulas : List Formula
  pub last : Side
  pub groups : List Group
  pub lines : k ∷ ks ≡ formula_lines k.group formulas last ++ group_lines groups
  pub inside : AllByRecursion Still formulas
  pub distinct : Distinct (letters groups)
  pub inner : AllByRecursion Inner groups
  pub fresh : (x : ℕ) → In x (letters groups) → has (k ∷ above) x ≡ false

-- the group that k begins
abbrev pub group_of : (above : List Line) (k : Line) (ks : Program) → Begun above k ks → Group
group_of above k ks b = record { letter = k.group; formulas = b.formulas; last = b.last }

closing : (t : Target) → closes t ≡ true → t ≡ Place
closing (Variable v) e = absurd (false≢true e)
closing (Pointed v) e = absurd (false≢true e)
closing Label e = absurd (false≢true e)
closing Place e = refl

as_last : (k : Line) → closes k.target ≡ true → k ≡ last_of k.group k.side
as_last k e = ap (λ (t : Target). record { group = k.group; side = k.side; target = t }) (closing k.target e)

-- a group's own letter is not among those that come later
pub apart : (above : List Line) (k : Line) (ks : Program) (b : Begun above k ks) → In k.group (letters b.groups) → ⊥
apart above k ks b n = both_ways (eqb k.group k.group) (or_parts (eqb k.group k.group) (has above k.group) (b.fresh k.group n)).0 (eq-eqb k.group k.group refl)

ends : (k : Line) (above : List Line) (c : Bool) → closes k.target ≡ c → awaited (k ∷ above) ≡ None → Begun above k []
ends k above true c e = record { formulas = []; last = k.side; groups = []; lines = ap (λ (o : Line). o ∷ []) (as_last k c); inside = tt; distinct = tt; inner = tt; fresh = λ x n. absurd n }
ends k above false c e = let h : Some k.group ≡ None = rw c at e in let z : ◌≡◌ {A = ℕ} 0 1 = cc in absurd (omega arith)

-- after a line that closes its group a new one begins
opens : (k l : Line) (ks : Program) (above : List Line) → closes k.target ≡ true → allowed (k ∷ above) l.group ≡ true → Begun (k ∷ above) l ks → Begun above k (l ∷ ks)
opens k l ks above c a b =
    let q : not (has (k ∷ above) l.group) ≡ true = rw c at a in
    record { formulas = []; last = k.side; groups = group_of (k ∷ above) l ks b ∷ b.groups; lines = ap (λ (o : Program). k ∷ o) b.lines ∙ ap (λ (o : Line). o ∷ (formula_lines l.group b.formulas b.last ++ group_lines b.groups)) (as_last k c); inside = tt; distinct = (apart (k ∷ above) l ks b, b.distinct); inner = (b.inside, b.inner); fresh = λ x n. elim n [ inl e ↦ subst (λ (y : ℕ). has (k ∷ above) y ≡ false) (sym e) (not-true (has (k ∷ above) l.group) q) | inr m ↦ (or_parts (eqb l.group x) (has (k ∷ above) x) (b.fresh x m)).1 ] }

-- after another line its group goes on
stays : (k l : Line) (ks : Program) (above : List Line) → closes k.target ≡ false → allowed (k ∷ above) l.group ≡ true → Begun (k ∷ above) l ks → Begun above k (l ∷ ks)
stays k l ks above c a b =
    let t : eqb l.group k.group ≡ true = rw c at a in
    let q : l.group ≡ k.group = eqb-true l.group k.group t in
    record { formulas = record { side = k.side; target = k.target } ∷ b.formulas; last = b.last; groups = b.groups; lines = ap (λ (o : Program). k ∷ o) (b.lines ∙ ap (λ (g : ℕ). formula_lines g b.formulas b.last ++ group_lines b.groups) q); inside = (c, b.inside); distinct = b.distinct; inner = b.inner; fresh = λ x n. (or_parts (eqb l.group x) (has (k ∷ above) x) (b.fresh x n)).1 }

-- By the lines from the last up: a line that closes its group stands before a new group, any other before the rest of its own.
-- A letter that comes later is new there, and so it is new above.
pub begun : (k : Line) (ks : Program) (above : List Line) → Follows (k ∷ above) ks → Begun above k ks
begun k [] above f = ends k above (closes k.target) refl f
begun k (l ∷ ks) above f = by (closes k.target) refl (begun l ks (k ∷ above) f.1)
  where
    by : (c : Bool) → closes k.target ≡ c → Begun (k ∷ above) l ks → Begun above k (l ∷ ks)
    by true c b = opens k l ks above c f.0 b
    by false c b = stays k l ks above c f.0 b

-- the groups of a program that the rule admits
pub record InGroups (ks : Program) : Type 0 where
  pub groups : List Group
  pub lines : ks ≡ group_lines groups
  pub more : List ℕ
  pub first_a : letters groups ≡ 65 ∷ more
  pub distinct : Distinct (letters groups)
  pub inner : AllByRecursion Inner groups

pub ruled_groups : (ks : Program) → Follows [] ks → InGroups ks
ruled_groups [] f = let z : ◌≡◌ {A = ℕ} 0 1 = cc in absurd (omega arith)
ruled_groups (k ∷ ks) f =
    let b = begun k ks [] f.1 in
    let q : k.group ≡ 65 = eqb-true k.group 65 f.0 in
    record { groups = group_of [] k ks b ∷ b.groups; lines = b.lines; more = letters b.groups; first_a = ap (λ (g : ℕ). g ∷ letters b.groups) q; distinct = (apart [] k ks b, b.distinct); inner = (b.inside, b.inner) }
