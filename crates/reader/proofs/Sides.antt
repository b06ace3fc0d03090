-- How the reading of a line's parts unfolds at each way out of the code.
use Rattle.std.proofs.Common.{◌≡◌, ℕ, Bool, true, false, cond, eqb, List, [], ◌∷◌, ◌++◌, length, Some, None, Option, refl, sym, arith, ap, ◌∙◌, arith}
use Rattle.std.proofs.lemmas.Bool.{ne_eqb}
use Rattle.rules.specs.declared.sign.Sign.{Sign}
use Rattle.rules.specs.declared.formula.Atom.{Atom}
use Rattle.rules.specs.declared.formula.Target.{Target}
use Rattle.rules.specs.declared.operation.Source.{Source}
use Rattle.rules.specs.declared.operation.Operation.{Operation}
use Rattle.rules.specs.declared.operation.SideKind as kinds
use Rattle.rules.specs.declared.operation.SideKind.TheVariants.{Single, Pair}
use Rattle.rules.specs.declared.operation.LineParts.{LineParts}
use Rattle.rules.specs.Tree.{Operand, atom, pair, Side, reading, single, both, Line}
use Rattle.rules.specs.Reading.{got, first, byte_at, opening_at, operand_at, second_at, side_at, target_at, line_at}
use Rattle.rules.specs.Operations.{source, operations, side_operations, side_kind, line_parts}
use Rattle.reader.specs.Pairs.{added}
use Rattle.reader.proofs.Emits.{emits}
use Rattle.reader.specs.Sides.{alone}

abbrev pub NotReading : List ℕ → Type 0
NotReading xs = first xs ≡ 63 → ⊥

not_reading : (xs : List ℕ) → NotReading xs → eqb (first xs) 63 ≡ false
not_reading xs h = ne_eqb (first xs) 63 h

alone_some : (b : Bool) (x y : Atom) → Some y ≡ cond b (Some x) None → (b ≡ true) × (y ≡ x)
alone_some true x y e = (refl, cc)
alone_some false x y e = let z : ◌≡◌ {A = ℕ} 0 1 = cc in absurd (omega arith)

alone_not : (b : Bool) (x : Atom) → None ≡ cond b (Some x) None → b ≡ false
alone_not true x e = let z : ◌≡◌ {A = ℕ} 0 1 = cc in absurd (omega arith)
alone_not false x e = refl

-- no operation was held, and an atom alone adds none
pub side_single : (t : Operand) (x : Atom) (xs ys : List ℕ) (o : Source) (n w : ℕ) (p : Option Atom) (h₀ h₁ : List Operation) → NotReading xs → n ≡ 16 → operand_at n xs ≡ got t ys → o ≡ source t w → p ≡ alone o ys → p ≡ Some x → h₀ ≡ [] → h₁ ≡ h₀ ++ operations t w → (z : Side) × (side_at xs ≡ got z ys) × (Single x ≡ side_kind z) × (h₁ ≡ side_operations z)
side_single (atom y) x xs ys o n w p h₀ h₁ h d e q a l z₀ z₁ =
    let f : operand_at 16 xs ≡ got (atom y) ys = rw d at e in
    let c = alone_some (eqb (first ys) 44) y x (sym l ∙ a ∙ ap (λ o. alone o ys) q) in
    (single y, rw (not_reading xs h, f, c.0), ap Single c.1, z₁ ∙ rw z₀ refl)
side_single (pair b s r) x xs ys o n w p h₀ h₁ h d e q a l z₀ z₁ =
    let m : Some x ≡ None = sym l ∙ a ∙ ap (λ o. alone o ys) q in
    let z : ◌≡◌ {A = ℕ} 0 1 = cc in absurd (omega arith)

side_both : (t : Operand) (xs ys zs : List ℕ) (o : Source) (w : ℕ) (q : Sign × Operand) → NotReading xs → operand_at 16 xs ≡ got t ys → o ≡ source t w → None ≡ alone o ys → second_at 16 ys ≡ got q zs → side_at xs ≡ got (both t q.0 q.1) zs
side_both (atom y) xs ys zs o w q h e c l r =
    let d : eqb (first ys) 44 ≡ false = alone_not (eqb (first ys) 44) y (l ∙ ap (λ o. alone o ys) c) in
    rw (not_reading xs h, e, d, r)
side_both (pair x b y) xs ys zs o w q h e c l r = rw (not_reading xs h, e, r)

-- no operation was held, and both readers began with nothing open and nothing waiting
pub side_pair : (t : Operand) (xs ys zs : List ℕ) (o : Source) (n w m v : ℕ) (q : Sign × Operand) (p : Option Atom) (h₀ h₁ h₂ : List Operation) → NotReading xs → n ≡ 16 → w ≡ 0 → m ≡ 16 → v ≡ 0 → operand_at n xs ≡ got t ys → o ≡ source t w → p ≡ alone o ys → p ≡ None → second_at m ys ≡ got q zs → h₀ ≡ [] → h₁ ≡ h₀ ++ operations t w → h₂ ≡ h₁ ++ added o q.0 q.1 v → (z : Side) × (side_at xs ≡ got z zs) × (Pair ≡ side_kind z) × (h₂ ≡ side_operations z)
side_pair t xs ys zs o n w m v q p h₀ h₁ h₂ h n' w' m' v' e c l l' r z₀ z₁ z₂ =
    let e₁ : operand_at 16 xs ≡ got t ys = rw n' at e in
    let r₁ : second_at 16 ys ≡ got q zs = rw m' at r in
    let c₁ : o ≡ source t 0 = rw w' at c in
    let a : h₁ ≡ [] ++ operations t 0 = rw (z₀, w') at z₁ in
    let b : h₂ ≡ h₁ ++ added o q.0 q.1 0 = rw v' at z₂ in
    (both t q.0 q.1, side_both t xs ys zs o 0 q h e₁ c₁ (sym l' ∙ l) r₁, refl, emits [] h₁ h₂ t q.1 q.0 o 0 a c₁ b)

pub line_is : (xs ys zs us vs : List ℕ) (g b : ℕ) (z : Side) (d : kinds.SideKind) (u : Target) (h : List Operation) → opening_at xs ≡ got g ys → side_at ys ≡ got z zs → d ≡ side_kind z → h ≡ side_operations z → byte_at 44 zs ≡ got b us → target_at us ≡ got u vs → length vs ≡ 0 → (l : Line) × (line_at xs ≡ got l []) × ◌≡◌ {A = LineParts} (record { group = g; side = d; target = u }) (line_parts l) × (h ≡ side_operations l.side)
line_is xs ys zs us [] g b z d u h e₁ e₂ e o e₃ e₄ n = (record { group = g; side = z; target = u }, rw (e₁, e₂, e₃, e₄) refl, ap (λ k. record { group = g; side = k; target = u }) e, o)
line_is xs ys zs us (v ∷ vs) g b z d u h e₁ e₂ e o e₃ e₄ n = absurd (omega arith)
