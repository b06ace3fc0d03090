-- What holds of each number of a list, and of the 0 that a list counts as past its end.
use Rattle.std.proofs.Common.{◌≡◌, ℕ, List, [], ◌∷◌, ◌++◌, length, get_or, take, drop, set, replicate, sym, refl, ap, ◌∙◌, subst, ⊎_elim, arith}
use Rattle.std.proofs.lemmas.List.{get_or-set_same, get_or-set_other, set_past, get_or-replicate, get_or_past, get_or-take, get_or-drop, get_or_append_left, get_or-append_right, length-replicate, length-take}
use Rattle.std.proofs.lemmas.Bool.{cases_lt, cases_eq}

pub each_set : (P : ℕ → Type 0) (l : List ℕ) (a n : ℕ) → P n → ((i : ℕ) → P (get_or l i 0)) → (i : ℕ) → P (get_or (set l a n) i 0)
each_set P l a n h b i =
    ⊎_elim
    (λ same. ⊎_elim
    (λ w. subst P (sym (rw same (get_or-set_same l a n 0 w))) h)
    (λ w. subst (λ k. P (get_or k i 0)) (sym (set_past l a n w)) (b i))
    (cases_lt a (length l)))
    (λ ne. subst P (sym (get_or-set_other l a i n 0 ne)) (b i))
    (cases_eq i a)

pub each_take : (P : ℕ → Type 0) (l : List ℕ) (k : ℕ) → P 0 → ((i : ℕ) → P (get_or l i 0)) → (i : ℕ) → P (get_or (take k l) i 0)
each_take P l k z b i =
    let n = length-take k l in
    ⊎_elim (λ h. subst P (sym (get_or-take k l i 0 h)) (b i)) (λ h. subst P (sym (get_or_past (take k l) i 0 (omega arith))) z) (cases_lt i k)

pub each_drop : (P : ℕ → Type 0) (l : List ℕ) (k : ℕ) → ((i : ℕ) → P (get_or l i 0)) → (i : ℕ) → P (get_or (drop k l) i 0)
each_drop P l k b i = subst P (sym (get_or-drop k l i 0)) (b _)

pub each_append : (P : ℕ → Type 0) (xs ys : List ℕ) → ((i : ℕ) → P (get_or xs i 0)) → ((i : ℕ) → P (get_or ys i 0)) → (i : ℕ) → P (get_or (xs ++ ys) i 0)
each_append P xs ys b c i =
    ⊎_elim (λ h. subst P (sym (get_or_append_left xs ys 0 i h)) (b i)) (λ h. subst P (sym (get_or-append_right xs ys (length xs) i 0 refl h)) (c _)) (cases_lt i (length xs))

each_one : (P : ℕ → Type 0) (n : ℕ) → P 0 → P n → (i : ℕ) → P (get_or (n ∷ []) i 0)
each_one P n z h i =
    ⊎_elim (λ e. subst (λ k. P (get_or (n ∷ []) k 0)) (sym e) h) (λ ne. subst P (sym (get_or_past (n ∷ []) i 0 (omega arith))) z) (cases_eq i 0)

pub each_push : (P : ℕ → Type 0) (l : List ℕ) (n : ℕ) → P 0 → P n → ((i : ℕ) → P (get_or l i 0)) → (i : ℕ) → P (get_or (l ++ (n ∷ [])) i 0)
each_push P l n z h b = each_append P l (n ∷ []) b (each_one P n z h)

pub zero_at : (k i : ℕ) → ◌≡◌ {A = ℕ} (get_or (replicate k 0) i 0) 0
zero_at k i = grind (arith, get_or-replicate {A = ℕ} k i 0 0, get_or_past {X = ℕ} (replicate k 0) i 0, length-replicate {A = ℕ} k 0)

-- a row of zeros, its length a variable: written out, a thousand zeros compute
pub zeroed : (l : List ℕ) (k : ℕ) → l ≡ replicate k 0 → (length l ≡ k) × ((i : ℕ) → ◌≡◌ {A = ℕ} (get_or l i 0) 0)
zeroed l k e = (ap length e ∙ length-replicate {A = ℕ} k 0, λ i. ap (λ x. get_or x i 0) e ∙ zero_at k i)
