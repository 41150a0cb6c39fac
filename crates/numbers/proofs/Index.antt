-- A member at an index, whatever stands for one past the end, what is left from an index on, and the index of a member; two lists taken term by term, and a list read from its end, at an index.
-- Assumes nothing.
use mathlib.Core.Path.{◌≡◌, refl, sym, ap, subst, ◌∙◌}
use mathlib.Core.Logic.{◌⊎◌, inl, inr}
use mathlib.Core.List.Memᴰ
use mathlib.Core.List.{List, [], ◌∷◌, ◌++◌, reverse, reverse-cons, zip_with, Memᴰ}
use Prim.Native.Nat.{ℕ, zero, suc, ◌+◌, ◌-◌, ◌<◌, min, zero-le, suc-le-suc}
use native.Mathlib.Nat.{not-suc-le-zero, le_of_suc-le-suc, eq-or-lt_of_le}
use native.Mathlib.Numerals.{add-one}
use native.Mathlib.Omega.{arith}
use lib.ListN.{length, get_or, drop, length-reverse, get_or-append}
use lib.Seq.{get_or_at, drop-cons}

pub get_d_default : {A : Type 0} (l : List A) (k : ℕ) (d e : A) → k < length l → get_or l k d ≡ get_or l k e
get_d_default [] k d e h = absurd (not-suc-le-zero h)
get_d_default (x ∷ xs) zero d e h = refl
get_d_default (x ∷ xs) (suc k) d e h = get_d_default xs k d e (le_of_suc-le-suc h)

-- what is left from place i on is the member there and what is left after it
pub drop-next : {A : Type 0} (l : List A) (i : ℕ) (d : A) → i < length l → drop i l ≡ get_or l i d ∷ drop (i + 1) l
drop-next l i d h = drop-cons l i d h ∙ ap (λ j. get_or l i d ∷ drop j l) (sym (add-one i))

pub get_d_mem : {A : Type 0} (l : List A) (k : ℕ) (d : A) → k < length l → Memᴰ (get_or l k d) l
get_d_mem [] k d h = absurd (not-suc-le-zero h)
get_d_mem (x ∷ xs) zero d h = Memᴰ.head refl
get_d_mem (x ∷ xs) (suc k) d h = Memᴰ.tail (get_d_mem xs k d (le_of_suc-le-suc h))

pub mem_get_d : {A : Type 0} (y : A) (l : List A) (d : A) → Memᴰ y l → (k : ℕ) × (k < length l) × (y ≡ get_or l k d)
mem_get_d y [] d m = absurd (Memᴰ.not-nil m)
mem_get_d y (x ∷ xs) d m = go (λ r. mem_get_d y xs d r) (Memᴰ.cases_cons m)
  where
    go : (Memᴰ y xs → (k : ℕ) × (k < length xs) × (y ≡ get_or xs k d)) → (y ≡ x) ⊎ Memᴰ y xs → (k : ℕ) × (k < suc (length xs)) × (y ≡ get_or (x ∷ xs) k d)
    go f (inl e) = (zero, suc-le-suc zero-le, e)
    go f (inr r) = let i = f r in (suc i.0, suc-le-suc i.1, i.2)

pub length_zip_with : {A B C : Type 0} (f : A → B → C) (xs : List A) (ys : List B) → length (zip_with f xs ys) ≡ min (length xs) (length ys)
unfolding zip_with
length_zip_with f [] ys = omega arith
length_zip_with f (x ∷ xs) [] = omega arith
length_zip_with f (x ∷ xs) (y ∷ ys) = let e = length_zip_with f xs ys in omega arith

pub get_d_zip_with : {A B C : Type 0} (f : A → B → C) (xs : List A) (ys : List B) (k : ℕ) (a : A) (b : B) (c : C) → k < length xs → k < length ys
    → get_or (zip_with f xs ys) k c ≡ f (get_or xs k a) (get_or ys k b)
unfolding zip_with
get_d_zip_with f [] ys k a b c h l = absurd (not-suc-le-zero h)
get_d_zip_with f (x ∷ xs) [] k a b c h l = absurd (not-suc-le-zero l)
get_d_zip_with f (x ∷ xs) (y ∷ ys) zero a b c h l = refl
get_d_zip_with f (x ∷ xs) (y ∷ ys) (suc k) a b c h l = get_d_zip_with f xs ys k a b c (le_of_suc-le-suc h) (le_of_suc-le-suc l)

pub get_d_reverse : {A : Type 0} (l : List A) (k : ℕ) (d : A) → k < length l → get_or (reverse l) k d ≡ get_or l (length l - 1 - k) d
get_d_reverse [] k d h = absurd (not-suc-le-zero h)
get_d_reverse (x ∷ xs) k d h =
    ap (λ (s : List _). get_or s k d) (reverse-cons x xs)
    ∙ go (λ b. get_d_reverse xs k d b) (eq-or-lt_of_le (le_of_suc-le-suc h))
  where
    go : (k < length xs → get_or (reverse xs) k d ≡ get_or xs (length xs - 1 - k) d) → (k ≡ length xs) ⊎ (k < length xs)
        → get_or (reverse xs ++ x ∷ []) k d ≡ get_or (x ∷ xs) (suc (length xs) - 1 - k) d
    go ih (inl e) =
        let z : suc (length xs) - 1 - k ≡ 0 = omega arith in
        get_or_at (reverse xs) x [] d k (length-reverse xs ∙ sym e) ∙ ap (λ (j : ℕ). get_or (x ∷ xs) j d) (sym z)
    go ih (inr b) =
        let z : suc (length xs) - 1 - k ≡ suc (length xs - 1 - k) = omega arith in
        get_or-append (reverse xs) (x ∷ []) d k (subst (λ (n : ℕ). k < n) (sym (length-reverse xs)) b) ∙ ih b ∙ ap (λ (j : ℕ). get_or (x ∷ xs) j d) (sym z)
