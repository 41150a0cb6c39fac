-- A part of a list that is cut to what is there is the part that was asked for.
-- Assumes nothing.
use Prim.Native.Nat.{ℕ, ◌+◌, ◌-◌, ◌≤◌, min}
use mathlib.Core.Path.{◌≡◌, refl, sym, ap, ◌∙◌}
use mathlib.Core.Bool.{Bool, true, false}
use mathlib.Core.List.{List}
use native.Mathlib.Omega.{arith}
use native.Mathlib.Nat.{le_of_lt}
use borrow.Author.Tests.{leb-true, leb-false}
use lib.Dec.{leb}
use lib.ListN.{length, take, drop, length-drop, drop_of_length-le}
use lib.Seq.{take_all, take-length}

-- as many as there are, or as many as were asked
take_min : {A : Type 0} (n : ℕ) (l : List A) → take (min n (length l)) l ≡ take n l
take_min n l = go (leb n (length l)) refl
  where
    few : n ≤ length l → take (min n (length l)) l ≡ take n l
    few h = let e : min n (length l) ≡ n = omega arith in rw e refl

    many : length l ≤ n → take (min n (length l)) l ≡ take n l
    many h = let e : min n (length l) ≡ length l = omega arith in rw (e, take-length l, take_all n l h) refl

    go : (t : Bool) → leb n (length l) ≡ t → take (min n (length l)) l ≡ take n l
    go true e = few (leb-true n (length l) e)
    go false e = many (le_of_lt (leb-false n (length l) e))

pub cells_lent : {A : Type 0} (l : List A) (from n : ℕ) {a k : ℕ} → a ≡ min from (length l) → k ≡ min n (length l - a)
    → take (a + k - a) (drop a l) ≡ take n (drop from l)
cells_lent l from n {a} {k} p q = go (leb from (length l)) refl
  where
    all : a + k - a ≡ min n (length (drop a l))
    all = rw (length-drop a l) (omega arith)

    same : drop a l ≡ drop from l → take (a + k - a) (drop a l) ≡ take n (drop from l)
    same e = ap (λ m. take m (drop a l)) all ∙ take_min n (drop a l) ∙ ap (take n) e

    inside : from ≤ length l → take (a + k - a) (drop a l) ≡ take n (drop from l)
    inside h = let e : a ≡ from = omega arith in same (ap (λ m. drop m l) e)

    past : length l ≤ from → take (a + k - a) (drop a l) ≡ take n (drop from l)
    past h = let e : length l ≤ a = omega arith in same (drop_of_length-le l e ∙ sym (drop_of_length-le l h))

    go : (t : Bool) → leb from (length l) ≡ t → take (a + k - a) (drop a l) ≡ take n (drop from l)
    go true e = inside (leb-true from (length l) e)
    go false e = past (le_of_lt (leb-false from (length l) e))
