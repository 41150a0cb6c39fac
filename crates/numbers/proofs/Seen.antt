-- A pass over a list that reads every member before it answers. It keeps a number, and over any test that number passes a limit exactly where a member that
-- passes the test was seen: a count of such members passes 0, the sizes' bits joined pass 2^k − 1 where one size does.
-- Assumes nothing.
use Prim.Native.Nat.{ℕ, ◌+◌, ◌-◌, ◌^◌, ◌≤◌, ◌<◌, zero-le}
use mathlib.Core.Path.{◌≡◌, refl, sym, ap, ◌∙◌}
use mathlib.Core.Bool.{Bool, true, false, ◌||◌}
use mathlib.Core.List.{List}
use native.Mathlib.Omega.{arith}
use borrow.Author.Tests.{ltb-true, ltb-false, lt-ltb, le-ltb}
use lib.Bits.{bit_or, or_add_and, and_le_l, and_le_r, or_lt}
use lib.Dec.{ltb}
use lib.IntN.{ℤ, pos, neg_ℤ, nat_abs}
use lib.ListN.{length, get_or, drop, drop_of_length-le}
use lib.Pow.{pow_pos}
use lib.Signed.{mag}
use mir.Syntax.{w64}
use mir.Val.{to_z, of_z}
use Rattle.numbers.specs.Lists.{any_of}
use Rattle.numbers.specs.Ranges.{outside_z}
use Rattle.numbers.proofs.Index.{drop-next}
use Rattle.numbers.proofs.Read.{read}
use Rattle.numbers.proofs.Size.{outside_size}
use Rattle.numbers.proofs.Tests.{or_none, or_assoc}

or_true : (a : Bool) → a || true ≡ true
or_true true = refl
or_true false = refl

-- n is the number kept before place i, p the limit
pub record Seen {A : Type 0} (t : A → Bool) (p : ℕ) (s : List A) (i n : ℕ) : Type 0 where
  pub is : ltb p n || any_of t (drop i s) ≡ any_of t s

pub seen_none : {A : Type 0} (t : A → Bool) (p : ℕ) (s : List A) → Seen t p s 0 0
seen_none t p s = record { is = ap (λ b. b || any_of t s) (le-ltb p 0 zero-le) }

module _ {A : Type 0} {t : A → Bool} {p : ℕ} {s : List A} {i n : ℕ} (S : Seen t p s i n) where
  seen_more : (d : A) (m : ℕ) → i < length s → ltb p m ≡ ltb p n || t (get_or s i d) → Seen t p s (i + 1) m
  seen_more d m h q = record {
    is = ap (λ b. b || any_of t (drop (i + 1) s)) q ∙ or_assoc (ltb p n) (t (get_or s i d)) (any_of t (drop (i + 1) s)) ∙ ap (λ r. ltb p n || any_of t r) (sym (drop-next s i d h)) ∙ S.is;
  }

  pub seen_all : length s ≤ i → ltb p n ≡ any_of t s
  seen_all h = sym (or_none (ltb p n)) ∙ ap (λ r. ltb p n || any_of t r) (sym (drop_of_length-le s h)) ∙ S.is

-- ---- a count: one more where the member passes, the same where it does not
module _ {A : Type 0} {t : A → Bool} {s : List A} {i n m : ℕ} (S : Seen t 0 s i n) (d : A) (h : i < length s) where
  pub seen_hit : m ≡ n + 1 → t (get_or s i d) ≡ true → Seen t 0 s (i + 1) m
  seen_hit q e = seen_more S d m h (lt-ltb 0 m (omega (arith, q)) ∙ sym (ap (λ b. ltb 0 n || b) e ∙ or_true (ltb 0 n)))

  pub seen_miss : m ≡ n → t (get_or s i d) ≡ false → Seen t 0 s (i + 1) m
  seen_miss q e = seen_more S d m h (ap (ltb 0) q ∙ sym (ap (λ b. ltb 0 n || b) e ∙ or_none (ltb 0 n)))

-- ---- bits joined: below 2^k exactly where both are
joined_passes : (k a b : ℕ) → ltb (2 ^ k - 1) (bit_or a b) ≡ ltb (2 ^ k - 1) a || ltb (2 ^ k - 1) b
joined_passes k a b = go (ltb (2 ^ k - 1) a) (ltb (2 ^ k - 1) b) refl refl
  where
    left : a ≤ bit_or a b
    left = omega (arith, or_add_and a b, and_le_r a b)

    right : b ≤ bit_or a b
    right = omega (arith, or_add_and a b, and_le_l a b)

    go : (s t : Bool) → ltb (2 ^ k - 1) a ≡ s → ltb (2 ^ k - 1) b ≡ t → ltb (2 ^ k - 1) (bit_or a b) ≡ s || t
    go true t f g = lt-ltb (2 ^ k - 1) (bit_or a b) (omega (arith, ltb-true (2 ^ k - 1) a f, left))
    go false true f g = lt-ltb (2 ^ k - 1) (bit_or a b) (omega (arith, ltb-true (2 ^ k - 1) b g, right))
    go false false f g = le-ltb (2 ^ k - 1) (bit_or a b) (below (or_lt k a b (within (ltb-false (2 ^ k - 1) a f)) (within (ltb-false (2 ^ k - 1) b g))))
      where
        within : {x : ℕ} → x ≤ 2 ^ k - 1 → x < 2 ^ k
        within h = omega (arith, pow_pos k)

        below : {x : ℕ} → x < 2 ^ k → x ≤ 2 ^ k - 1
        below h = omega arith

-- a number joined to those before, which is 2^k or more exactly where the member passes
pub seen_joined : {A : Type 0} {t : A → Bool} (k : ℕ) {s : List A} {i n : ℕ} (m : ℕ) (d : A) → Seen t (2 ^ k - 1) s i n → i < length s → ltb (2 ^ k - 1) m
    ≡ t (get_or s i d) → Seen t (2 ^ k - 1) s (i + 1) (bit_or n m)
seen_joined k {s} {i} {n} m d S h e = seen_more S d (bit_or n m) h (joined_passes k n m ∙ ap (λ b. ltb (2 ^ k - 1) n || b) e)

-- the size of a number that was read, joined to those before: a number outside −(2^k − 1)..2^k − 1 was seen
pub seen_size : (k : ℕ) {s : List ℤ} {i n m : ℕ} → let t = outside_z (neg_ℤ (pos (2 ^ k - 1))) (pos (2 ^ k - 1)) in let z = get_or s i (pos 0) in
    Seen t (2 ^ k - 1) s i n → i < length s → mag z < 2 ^ 63 → m ≡ nat_abs (to_z w64 (of_z w64 z)) → Seen t (2 ^ k - 1) s (i + 1) (bit_or n m)
seen_size k {s} {i} {n} {m} S h f e = seen_joined k m (pos 0) S h (ap (ltb (2 ^ k - 1)) (e ∙ ap nat_abs back) ∙ sym (outside_size (2 ^ k - 1) (get_or s i (pos 0))))
  where
    back : to_z w64 (of_z w64 (get_or s i (pos 0))) ≡ get_or s i (pos 0)
    back = read f refl
