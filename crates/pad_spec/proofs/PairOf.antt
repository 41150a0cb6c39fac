-- Three pairs and a count: the pairs that count, and the pair of an axis.
-- Assumes nothing.
use mathlib.Core.Path.{◌≡◌, refl, sym, ap, ◌∙◌}
use mathlib.Core.Bool.{Bool, true, false, ◌||◌, not, cond, true≢false}
use mathlib.Core.Logic.{◌⊎◌, inl, inr}
use mathlib.Core.List.{List}
use Prim.Native.Nat.{ℕ, ◌+◌, ◌*◌, ◌≤◌, ◌<◌}
use native.Mathlib.Omega.{arith}
use borrow.Author.Tests.{eq-eqb, ne_eqb, eqb-true, eqb-false, ltb-true, ltb-false}
use lib.Dec.{ltb, eqb}
use lib.ListN.{length, get_or, take, get_or-eq_default}
use lib.Seq.{get_or-take, length-take-le}
use Rattle.numbers.specs.Lists.{tabulate, any_of}
use Rattle.numbers.proofs.Any.{any_none, every_at}
use Rattle.numbers.proofs.Tests.{or_false}
use Rattle.numbers.proofs.Tabulate.{length-tabulate, get_d_tabulate}
use Rattle.array_spec.specs.Conditions.{bad_shape}
use Rattle.array_spec.specs.Grid.{length_of}
use Rattle.array_spec.proofs.Shapes.{shape-accepted, count_three}
use Rattle.pad_spec.specs.Conditions.{bad_count, over_pad, padded_count}
use Rattle.pad_spec.specs.Pads.{pair_of, lefts_of, rights_of, padded_shape}
use Rattle.pad_spec.specs.declared.pairs.Pair.{Pair}

-- the pair of an axis: the only one, or its own
pub pair_only : (pads : List Pair) (count a : ℕ) → count ≡ 1 → get_or pads 0 (record { left = 0; right = 0 }) ≡ pair_of pads count a
pair_only pads count a e = sym (ap (λ t. get_or pads (cond t 0 a) (record { left = 0; right = 0 })) (eq-eqb count 1 e))

pub pair_own : (pads : List Pair) (count a k : ℕ) → (count ≡ 1 → ⊥) → a ≡ k → get_or pads k (record { left = 0; right = 0 }) ≡ pair_of pads count a
pair_own pads count a k h e =
    sym (ap (λ t. get_or pads (cond t 0 a) (record { left = 0; right = 0 })) (ne_eqb count 1 h) ∙ ap (λ (j : ℕ). get_or pads j (record { left = 0; right = 0 })) e)

-- ---- the numbers of the axes are 0, 1, ..
pub axis-at : (n a : ℕ) → a < n → get_or (tabulate (λ k. k) 0 n) a 0 ≡ a
axis-at n a h = get_d_tabulate (λ k. k) n a 0 h

-- ---- a pair that serves an axis is among those that count
module _ (ns : List ℕ) (pads : List Pair) (count : ℕ) (three : length pads ≡ 3) (few : length ns ≤ 3) (c : bad_count ns count ≡ false) (o : any_of over_pad (take count pads) ≡ false) where
  counted : (count ≡ 1) ⊎ (count ≡ length ns)
  counted = go (eqb count 1) refl (eqb count (length ns)) refl
    where
      go : (s : Bool) → eqb count 1 ≡ s → (t : Bool) → eqb count (length ns) ≡ t → (count ≡ 1) ⊎ (count ≡ length ns)
      go true e t f = inl (eqb-true count 1 e)
      go false e true f = inr (eqb-true count (length ns) f)
      go false e false f = absurd (true≢false (sym (λ j. not (e j || f j)) ∙ c))

  at_pair : (k : ℕ) → k < count → count ≤ 3 → over_pad (get_or pads k (record { left = 0; right = 0 })) ≡ false
  at_pair k h b =
      ap over_pad (sym (get_or-take count pads k (record { left = 0; right = 0 }) h))
      ∙ every_at (λ p. over_pad p ≡ false) (take count pads) (record { left = 0; right = 0 }) (any_none over_pad (take count pads) o) k
      (omega (arith, length-take-le count pads (omega arith)))

  pub pair_small : (a : ℕ) → a < length ns → over_pad (pair_of pads count a) ≡ false
  pair_small a h = go counted
    where
      go : (count ≡ 1) ⊎ (count ≡ length ns) → over_pad (pair_of pads count a) ≡ false
      go (inl e) = ap over_pad (sym (pair_only pads count a e)) ∙ at_pair 0 (omega arith) (omega arith)
      go (inr e) = own (eqb count 1) refl
        where
          own : (t : Bool) → eqb count 1 ≡ t → over_pad (pair_of pads count a) ≡ false
          own true q = let one = eqb-true count 1 q in ap over_pad (sym (pair_only pads count a one)) ∙ at_pair 0 (omega arith) (omega arith)
          own false q = ap over_pad (sym (pair_own pads count a a (eqb-false count 1 q) refl)) ∙ at_pair a (omega arith) (omega arith)

pub pad_limits : (p : Pair) → over_pad p ≡ false → (p.left ≤ 64) × (p.right ≤ 64)
pad_limits p e = let q = or_false (ltb 64 p.left) (ltb 64 p.right) e in (ltb-false 64 p.left q.0, ltb-false 64 p.right q.1)

-- ---- the padded length of an axis
module _ (ns : List ℕ) (pads : List Pair) (count a : ℕ) where
  pub padded-length : a < length ns → length_of (padded_shape ns (lefts_of ns pads count) (rights_of ns pads count)) a ≡ (pair_of pads count a).left + length_of ns a + (pair_of pads count a).right
  padded-length h =
      get_d_tabulate (λ k. get_or (lefts_of ns pads count) k 0 + length_of ns k + get_or (rights_of ns pads count) k 0) (length ns) a 1 h
      ∙ (λ j. get_d_tabulate (λ k. (pair_of pads count k).left) (length ns) a 0 h j + length_of ns a + get_d_tabulate (λ k. (pair_of pads count k).right) (length ns) a 0 h j)

  pub padded_missing : length ns ≤ a → 1 ≡ length_of (padded_shape ns (lefts_of ns pads count) (rights_of ns pads count)) a
  padded_missing h = sym (get_or-eq_default (padded_shape ns (lefts_of ns pads count) (rights_of ns pads count)) 1
      (omega (arith, length-tabulate (λ k. get_or (lefts_of ns pads count) k 0 + length_of ns k + get_or (rights_of ns pads count) k 0) 0 (length ns))))

-- ---- the padded count, from three padded lengths
module _ (ns : List ℕ) (pads : List Pair) (count : ℕ) (shape : bad_shape ns ≡ false) (three : length pads ≡ 3) (c : bad_count ns count ≡ false) (o : any_of over_pad (take count pads) ≡ false) where
  pub pair-asked : (a : ℕ) → (length_of ns a ≤ 1024) × (a < length ns → over_pad (pair_of pads count a) ≡ false)
  pair-asked a = let A = shape-accepted ns shape in (A.short a, pair_small ns pads count three A.few c o a)

  pub padded_short : (a : ℕ) {n : ℕ} → n ≡ length_of (padded_shape ns (lefts_of ns pads count) (rights_of ns pads count)) a → n ≤ 1152
  padded_short a {n} e = go (ltb a (length ns)) refl
    where
      go : (t : Bool) → ltb a (length ns) ≡ t → n ≤ 1152
      go true q =
          let h = ltb-true a (length ns) q in
          omega (arith, (pad_limits (pair_of pads count a) ((pair-asked a).1 h)).0, (pad_limits (pair_of pads count a) ((pair-asked a).1 h)).1, (pair-asked a).0, padded-length ns pads count a h)
      go false q = omega (arith, padded_missing ns pads count a (ltb-false a (length ns) q))

  pub padded-three : {x y z r : ℕ} → x ≡ length_of (padded_shape ns (lefts_of ns pads count) (rights_of ns pads count)) 0 → y ≡ length_of (padded_shape ns (lefts_of ns pads count) (rights_of ns pads count)) 1
      → z ≡ length_of (padded_shape ns (lefts_of ns pads count) (rights_of ns pads count)) 2 → r ≡ x * (y * z) → r ≡ padded_count ns pads count
  padded-three e f g h =
      let A = shape-accepted ns shape in
      let m = length-tabulate (λ k. get_or (lefts_of ns pads count) k 0 + length_of ns k + get_or (rights_of ns pads count) k 0) 0 (length ns) in
      h ∙ (λ j. e j * (f j * g j)) ∙ sym (count_three (padded_shape ns (lefts_of ns pads count) (rights_of ns pads count)) (omega (arith, m, A.some)) (omega (arith, m, A.few)))
