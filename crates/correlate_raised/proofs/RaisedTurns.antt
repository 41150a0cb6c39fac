-- One turn of a loop that adds raised terms, on the machine: whichever cells and weights it reads, terms and sum fit 64 bits, since no partial sum is larger than
-- 195 products of the largest cell and the largest weight; and where they are those that are next, the row has one cell more. One law for
-- every number of weights a pass, up to four. Assumes nothing.
use Prim.Native.Nat.{ℕ, ◌+◌, ◌*◌, ◌^◌, ◌≤◌, ◌<◌}
use mathlib.Core.Path.{◌≡◌, refl, sym, ap, subst, ◌∙◌}
use mathlib.Core.List.{List}
use native.Mathlib.Nat.{add_assoc}
use native.Mathlib.Omega.{arith}
use lib.IntN.{ℤ, pos, ◌+ℤ◌, ◌*ℤ◌, +ℤ_assoc}
use lib.ListN.{length, get_or, set}
use mir.Syntax.{w64}
use mir.Val.{SFits}
use Rattle.numbers.specs.Lists.{tabulate}
use Rattle.numbers.proofs.Size.{Size, size_add, size_mul, size_le, fits_size}
use Rattle.correlate_spec.specs.Weighed.{summed}
use Rattle.correlate_spec.proofs.Along.{Pass, pass_held, row_terms}
use Rattle.correlate_spec.proofs.Sizes.{size_summed}
use Rattle.correlate_raised_terms.specs.Narrow.{Raised}
use Rattle.correlate_raised.specs.Raised.{raised_start, raised_term, raised_to, RaiseNeeds}
use Rattle.correlate_raised_terms.specs.Products.{RaisedWeight, product, four_products}
use Rattle.correlate_raised_terms.proofs.RaisedNumber.{raised_at}
use Rattle.correlate_spec.proofs.Computed.{read, Computed, size_pos, computed_level, computed_read, computed}
use Rattle.correlate_raised.proofs.RaisedStart.{start_small}

-- x is the sum of m terms of cell i from weight j on, at most four
pub record Terms (by : ℕ) (w s : List ℤ) (i j m x : ℕ) : Type 0 where
  pub few : x ≤ 4 * (2 ^ 38 * 65535)
  pub is : (y : ℤ) → y +ℤ pos x ≡ summed ◌+ℤ◌ y (λ k. raised_term by w s i (j + k)) m

module _ {by : ℕ} {w s : List ℤ} {n : ℕ} (A : RaiseNeeds by w s n) where
  cell : (k : ℕ) → Raised 2147483648 4294967295 (get_or s k (pos 0))
  cell k = raised_at s A.cells (omega arith) k

  weight : (k : ℕ) → Raised by 131070 (get_or w k (pos 0))
  weight k = raised_at w A.weights (omega (arith, A.low)) k

  abbrev term : ℕ → ℕ → ℤ
  term a k = (get_or s a (pos 0) +ℤ pos 2147483648) *ℤ (get_or w k (pos 0) +ℤ pos by)

  -- ---- the size of a partial sum
  term_small : (a k : ℕ) → Size (term a k) (1 * (2 ^ 38 * 65535))
  term_small a k =
      size_le (size_mul (subst (λ (z : ℤ). Size z 4294967295) (sym (cell a).is) (record { size = (cell a).small }))
      (subst (λ (z : ℤ). Size z 131070) (sym (weight k).is) (record { size = (weight k).small })))
      (omega arith)

  sum_small : (j i : ℕ) → Size (raised_to by w s j i) ((130 + j * 1) * (2 ^ 38 * 65535))
  sum_small j i = size_summed (2 ^ 38 * 65535) 130 1 (raised_start by w s i) (raised_term by w s i) (start_small A i) (λ k. term_small (i + k) k) j

  -- ---- the sum that a row still holds at place i, and up to four terms more
  module _ (j m : ℕ) {l₀ l : List ℤ} {c i : ℕ} (h : j ≤ length w) (e : l₀ ≡ tabulate (raised_to by w s j) 0 (length l₀))
      (P : Pass (pos 0) (raised_to by w s (j + m)) l₀ c i l) (b : i < c) where
    held_small : Size (get_or l i (pos 0)) (195 * (2 ^ 38 * 65535))
    held_small = subst (λ (z : ℤ). Size z (195 * (2 ^ 38 * 65535))) (sym (pass_held (raised_to by w s j) e P b)) (size_le (sum_small j i) few)
      where
        few : (130 + j * 1) * (2 ^ 38 * 65535) ≤ 195 * (2 ^ 38 * 65535)
        few = omega (arith, A.weighable.few)

    held_more : (x : ℕ) → x ≤ 4 * (2 ^ 38 * 65535) → Computed (read (get_or l i (pos 0)) +ℤ read (pos x)) (get_or l i (pos 0) +ℤ pos x)
    held_more x q =
        computed ◌+ℤ◌ (computed_level held_small (omega arith)) (record { fits = fits_size (size_pos x) (omega arith); is = refl })
        (size_add held_small (record { size = q })) (omega arith)

    -- whichever terms they are, the sum fits
    pub more_fits : (x : ℕ) → x ≤ 4 * (2 ^ 38 * 65535) → SFits w64 (read (get_or l i (pos 0)) +ℤ read (pos x))
    more_fits x q = (held_more x q).fits

    pub raised_more : {x : ℕ} → Terms by w s i j m x → Pass (pos 0) (raised_to by w s (j + m)) l₀ c (i + 1) (set l i (read (read (get_or l i (pos 0)) +ℤ read (pos x))))
    raised_more {x} T = row_terms ◌+ℤ◌ (raised_start by w s) (raised_term by w s) (pos 0) j m e P b (computed_read (held_more x T.few) ∙ T.is (get_or l i (pos 0)))

-- ---- what the code adds: the terms of one weight and of four
-- a product by a raised weight is the term of that weight
weighed : {by : ℕ} {w : List ℤ} (s : List ℤ) (i : ℕ) {j k a v : ℕ} → RaisedWeight by w k v → a ≡ i + j → k ≡ j → product s a v ≡ raised_term by w s i j
weighed {by} {w} s i {a = a} r p q = ap (λ z. (get_or s a (pos 0) +ℤ pos 2147483648) *ℤ z) r.is ∙ (λ t. (get_or s (p t) (pos 0) +ℤ pos 2147483648) *ℤ (get_or w (q t) (pos 0) +ℤ pos by))

module _ {by : ℕ} {w s : List ℤ} where
  pub one-term : (i j : ℕ) {x v : ℕ} → RaisedWeight by w j v → pos x ≡ product s (i + j) v → x ≤ 2 ^ 38 * 65535 → Terms by w s i j 1 x
  unfolding summed
  one-term i j r p q = record { few = omega arith; is = λ y. ap (λ z. y +ℤ z) (p ∙ weighed s i r (omega arith) (omega arith)) }

  pub four_terms_lem : (i j : ℕ) {x p q r t : ℕ} → RaisedWeight by w j p × RaisedWeight by w (j + 1) q × RaisedWeight by w (j + 2) r × RaisedWeight by w (j + 3) t
      → pos x ≡ four_products s (i + j) p q r t → x ≤ 4 * (2 ^ 38 * 65535) → Terms by w s i j 4 x
  unfolding summed
  four_terms_lem i j {x} v m q = record { few = q; is = λ y. ap (λ z. y +ℤ z) sum ∙ apart y (term 0) (term 1) (term 2) (term 3) }
    where
      term : ℕ → ℤ
      term k = raised_term by w s i (j + k)

      sum : pos x ≡ term 0 +ℤ term 1 +ℤ term 2 +ℤ term 3
      sum = m ∙ (λ τ. weighed s i v.0 first same τ +ℤ weighed s i v.1 (add_assoc i j 1) refl τ +ℤ weighed s i v.2 (add_assoc i j 2) refl τ +ℤ weighed s i v.3 (add_assoc i j 3) refl τ)
        where
          same : j ≡ j + 0
          same = omega arith

          first : i + j ≡ i + (j + 0)
          first = omega arith

      apart : (a b c d e : ℤ) → a +ℤ (b +ℤ c +ℤ d +ℤ e) ≡ a +ℤ b +ℤ c +ℤ d +ℤ e
      apart a b c d e = simp +ℤ_assoc
