-- Bounds of the machine's numbers, and bytes fed one after another, in any cut.
-- Assumes nothing.
use Prim.Native.Nat.{ℕ, ◌+◌, ◌*◌, ◌≤◌, ◌<◌}
use native.Mathlib.Nat.{mul-le-mul}
use mathlib.Core.Path.{◌≡◌, refl, sym, ap, ◌∙◌}
use mathlib.Core.Bool.{true, false}
use mathlib.Core.List.{List, [], ◌∷◌, ◌++◌}
use borrow.Author.Tests.{eq-eqb, ne_eqb}
use lib.ListN.{length, get_or, drop, drop_of_length-le}
use Rattle.numbers.proofs.Index.{drop-next}
use Rattle.numbers.specs.Refusal.{refusal_of}
use Rattle.grid_text_spec.specs.declared.TextShape.{TextShape}
use Rattle.grid_text_spec.specs.Machine.{Machine, byte_fed, fed, large_shape, shape_judged}

pub product_most : (a b m n : ℕ) → a ≤ m → b ≤ n → a * b ≤ m * n
product_most a b m n h l = mul-le-mul h l

-- ---- one byte more
pub fed-next : (m m' : Machine) (i : ℕ) (t : List ℕ) → i < length t → m' ≡ byte_fed m (get_or t i 0) → fed m (drop i t) ≡ fed m' (drop (i + 1) t)
fed-next m m' i t h e = ap (fed m) (drop-next t i 0 h) ∙ ap (λ k. fed k (drop (i + 1) t)) (sym e)

pub fed-all : (m : Machine) (i : ℕ) (t : List ℕ) → length t ≤ i → fed m (drop i t) ≡ m
fed-all m i t h = ap (fed m) (drop_of_length-le t h)

-- a text in two parts
pub fed-append : (m : Machine) (s t : List ℕ) → fed m (s ++ t) ≡ fed (fed m s) t
fed-append m [] t = refl
fed-append m (x ∷ s) t = fed-append (byte_fed m x) s t

-- ---- the answers of the judge
module _ (s : TextShape) (a : s.refused ≡ false) where
  pub judged_large : large_shape s ≡ true → 1 ≡ refusal_of (shape_judged s)
  judged_large b = rw (b, a) refl

  module _ (b : large_shape s ≡ false) where
    pub judged_faulty : s.faulty ≡ true → 2 ≡ refusal_of (shape_judged s)
    judged_faulty e = rw (b, a, e) refl

    module _ (e : s.faulty ≡ false) where
      pub judged_count : (s.words ≡ 1 + s.axes + s.cells → ⊥) → 2 ≡ refusal_of (shape_judged s)
      judged_count h = rw (b, a, e, ne_eqb s.words (1 + s.axes + s.cells) h) refl

      pub judged_good : s.words ≡ 1 + s.axes + s.cells → 0 ≡ refusal_of (shape_judged s)
      judged_good h = rw (b, a, e, eq-eqb s.words (1 + s.axes + s.cells) h) refl
