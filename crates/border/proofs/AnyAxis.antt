-- A search for an axis whose border and length pass a test: what a loop that returns at the first hit keeps, the axis at
-- which nothing was found, and one border for every axis. Assumes nothing.
use Prim.Native.Nat.{ℕ, zero, suc, ◌+◌, ◌<◌, ◌≤◌}
use mathlib.Core.Path.{◌≡◌, refl, ap, ◌∙◌}
use mathlib.Core.Bool.{Bool, true, false, ◌&&◌, ◌||◌, cond}
use mathlib.Core.List.{List, [], ◌∷◌}
use native.Mathlib.Nat.{not-suc-le-zero, le_of_suc-le-suc}
use native.Mathlib.Omega.{arith}
use borrow.Author.Tests.{le-ltb}
use lib.IntN.{ℤ, pos}
use lib.ListN.{length, get_or, drop, drop_of_length-le}
use lib.Seq.{drop-cons}
use Rattle.numbers.specs.Lists.{any_of}
use Rattle.numbers.proofs.Tests.{or_false}
use Rattle.array_spec.specs.Grid.{length_of}
use Rattle.border.specs.Border.{Border}
use Rattle.border.specs.Axes.{mode_on, borders_of, any_axis}
use Rattle.border.specs.Modes.{border_of}
use Rattle.border.specs.declared.BorderMode.{BorderMode}
use Rattle.border.specs.declared.BorderMode.TheVariants as Whole

-- the axes from axis a on
abbrev pub axes_from : {A : Type 0} → (Border A → ℕ → Bool) → (ℕ → Border A) → List ℕ → ℕ → Bool
axes_from bad bs ns a = any_axis bad (λ i. bs (a + i)) (drop a ns)

module _ {A : Type 0} (bad : Border A → ℕ → Bool) (bs : ℕ → Border A) where
  pub axis_start : (ns : List ℕ) → any_axis bad bs ns ≡ axes_from bad bs ns 0
  axis_start ns = (λ j. any_axis bad (λ i. bs (same i j)) ns)
    where
      same : (i : ℕ) → i ≡ 0 + i
      same i = omega arith

  from_cons : (d a : ℕ) (ns : List ℕ) → a < length ns → axes_from bad bs ns a ≡ bad (bs a) (get_or ns a d) || axes_from bad bs ns (a + 1)
  from_cons d a ns h =
      ap (any_axis bad (λ i. bs (a + i))) (drop-cons ns a d h)
      ∙ (λ j. bad (bs (here j)) (get_or ns a d) || any_axis bad (λ i. bs (there i j)) (drop (next j) ns))
    where
      here : a + 0 ≡ a
      here = omega arith

      next : suc a ≡ a + 1
      next = omega arith

      there : (i : ℕ) → a + suc i ≡ a + 1 + i
      there i = omega arith

  -- the length as the loop reads it, where d stands for one past the end
  module _ (d a : ℕ) (ns : List ℕ) (h : a < length ns) (e : any_axis bad bs ns ≡ axes_from bad bs ns a) where
    pub axis_hit : bad (bs a) (get_or ns a d) ≡ true → any_axis bad bs ns ≡ true
    axis_hit p = e ∙ from_cons d a ns h ∙ ap (λ t. t || axes_from bad bs ns (a + 1)) p

    pub axis_miss : bad (bs a) (get_or ns a d) ≡ false → any_axis bad bs ns ≡ axes_from bad bs ns (a + 1)
    axis_miss p = e ∙ from_cons d a ns h ∙ ap (λ t. t || axes_from bad bs ns (a + 1)) p

  pub axis_end : (a : ℕ) (ns : List ℕ) → length ns ≤ a → any_axis bad bs ns ≡ axes_from bad bs ns a → any_axis bad bs ns ≡ false
  axis_end a ns h e = e ∙ ap (any_axis bad (λ i. bs (a + i))) (drop_of_length-le ns h)

-- no axis passes: this one does not
pub axis-at : {A : Type 0} (bad : Border A → ℕ → Bool) (bs : ℕ → Border A) (ns : List ℕ) → any_axis bad bs ns ≡ false → (a : ℕ) → a < length ns → bad (bs a) (length_of ns a) ≡ false
axis-at bad bs [] e a h = absurd (not-suc-le-zero h)
axis-at bad bs (n ∷ ns) e zero h = (or_false (bad (bs 0) n) (any_axis bad (λ i. bs (suc i)) ns) e).0
axis-at bad bs (n ∷ ns) e (suc a) h = axis-at bad (λ i. bs (suc i)) ns (or_false (bad (bs 0) n) (any_axis bad (λ i. bs (suc i)) ns) e).1 a (le_of_suc-le-suc h)

pub axis_same : {A : Type 0} (bad : Border A → ℕ → Bool) (b : Border A) (ns : List ℕ) → any_axis bad (λ _. b) ns ≡ any_of (bad b) ns
axis_same bad b [] = refl
axis_same bad b (n ∷ ns) = ap (λ t. bad b n || t) (axis_same bad b ns)

-- a test that is joined to one of no axis
pub axis_and : {A : Type 0} (t : Bool) (bad : Border A → ℕ → Bool) (bs : ℕ → Border A) (ns : List ℕ) → any_axis (λ b n. t && bad b n) bs ns ≡ t && any_axis bad bs ns
axis_and true bad bs ns = refl
axis_and false bad bs [] = refl
axis_and false bad bs (n ∷ ns) = axis_and false bad (λ i. bs (suc i)) ns

-- three modes that are the same
pub mode_same : (m : BorderMode) (a : ℕ) → mode_on (m ∷ m ∷ m ∷ []) a ≡ m
mode_same m zero = refl
mode_same m (suc zero) = refl
mode_same m (suc (suc a)) = ap (λ t. get_or (m ∷ m ∷ m ∷ []) (cond t (suc (suc a)) 2) (Whole.Constant (pos 0))) (le-ltb (suc (suc a)) 2 (omega arith))

pub axis-one : (bad : Border ℤ → ℕ → Bool) (m : BorderMode) (ns : List ℕ) → any_axis bad (borders_of (m ∷ m ∷ m ∷ [])) ns ≡ any_of (bad (border_of m)) ns
axis-one bad m ns = (λ j. any_axis bad (λ a. border_of (mode_same m a j)) ns) ∙ axis_same bad (border_of m) ns
