-- A centred window that condition 5 accepts: its length, that its origin 0 is accepted, and that the border fills its pads where condition 11 accepts it.
-- Assumes nothing.
use Prim.Native.Nat.{ℕ, ◌-◌, ◌/◌, ◌≤◌, ◌<◌, zero-le}
use mathlib.Core.Path.{◌≡◌, refl, sym, ap, ◌∙◌}
use mathlib.Core.Bool.{Bool, true, false, not, ◌&&◌, ◌||◌}
use borrow.Author.Tests.{ltb-false, le-ltb, eqb-true}
use lib.Dec.{eqb, ltb}
use lib.IntN.{ℤ, pos}
use Rattle.numbers.specs.Ranges.{outside}
use Rattle.numbers.proofs.Tests.{or_false}
use Rattle.border.specs.Border.{Border, constant, along}
use Rattle.border.specs.declared.CellBorder.TheVariants.{Nearest, Mirror, Reflect, Wrap}
use Rattle.window_spec.proofs.Origins.{origin_on}
use Rattle.border.specs.Reach.{bad_pad}
use Rattle.window_spec.specs.Window.{left_pad, right_pad, bad_window_origin, bad_either_pad, bad_reach}

module _ (size : ℕ) (h : outside 1 65 size ≡ false) where
  pub size_some : 0 < size
  size_some = ltb-false size 1 (or_false (ltb size 1) (ltb 65 size) h).0

  pub size_few : size ≤ 65
  size_few = ltb-false 65 size (or_false (ltb size 1) (ltb 65 size) h).1

  pub origin_in : bad_window_origin size (pos 0) ≡ false
  origin_in = ap (λ t. not (eqb size 1) && t) (origin_on size 0 size_some ∙ le-ltb ((size - 1) / 2) 0 zero-le) ∙ none (not (eqb size 1))
    where
      none : (t : Bool) → t && false ≡ false
      none true = refl
      none false = refl

-- no pad
pad_none : (b : Border ℤ) (n : ℕ) → bad_pad b n 0 ≡ false
pad_none (constant c) n = refl
pad_none (along Nearest) n = refl
pad_none (along Mirror) n = le-ltb (n - 1) 0 zero-le
pad_none (along Reflect) n = le-ltb n 0 zero-le
pad_none (along Wrap) n = le-ltb n 0 zero-le

-- the border fills both pads of a window that condition 11 accepts; one cell has none
pub pads_filled : (b : Border ℤ) (size n : ℕ) → bad_reach b size (pos 0) n ≡ false → bad_either_pad b (left_pad size (pos 0)) (right_pad size (pos 0)) n ≡ false
pads_filled b size n h = go (eqb size 1) refl
  where
    go : (t : Bool) → eqb size 1 ≡ t → bad_either_pad b (left_pad size (pos 0)) (right_pad size (pos 0)) n ≡ false
    go true e = ap (λ m. bad_either_pad b (left_pad m (pos 0)) (right_pad m (pos 0)) n) (eqb-true size 1 e) ∙ ap (λ t. t || t) (pad_none b n)
    go false e = ap (λ t. not t && bad_either_pad b (left_pad size (pos 0)) (right_pad size (pos 0)) n) (sym e) ∙ h
