-- The size of padded levels: no larger than the lane's own and the border's constant.
-- Assumes nothing.
use Prim.Native.Nat.{ℕ}
use mathlib.Core.Path.{◌≡◌}
use mathlib.Core.Bool.{false}
use mathlib.Core.List.{List}
use lib.IntN.{ℤ, pos}
use Rattle.numbers.proofs.Size.{Size, Sized, size_inside, size_zero}
use Rattle.array_spec.specs.Conditions.{bad_level}
use Rattle.border.specs.Border.{Border, constant, along}
use Rattle.border.specs.Modes.{bad_constant_by}
use Rattle.pad_line.specs.Line.{padded_at, padded_line}
use Rattle.pad_line.proofs.EveryPadded.{OnBorder, at-padded, every_padded}

-- the constant, where the border has one
abbrev pub SizedBorder : ℕ → Border ℤ → Type 0
SizedBorder p b = OnBorder (λ x. Size x p) b

-- of a constant that condition 9 accepts
pub constant_sized : (b : Border ℤ) → bad_constant_by bad_level b ≡ false → SizedBorder 2147483647 b
unfolding bad_level
constant_sized (constant c) e = size_inside 2147483647 c e
constant_sized (along m) e = tt

pub padded_sized : (p : ℕ) (b : Border ℤ) → SizedBorder p b → (left : ℕ) (s : List ℤ) → Sized p s → (k : ℕ) → Size (padded_at (pos 0) b left s k) p
padded_sized p = at-padded (λ x. Size x p) (pos 0) (size_zero p)

pub line_sized : (p : ℕ) (b : Border ℤ) → SizedBorder p b → (left right : ℕ) (s : List ℤ) → Sized p s → Sized p (padded_line (pos 0) b left right s)
line_sized p = every_padded (λ x. Size x p) (pos 0) (size_zero p)
