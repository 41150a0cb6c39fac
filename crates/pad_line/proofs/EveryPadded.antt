-- What holds of every cell of a lane, of what stands past its end and of the border's constant holds of every cell of the padded lane, over any element.
-- Assumes nothing.
use mathlib.Core.Path.{◌≡◌}
use mathlib.Core.Bool.{Bool, false}
use mathlib.Core.List.{List}
use Prim.Native.Nat.{ℕ, ◌+◌, ◌*◌}
use lib.IntN.{pos, nat_abs, ◌-ℤ◌}
use lib.ListN.{length, get_or}
use Rattle.numbers.specs.Lists.{Every, tabulate, any_of}
use Rattle.numbers.proofs.Any.{any_none, none_any, every_get_d}
use Rattle.numbers.proofs.Tabulate.{every_table}
use Rattle.numbers.proofs.Tests.{cond_ind}
use Rattle.lanes.specs.Lanes.{lane_at}
use Rattle.border.specs.Border.{Border, constant, along, cell_for, inside, extended_lane}
use Rattle.border.specs.Modes.{bad_constant_by}
use Rattle.pad_line.specs.Line.{padded_at, padded_line}

-- of the constant, where the border has one
abbrev pub OnBorder : {A : Type 0} → (A → Type 0) → Border A → Type 0
OnBorder P (constant c) = P c
OnBorder P (along m) = Unit {0}

module _ {A : Type 0} (P : A → Type 0) (d : A) (past : P d) where
  pub at-padded : (b : Border A) → OnBorder P b → (left : ℕ) (s : List A) → Every P s → (k : ℕ) → P (padded_at d b left s k)
  unfolding padded_at extended_lane
  at-padded (constant c) r left s h k =
      cond_ind (inside (length s) (pos k -ℤ pos left)) (get_or s (nat_abs (pos k -ℤ pos left)) d) c P (λ t. every_get_d P s d past h (nat_abs (pos k -ℤ pos left))) (λ t. r)
  at-padded (along m) r left s h k = every_get_d P s d past h (cell_for m (length s) (pos k -ℤ pos left))

  pub every_padded : (b : Border A) → OnBorder P b → (left right : ℕ) (s : List A) → Every P s → Every P (padded_line d b left right s)
  unfolding padded_line
  every_padded b r left right s h = every_table P (padded_at d b left s) 0 _ (at-padded b r left s h)

  every_lane : (n s at : ℕ) (g : List A) → Every P g → Every P (lane_at d g at s n)
  unfolding lane_at
  every_lane n s at g h = every_table P (λ i. get_or g (at + i * s) d) 0 n (λ i. every_get_d P g d past h (at + i * s))

-- ---- a test that fails
pub any_table : {A : Type 0} (t : A → Bool) (f : ℕ → A) (m n : ℕ) → ((k : ℕ) → t (f k) ≡ false) → any_of t (tabulate f m n) ≡ false
any_table t f m n h = none_any t (tabulate f m n) (every_table (λ x. t x ≡ false) f m n h)

pub any_padded : {A : Type 0} (t : A → Bool) (d : A) (b : Border A) (left right n s at : ℕ) (g : List A) → t d ≡ false → bad_constant_by t b ≡ false → any_of t g ≡ false
    → any_of t (padded_line d b left right (lane_at d g at s n)) ≡ false
any_padded {A} t d b left right n s at g z q e =
    none_any t (padded_line d b left right (lane_at d g at s n))
    (every_padded (λ x. t x ≡ false) d z b (on b q) left right (lane_at d g at s n) (every_lane (λ x. t x ≡ false) d z n s at g (any_none t g e)))
  where
    on : (b : Border A) → bad_constant_by t b ≡ false → OnBorder (λ x. t x ≡ false) b
    on (constant c) q = q
    on (along m) q = tt
