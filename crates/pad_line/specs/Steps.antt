-- From one place of a rim to the next, the cell that a border reads is the same one, the next one, or the one before.
--   step_up m                               how far on it is
--   step_down m                             how far back it is
--   StepNeeds up down from at count len      in a list of len places: count places are read by such steps, the first at
--                                            from, and none of them is stored, from at on
--   step_set d up down from at count g      g with the cells so read stored from place at on; d stands for what is past
--                                          the end
use Rattle.std.specs.Prelude.{ℕ, ◌+◌, ◌-◌, ◌*◌, ◌≤◌, ◌<◌, ◌&&◌, cond, List, leb, ltb, length, get_or}
use Rattle.numbers.specs.Lists.{tabulate}
use Rattle.border.specs.declared.CellBorder.{CellBorder}
use Rattle.border.specs.declared.CellBorder.TheVariants.{Nearest, Mirror, Reflect, Wrap}

abbrev pub step_up : CellBorder → ℕ
step_up Nearest = 0
step_up Mirror = 0
step_up Reflect = 0
step_up Wrap = 1

abbrev pub step_down : CellBorder → ℕ
step_down Nearest = 0
step_down Mirror = 1
step_down Reflect = 1
step_down Wrap = 0

pub record StepNeeds (up down from at count len : ℕ) : Type 0 where
  pub ahead : (j : ℕ) → j < count → from + up * j < len
  pub behind : (j : ℕ) → j < count → down * j ≤ from + up * j
  pub kept : (j : ℕ) → j < count → at ≤ from + up * j - down * j → from + up * j - down * j < at + count → ⊥
  pub stores : (j : ℕ) → j < count → at + j < len

unfoldable pub step_set : {A : Type 0} → A → ℕ → ℕ → ℕ → ℕ → ℕ → List A → List A
step_set d up down from at count g =
    tabulate (λ k. cond (leb at k && ltb k (at + count)) (get_or g (from + up * (k - at) - down * (k - at)) d)
    (get_or g k d)) 0 (length g)
