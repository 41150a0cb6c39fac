-- A list while cells of it are copied step by step, none of which is stored over, over any element: what the loop leaves is step_set.
-- Assumes nothing.
use mathlib.Core.Path.{◌≡◌, ap, subst, ◌∙◌}
use mathlib.Core.List.{List}
use Prim.Native.Nat.{ℕ, ◌+◌, ◌-◌, ◌*◌, ◌≤◌, ◌<◌}
use native.Mathlib.Omega.{arith}
use lib.Dec.{eqb}
use lib.ListN.{length, get_or, set}
use Rattle.numbers.proofs.Stored.{Stored, stored_one, stored_then, stored_table, table_stored}
use Rattle.numbers.proofs.Tests.{cond_no}
use Rattle.lanes.proofs.Part.{on_row, row_no, row_longer}
use Rattle.pad_line.specs.Steps.{StepNeeds, step_set}

-- ---- the places of one turn: those that it reads and stores are in the list, and it steps back no further than its start
pub record StepTurn (up down from at len j : ℕ) : Type 0 where
  pub ahead : from + up * j < len
  pub behind : down * j ≤ from + up * j
  pub stores : at + j < len

pub step_turn : {up down from at count len j : ℕ} → StepNeeds up down from at count len → j < count → StepTurn up down from at len j
step_turn {j = j} W h = record { ahead = W.ahead j h; behind = W.behind j h; stores = W.stores j h }

module _ {A : Type 0} (d : A) where
  -- the cell that place k gets
  abbrev pub stepped_cell : ℕ → ℕ → ℕ → ℕ → List A → ℕ → A
  stepped_cell up down from at g k = get_or g (from + up * (k - at) - down * (k - at)) d

  -- ---- g is g₀ with the first j cells stored
  pub record StepStored (up down from at : ℕ) (g₀ g : List A) (j : ℕ) : Type 0 where
    pub stored : Stored d (on_row at j) (stepped_cell up down from at g₀) g₀ g

  pub step-all : {up down from at : ℕ} {g₀ g : List A} {j : ℕ} (count : ℕ) → j ≡ count → StepStored up down from at g₀ g j → g ≡ step_set d up down from at count g₀
  unfolding step_set
  step-all {up} {down} {from} {at} {g₀} {g} {j} count e S =
      stored_table d (stepped_cell up down from at g₀) (on_row at count) (subst (StepStored up down from at g₀ g) e S).stored

  -- and back: what is stored where
  pub set_stored : (up down from at count : ℕ) (g₀ g : List A) → g ≡ step_set d up down from at count g₀ → Stored d (on_row at count) (stepped_cell up down from at g₀) g₀ g
  unfolding step_set
  set_stored up down from at count g₀ g e = table_stored d (stepped_cell up down from at g₀) (on_row at count) g₀ g e

  -- ---- one cell more: the one that is read was not stored
  pub step-more : {up down from at count len j : ℕ} {g₀ g : List A} (v : A) → StepNeeds up down from at count len → j < count → length g₀ ≡ len → v ≡ get_or g (from + up * j - down * j) d
      → StepStored up down from at g₀ g j → StepStored up down from at g₀ (set g (at + j) v) (j + 1)
  step-more {up} {down} {from} {at} {count} {len} {j} {g₀} {g} v W h w e S = record {
    stored =
        stored_then d (stepped_cell up down from at g₀) (on_row at j) (λ k. eqb k (at + j)) (on_row at (j + 1)) S.stored
        (stored_one d (stepped_cell up down from at g₀) g (at + j) v (omega (arith, W.stores j h, S.stored.kept, w)) (e ∙ first ∙ ap (λ x. get_or g₀ (from + up * x - down * x) d) (past at j)))
        (row_longer at j);
  }
    where
      past : (at j : ℕ) → j ≡ at + j - at
      past at j = omega arith

      first : get_or g (from + up * j - down * j) d ≡ get_or g₀ (from + up * j - down * j) d
      first =
          S.stored.cells (from + up * j - down * j) (omega (arith, W.ahead j h, w))
          ∙ cond_no (on_row at j (from + up * j - down * j)) _ _ (row_no at j (from + up * j - down * j) (λ lo hi. W.kept j h lo (omega arith)))
