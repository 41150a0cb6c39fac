-- A grid laid in the middle of a padded one: the copied middle holds its levels, and once every axis is filled every place holds the level that belongs there.
-- Assumes nothing.
use mathlib.Core.Path.{◌≡◌, sym, ap, ◌∙◌}
use mathlib.Core.Bool.{true, false, cond}
use mathlib.Core.List.{List}
use Prim.Native.Nat.{ℕ, ◌-◌, ◌<◌}
use native.Mathlib.Omega.{arith}
use lib.IntN.{ℤ, pos}
use lib.ListN.{length, get_or}
use Rattle.numbers.specs.Lists.{any_of}
use Rattle.numbers.proofs.Tabulate.{length-tabulate, get_d_tabulate, tabulate_unique}
use Rattle.array_spec.specs.Conditions.{bad_level}
use Rattle.array_spec.specs.Grid.{cell_count, coordinate}
use Rattle.border.specs.declared.PadMode.{PadMode}
use Rattle.pad_spec.specs.Levels.{level_to}
use Rattle.pad_spec.specs.Pads.{in_middle, all_from, middle_from}
use Rattle.pad_spec.proofs.Levels.{level_rest}
use Rattle.pad_spec.specs.Frame.{middle_set}
use Rattle.pad_spec.specs.Filled.{Filled}
use Rattle.pad.specs.Laid.{laid}

module _ (mode : PadMode) (ns lefts ps : List ℕ) (cells : List ℤ) where
  -- ---- the copied middle
  pub middle-final : (k : ℕ) → middle_from ns lefts 0 (coordinate ps k) ≡ true → level_to mode ns lefts cells 0 (coordinate ps k) ≡ level_to mode ns lefts cells (length ns) (coordinate ps k)
  middle-final k m = sym (level_rest mode ns lefts cells 0 (omega arith) (coordinate ps k) m)

  module _ (held : List ℤ) {out : List ℤ} (e : out ≡ middle_set ns lefts ps cells held) (h : length held ≡ cell_count ps) where
    pub middle-read : (k : ℕ) → k < cell_count ps → get_or out k (pos 0) ≡ cond (middle_from ns lefts 0 (coordinate ps k)) (level_to mode ns lefts cells 0 (coordinate ps k)) (get_or held k (pos 0))
    unfolding middle_set level_to
    middle-read k b = ap (λ x. get_or x k (pos 0)) e ∙ get_d_tabulate _ (length held) k (pos 0) (omega arith)

    pub middle-kept : length out ≡ cell_count ps
    unfolding middle_set
    middle-kept = ap length e ∙ length-tabulate _ 0 (length held) ∙ h

    pub filled-middle : any_of bad_level cells ≡ false → Filled mode ns lefts ps cells 0 out
    filled-middle l = record {
      levels = l;
      count = middle-kept;
      finals = λ k b m. middle-read k b ∙ ap (λ t. cond t (level_to mode ns lefts cells 0 (coordinate ps k)) (get_or held k (pos 0))) m ∙ middle-final k m;
    }

  -- ---- every axis filled
  pub laid_filled : {out : List ℤ} → Filled mode ns lefts ps cells (length ns) out → out ≡ laid mode ns lefts ps cells
  unfolding laid
  laid_filled {out} A = tabulate_unique (pos 0) _ out (cell_count ps) A.count (λ k b. A.finals k b (all k))
    where
      all : (k : ℕ) → middle_from ns lefts (length ns) (coordinate ps k) ≡ true
      all k = let e : length ns - length ns ≡ 0 = omega arith in ap (all_from (in_middle ns lefts (coordinate ps k)) (length ns)) e
