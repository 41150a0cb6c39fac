-- The worked examples T1 to T10 of document 01, of the definitions that the public contracts cite.
--   padded mode left right cells   what `pad` leaves of a line
--   three mode              1 2 3 with a pad of 2 on each side
--   on_three f w             f of the cells 1 2 3 with the weights w under Nearest, origin 0
--   on_four le               4 2 7 1 after a one-axis call of length 3 under Reflect
--   square                  the rows 1 2 / 3 4
--   minimum_along a          the minimum of length 2 along axis a under Constant 0, on the rows 5 3 / 4 9
--   WorkedExamples          T1 to T10
use Rattle.std.specs.Prelude.{ℕ, ◌+◌, ◌≡◌, Bool, List, [], ◌∷◌, ltb, ℤ, pos, length, replicate}
use Rattle.std.specs.Int.Signed.{le_z}
use Rattle.numbers.specs.Order.{at_least}
use Rattle.numbers.specs.Rows.{wholes, minus}
use Rattle.border.specs.Border.{Border, constant, along}
use Rattle.border.specs.declared.CellBorder.TheVariants as borders
use Rattle.border.specs.declared.PadMode.{PadMode}
use Rattle.border.specs.declared.PadMode.TheVariants as modes
use Rattle.pad_spec.specs.Levels.{padded_grid}
use Rattle.pad_spec.specs.Pads.{lefts_of, rights_of}
use Rattle.pad_spec.specs.declared.pairs.Pair.{Pair}
use Rattle.min_max_spec.specs.Call.{Call}
use Rattle.min_max_spec.specs.Run.{answer_of, run}
use Rattle.correlate_spec.specs.Correlated.{correlate1d_z}
use Rattle.correlate_spec.specs.Convolved.{convolve1d_z}
use Rattle.correlate_spec.specs.Kernel.{correlate_z}
use Rattle.gradient_spec.specs.Gradient.{sobel_weights, gradient}
use Rattle.uniform_spec.specs.Uniform.{uniform1d}
use Rattle.median_spec.specs.Around.{one, median_answer}

abbrev pub padded : PadMode → ℕ → ℕ → List ℤ → List ℤ
padded mode left right cells =
    let pads : List Pair = record { left = left; right = right } ∷ [] in
    padded_grid mode (length cells ∷ []) (lefts_of (length cells ∷ []) pads 1) (rights_of (length cells ∷ []) pads 1) cells

abbrev pub three : PadMode → List ℤ
three mode = padded mode 2 2 (wholes (1 ∷ 2 ∷ 3 ∷ []))

abbrev pub on_three : (Border ℤ → ℤ → List ℤ → List ℕ → ℕ → List ℤ → List ℤ) → List ℕ → List ℤ
on_three f w = f (along borders.Nearest) (pos 0) (wholes w) (3 ∷ []) 0 (wholes (1 ∷ 2 ∷ 3 ∷ []))

abbrev pub on_four : (ℤ → ℤ → Bool) → List ℤ
on_four le =
    let cells = wholes (4 ∷ 2 ∷ 7 ∷ 1 ∷ []) in
    answer_of le cells (record {
      shape = 4 ∷ [];
      size = 3;
      axis = 0;
      border = along borders.Reflect;
      origin = pos 0;
      out
          = cells;
    })

abbrev pub square : List ℤ
square = wholes (1 ∷ 2 ∷ 3 ∷ 4 ∷ [])

abbrev pub minimum_along : ℕ → Call
minimum_along a = record {
  shape = 2 ∷ 2 ∷ [];
  size = 2;
  axis = a;
  border = constant (pos 0);
  origin = pos 0;
  out =
      square;
}

pub record WorkedExamples : Type 0 where
  pub t1 :
      three modes.Reflect ∷ three modes.Edge ∷ three modes.Symmetric ∷ three modes.Wrap ∷ []
      ≡ wholes (3 ∷ 2 ∷ 1 ∷ 2 ∷ 3 ∷ 2 ∷ 1 ∷ []) ∷ wholes (1 ∷ 1 ∷ 1 ∷ 2 ∷ 3 ∷ 3 ∷ 3 ∷ [])
      ∷ wholes (2 ∷ 1 ∷ 1 ∷ 2 ∷ 3 ∷ 3 ∷ 2 ∷ []) ∷ wholes (2 ∷ 3 ∷ 1 ∷ 2 ∷ 3 ∷ 1 ∷ 2 ∷ []) ∷ []
  pub t2 : on_three correlate1d_z (1 ∷ 2 ∷ 3 ∷ []) ∷ on_three convolve1d_z (1 ∷ 2 ∷ 3 ∷ []) ∷ []
      ≡ wholes (9 ∷ 14 ∷ 17 ∷ []) ∷ wholes (7 ∷ 10 ∷ 15 ∷ []) ∷ []
  pub t3 : on_three correlate1d_z (1 ∷ 10 ∷ []) ∷ on_three convolve1d_z (1 ∷ 10 ∷ []) ∷ []
      ≡ wholes (11 ∷ 21 ∷ 32 ∷ []) ∷ wholes (12 ∷ 23 ∷ 33 ∷ []) ∷ []
  pub t4 : on_four le_z ∷ on_four at_least ∷ [] ≡ wholes (2 ∷ 2 ∷ 1 ∷ 1 ∷ []) ∷ wholes (4 ∷ 7 ∷ 7 ∷ 7 ∷ []) ∷ []
  pub t5 :
      run le_z (wholes (5 ∷ 3 ∷ 4 ∷ 9 ∷ [])) (minimum_along 0 ∷ minimum_along 1 ∷ [])
      ∷ run le_z (wholes (5 ∷ 3 ∷ 4 ∷ 9 ∷ [])) (minimum_along 1 ∷ minimum_along 0 ∷ []) ∷ []
      ≡ wholes (0 ∷ 0 ∷ 0 ∷ 3 ∷ []) ∷ wholes (0 ∷ 0 ∷ 0 ∷ 3 ∷ []) ∷ []
  pub t6 : uniform1d (constant (pos 0)) 3 (3 ∷ []) 0 (minus 1 ∷ minus 2 ∷ minus 4 ∷ [])
      ≡ minus 1 ∷ minus 2 ∷ minus 2 ∷ []
  pub t7 :
      gradient sobel_weights (λ _. along borders.Nearest) (2 ∷ 2 ∷ []) 0 square
      ∷ gradient sobel_weights (λ _. constant (pos 0)) (2 ∷ 2 ∷ []) 0 square ∷ []
      ≡ replicate 4 (pos 8) ∷ (pos 10 ∷ pos 11 ∷ minus 4 ∷ minus 5 ∷ []) ∷ []
  pub t8 : correlate_z (along borders.Nearest) (pos 0) (2 ∷ 2 ∷ []) (wholes (1 ∷ 0 ∷ 0 ∷ 10 ∷ [])) (2 ∷ 2 ∷ []) square
      ≡ wholes (11 ∷ 21 ∷ 31 ∷ 41 ∷ [])
  -- of every mask: four true give all true, three give all false
  pub t9 : (a b c d e f g h : Bool)
      → median_answer (2 ∷ 2 ∷ 2 ∷ []) (a ∷ b ∷ c ∷ d ∷ e ∷ f ∷ g ∷ h ∷ [])
      ≡ replicate 8 (ltb 3 (one a + one b + one c + one d + one e + one f + one g + one h))
  pub t10 : padded modes.Median 1 0 (wholes (1 ∷ 2 ∷ 4 ∷ 9 ∷ [])) ∷ padded modes.Median 1 0 (minus 1 ∷ minus 2 ∷ [])
      ∷ [] ≡ wholes (3 ∷ 1 ∷ 2 ∷ 4 ∷ 9 ∷ []) ∷ (minus 1 ∷ minus 1 ∷ minus 2 ∷ []) ∷ []
