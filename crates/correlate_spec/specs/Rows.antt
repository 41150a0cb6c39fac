-- Worked rows of this crate's definitions. Each holds by computing.
--   line w s n       the plain weighted sums of whole cells
--   three f w        f of the cells 1 2 3 with the weights w under Nearest, origin 0
--   squared f o      f of the rows 1 2 / 3 4 with the kernel 1 0 / 0 10 under Nearest, origin o
--   nearly           the float weights 1, 2, 1 + 2^−52
--   box_shape, box_levels   a box of 2 by 3 by 2 levels, for rows on three axes here and in the crates above
--   in_box f w        f of the box along each axis with the weights w under Nearest, origin 0
--   odd m            an odd number as a float
--   in_odds f         f of a box of 2 by 2 by 2 odd floats along each axis with the weights 1 and 2 under Nearest
--   CorrelateSpecRows  the rows
use Rattle.std.specs.Prelude.{ℕ, ◌≡◌, true, false, List, [], ◌∷◌, ◌++◌, map, Float, ℤ, pos, negsuc, get_or}
use Rattle.std.specs.Float.{fin}
use Rattle.border.specs.Border.{Border, constant, along}
use Rattle.border.specs.declared.CellBorder.TheVariants.{Nearest}
use Rattle.numbers.specs.Rows.{wholes, minus}
use Rattle.symmetry_spec.specs.declared.SymmetryState.TheVariants.{NonSymmetric, Symmetric, AntiSymmetric}
use Rattle.correlate_spec.specs.Weighed.{whole_ops, float_ops, weighed_at, weighed_line}
use Rattle.correlate_spec.specs.WindowSum.{window_sum}
use Rattle.correlate_spec.specs.Correlated.{correlate1d_z, correlate1d_f}
use Rattle.correlate_spec.specs.Convolved.{meets, convolve1d_z, convolve1d_f}
use Rattle.correlate_spec.specs.Kernel.{sides_of, side_of_lem, correlate_z, convolve_z}
use Rattle.window_spec.specs.Window.{kernel_left, kernel_right}

abbrev pub line : List ℕ → List ℕ → ℕ → List ℤ
line w s n = weighed_line whole_ops NonSymmetric (wholes w) (wholes s) n

abbrev pub one : Float
one = fin false 1 (pos 0)

abbrev pub none : Float
none = fin false 0 (pos 0)

abbrev pub three : (Border ℤ → ℤ → List ℤ → List ℕ → ℕ → List ℤ → List ℤ) → List ℕ → List ℤ
three f w = f (along Nearest) (pos 0) (wholes w) (3 ∷ []) 0 (wholes (1 ∷ 2 ∷ 3 ∷ []))

abbrev pub squared : (Border ℤ → ℤ → List ℕ → List ℤ → List ℕ → List ℤ → List ℤ) → ℤ → List ℤ
squared f o = f (along Nearest) o (sides_of (2 ∷ 2 ∷ []) 2) (wholes (1 ∷ 0 ∷ 0 ∷ 10 ∷ [])) (2 ∷ 2 ∷ [])
    (wholes (1 ∷ 2 ∷ 3 ∷ 4 ∷ []))

abbrev pub nearly : List Float
nearly = one ∷ fin false 1 (pos 1) ∷ fin false 4503599627370497 (negsuc 51) ∷ []

abbrev pub box_shape : List ℕ
box_shape = 2 ∷ 3 ∷ 2 ∷ []

abbrev pub box_levels : List ℤ
box_levels = wholes (3 ∷ 1 ∷ 4 ∷ 1 ∷ 5 ∷ 9 ∷ 2 ∷ 6 ∷ 5 ∷ 3 ∷ 5 ∷ 8 ∷ [])

abbrev pub in_box : (Border ℤ → ℤ → List ℤ → List ℕ → ℕ → List ℤ → List ℤ) → List ℕ → List (List ℤ)
in_box f w = map (λ a. f (along Nearest) (pos 0) (wholes w) box_shape a box_levels) (0 ∷ 1 ∷ 2 ∷ [])

abbrev pub odd : ℕ → Float
odd m = fin false m (pos 0)

abbrev pub in_odds : (Border Float → ℤ → List Float → List ℕ → ℕ → List Float → List Float) → List (List Float)
in_odds f = map (λ a. f (along Nearest) (pos 0) (one ∷ fin false 1 (pos 1) ∷ []) (2 ∷ 2 ∷ 2 ∷ []) a
    (map odd (1 ∷ 3 ∷ 5 ∷ 7 ∷ 9 ∷ 11 ∷ 13 ∷ 15 ∷ []))) (0 ∷ 1 ∷ 2 ∷ [])

pub record CorrelateSpecRows : Type 0 where
  -- the line of T2, padded with the nearest cell
  pub padded : line (1 ∷ 2 ∷ 3 ∷ []) (1 ∷ 1 ∷ 2 ∷ 3 ∷ 3 ∷ []) 3 ≡ wholes (9 ∷ 14 ∷ 17 ∷ [])
  -- windows of three cells of 1 2 4 8: the first, the last, and one that passes the end
  pub window_sums_lem : map (window_sum (wholes (1 ∷ 2 ∷ 4 ∷ 8 ∷ [])) 3) (0 ∷ 1 ∷ 2 ∷ []) ≡ wholes (7 ∷ 14 ∷ 0 ∷ [])
  -- the three ways of summing: 1 2 1 and −1 5 1 on 3 7 4
  pub symmetric : weighed_at whole_ops Symmetric (wholes (1 ∷ 2 ∷ 1 ∷ [])) (wholes (3 ∷ 7 ∷ 4 ∷ [])) 0 ≡ pos 21
  pub anti : weighed_at whole_ops AntiSymmetric (minus 1 ∷ pos 5 ∷ pos 1 ∷ []) (wholes (3 ∷ 7 ∷ 4 ∷ [])) 0 ≡ pos 36
  -- T2 and T3: 1 2 3 with weights 1 2 3 and 1 10 under Nearest; one weight with an origin that is not read
  pub t2 : three correlate1d_z (1 ∷ 2 ∷ 3 ∷ []) ∷ three convolve1d_z (1 ∷ 2 ∷ 3 ∷ []) ∷ []
      ≡ wholes (9 ∷ 14 ∷ 17 ∷ []) ∷ wholes (7 ∷ 10 ∷ 15 ∷ []) ∷ []
  pub t3 : three correlate1d_z (1 ∷ 10 ∷ []) ∷ three convolve1d_z (1 ∷ 10 ∷ []) ∷ []
      ≡ wholes (11 ∷ 21 ∷ 32 ∷ []) ∷ wholes (12 ∷ 23 ∷ 33 ∷ []) ∷ []
  -- the same moved by origin 1, which a convolution negates
  pub moved : correlate1d_z (along Nearest) (pos 1) (wholes (1 ∷ 2 ∷ 3 ∷ [])) (3 ∷ []) 0 (wholes (1 ∷ 2 ∷ 3 ∷ []))
      ∷ convolve1d_z (along Nearest) (pos 1) (wholes (1 ∷ 2 ∷ 3 ∷ [])) (3 ∷ []) 0 (wholes (1 ∷ 2 ∷ 3 ∷ [])) ∷ []
      ≡ wholes (6 ∷ 9 ∷ 14 ∷ []) ∷ wholes (10 ∷ 15 ∷ 18 ∷ []) ∷ []
  pub one-weight : map (λ f. f (along Nearest) (pos 99) (wholes (4 ∷ [])) (3 ∷ []) 0 (wholes (1 ∷ 2 ∷ 3 ∷ [])))
      (correlate1d_z ∷ convolve1d_z ∷ []) ≡ wholes (4 ∷ 8 ∷ 12 ∷ []) ∷ wholes (4 ∷ 8 ∷ 12 ∷ []) ∷ []
  -- the cells that weights 0 to 2 of 3 meet for cell 5, and weights 0 and 1 of 2 with origin −1
  pub met : map (meets 3 (pos 0) 5) (0 ∷ 1 ∷ 2 ∷ []) ++ map (meets 2 (minus 1) 5) (0 ∷ 1 ∷ [])
      ≡ wholes (6 ∷ 5 ∷ 4 ∷ []) ++ wholes (5 ∷ 4 ∷ [])
  -- three axes, as SciPy answers: along each axis of the box 1 10 100, and 1 10 convolved
  pub box_correlated : in_box correlate1d_z (1 ∷ 10 ∷ 100 ∷ [])
      ≡ wholes (233 ∷ 611 ∷ 544 ∷ 311 ∷ 555 ∷ 899 ∷ 223 ∷ 661 ∷ 554 ∷ 331 ∷ 555 ∷ 889 ∷ [])
      ∷ wholes (433 ∷ 111 ∷ 543 ∷ 911 ∷ 554 ∷ 991 ∷ 522 ∷ 366 ∷ 552 ∷ 836 ∷ 555 ∷ 883 ∷ [])
      ∷ wholes (133 ∷ 113 ∷ 144 ∷ 114 ∷ 955 ∷ 995 ∷ 622 ∷ 662 ∷ 355 ∷ 335 ∷ 855 ∷ 885 ∷ []) ∷ []
  pub box_convolved : in_box convolve1d_z (1 ∷ 10 ∷ [])
      ≡ wholes (32 ∷ 16 ∷ 45 ∷ 13 ∷ 55 ∷ 98 ∷ 22 ∷ 66 ∷ 55 ∷ 33 ∷ 55 ∷ 88 ∷ [])
      ∷ wholes (34 ∷ 11 ∷ 45 ∷ 19 ∷ 55 ∷ 99 ∷ 25 ∷ 63 ∷ 55 ∷ 38 ∷ 55 ∷ 88 ∷ [])
      ∷ wholes (31 ∷ 11 ∷ 41 ∷ 11 ∷ 59 ∷ 99 ∷ 26 ∷ 66 ∷ 53 ∷ 33 ∷ 58 ∷ 88 ∷ []) ∷ []
  -- the same of floats, 1 and 2 on the box of odd numbers
  pub odds_correlated : in_odds correlate1d_f
      ≡ map odd (3 ∷ 9 ∷ 15 ∷ 21 ∷ 19 ∷ 25 ∷ 31 ∷ 37 ∷ [])
      ∷ map odd (3 ∷ 9 ∷ 11 ∷ 17 ∷ 27 ∷ 33 ∷ 35 ∷ 41 ∷ [])
      ∷ map odd (3 ∷ 7 ∷ 15 ∷ 19 ∷ 27 ∷ 31 ∷ 39 ∷ 43 ∷ []) ∷ []
  pub odds_convolved : in_odds convolve1d_f
      ≡ map odd (11 ∷ 17 ∷ 23 ∷ 29 ∷ 27 ∷ 33 ∷ 39 ∷ 45 ∷ [])
      ∷ map odd (7 ∷ 13 ∷ 15 ∷ 21 ∷ 31 ∷ 37 ∷ 39 ∷ 45 ∷ [])
      ∷ map odd (5 ∷ 9 ∷ 17 ∷ 21 ∷ 29 ∷ 33 ∷ 41 ∷ 45 ∷ []) ∷ []
  -- floats 0, 0, 1 under weights 1, 2, 1 + 2^−52 and Constant 0: cell 1 of the correlation is exactly 1, of the
  -- convolution 1 + 2^−52
  pub float : get_or (correlate1d_f (constant none) (pos 0) nearly (3 ∷ []) 0 (none ∷ none ∷ one ∷ [])) 1 none
      ∷ get_or (convolve1d_f (constant none) (pos 0) nearly (3 ∷ []) 0 (none ∷ none ∷ one ∷ [])) 1 none ∷ []
      ≡ one ∷ fin false 4503599627370497 (negsuc 51) ∷ []
  -- floats 0, 0, 1 under weights 1, 2, 1 + 2^−52, taken as Symmetric: exactly 1; the right weight is not read
  pub near : weighed_at float_ops Symmetric (one ∷ fin false 1 (pos 1) ∷ fin false 4503599627370497 (negsuc 51) ∷ [])
      (none ∷ none ∷ one ∷ []) 0 ≡ one
  -- a plain sum starts from 0.0, one by pairs from its middle term: of the cell −0.0 under the weight 1, 0.0 and −0.0
  pub from_zero : weighed_at float_ops NonSymmetric (one ∷ []) (fin true 0 (pos 0) ∷ []) 0 ≡ none
  pub from_middle : weighed_at float_ops Symmetric (one ∷ []) (fin true 0 (pos 0) ∷ []) 0 ≡ fin true 0 (pos 0)
  -- the shape of a kernel, its side, and its pads: of side 2 with origins 0 and −1, of side 3 with origin 1
  pub sides : sides_of (4 ∷ 5 ∷ []) 2 ≡ 2 ∷ 2 ∷ []
  pub side : side_of_lem (2 ∷ 3 ∷ []) ∷ side_of_lem [] ∷ [] ≡ 2 ∷ 1 ∷ []
  pub left_pads : kernel_left 2 (pos 0) ∷ kernel_left 2 (minus 1) ∷ kernel_left 3 (pos 1) ∷ [] ≡ 1 ∷ 0 ∷ 2 ∷ []
  pub right_pads : kernel_right 2 (pos 0) ∷ kernel_right 2 (minus 1) ∷ kernel_right 3 (pos 1) ∷ [] ≡ 1 ∷ 2 ∷ 0 ∷ []
  -- T8, and its convolution: each cell 10 times, and the cell below and to the right of it
  pub t8 : squared correlate_z (pos 0) ∷ squared convolve_z (pos 0) ∷ []
      ≡ wholes (11 ∷ 21 ∷ 31 ∷ 41 ∷ []) ∷ wholes (14 ∷ 24 ∷ 34 ∷ 44 ∷ []) ∷ []
  -- the same with origin −1: no pad on the left, and one
  pub no_left : squared correlate_z (minus 1) ∷ squared convolve_z (minus 1) ∷ []
      ≡ wholes (41 ∷ 42 ∷ 43 ∷ 44 ∷ []) ∷ wholes (11 ∷ 12 ∷ 13 ∷ 14 ∷ []) ∷ []
  -- three axes, 2 by 1 by 2 cells: the constant 10 stands wherever one coordinate is outside
  pub three_axes : correlate_z (constant (pos 10)) (pos 0) (sides_of (2 ∷ 1 ∷ 2 ∷ []) 2)
      (wholes (1 ∷ 2 ∷ 3 ∷ 4 ∷ 5 ∷ 6 ∷ 7 ∷ 8 ∷ [])) (2 ∷ 1 ∷ 2 ∷ []) (wholes (1 ∷ 2 ∷ 3 ∷ 4 ∷ []))
      ≡ wholes (288 ∷ 233 ∷ 268 ∷ 204 ∷ [])
  -- the box, as SciPy answers: the kernel 1 to 8 under Constant 10, correlated and convolved
  pub box_kernels : map (λ f. f (constant (pos 10)) (pos 0) (sides_of box_shape 2)
      (wholes (1 ∷ 2 ∷ 3 ∷ 4 ∷ 5 ∷ 6 ∷ 7 ∷ 8 ∷ [])) box_shape box_levels) (correlate_z ∷ convolve_z ∷ [])
      ≡ wholes (304 ∷ 239 ∷ 270 ∷ 157 ∷ 284 ∷ 233 ∷ 268 ∷ 215 ∷ 234 ∷ 126 ∷ 258 ∷ 199 ∷ [])
      ∷ wholes (99 ∷ 204 ∷ 161 ∷ 250 ∷ 287 ∷ 344 ∷ 203 ∷ 286 ∷ 231 ∷ 292 ∷ 306 ∷ 344 ∷ []) ∷ []
  -- one weight
  pub one_cell : correlate_z (along Nearest) (pos 0) (sides_of (2 ∷ 2 ∷ []) 1) (wholes (7 ∷ [])) (2 ∷ 2 ∷ [])
      (wholes (1 ∷ 2 ∷ 3 ∷ 4 ∷ [])) ≡ wholes (7 ∷ 14 ∷ 21 ∷ 28 ∷ [])
