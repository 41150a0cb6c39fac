-- Worked rows of this crate's definitions: T7 and each number at its limits. Each holds by computing.
--   square              the rows 1 2 / 3 4
--   each s              the borders of axes 0, 1 and so on
--   on_square w b a      the gradient of the square along axis a, smoothed by w; b is the border of every axis
--   box w b a           the same of 2 by 1 by 2 cells, 1 2 3 4
--   on_wide w bs         the gradients of the rows 1 2 4 / 8 3 5 along both axes, smoothed by w
--   in_box w bs          those of the box of 2 by 3 by 2 levels along its three axes
--   number bs ns a      the number of a Sobel call on the levels of the square, laid out as ns, along axis a
--   number_on b a        that of the square, with one border for every axis
--   GradientSpecRows    the rows
use Rattle.std.specs.Prelude.{ℕ, ◌-◌, ◌^◌, ◌≡◌, true, false, List, [], ◌∷◌, map, ℤ, pos, get_or}
use Rattle.numbers.specs.Refusal.{refusal_of}
use Rattle.numbers.specs.Rows.{minus, wholes}
use Rattle.border.specs.Border.{Border, constant, along}
use Rattle.border.specs.declared.CellBorder.TheVariants.{Mirror, Nearest, Reflect, Wrap}
use Rattle.correlate_spec.specs.Rows.{box_shape, box_levels}
use Rattle.gradient_spec.specs.Gradient.{difference, prewitt_weights, sobel_weights, gradient_to, gradient}
use Rattle.gradient_spec.specs.Judge.{passes_judged, bad_gradient_sums, gradient_judged, ThreeSmall}

abbrev pub square : List ℤ
square = wholes (1 ∷ 2 ∷ 3 ∷ 4 ∷ [])

abbrev pub each : List (Border ℤ) → ℕ → Border ℤ
each s a = get_or s a (along Nearest)

abbrev pub on_square : List ℤ → Border ℤ → ℕ → List ℤ
on_square w b a = gradient w (λ _. b) (2 ∷ 2 ∷ []) a square

abbrev pub box : List ℤ → Border ℤ → ℕ → List ℤ
box w b a = gradient w (λ _. b) (2 ∷ 1 ∷ 2 ∷ []) a square

abbrev pub on_wide : List ℤ → (ℕ → Border ℤ) → List (List ℤ)
on_wide w bs = map (λ a. gradient w bs (2 ∷ 3 ∷ []) a (wholes (1 ∷ 2 ∷ 4 ∷ 8 ∷ 3 ∷ 5 ∷ []))) (0 ∷ 1 ∷ [])

abbrev pub in_box : List ℤ → (ℕ → Border ℤ) → List (List ℤ)
in_box w bs = map (λ a. gradient w bs box_shape a box_levels) (0 ∷ 1 ∷ 2 ∷ [])

abbrev pub number : (ℕ → Border ℤ) → List ℕ → ℕ → ℕ
number bs ns a = refusal_of (gradient_judged sobel_weights bs ns a square 4 4)

abbrev pub number_on : Border ℤ → ℕ → ℕ
number_on b a = number (λ _. b) (2 ∷ 2 ∷ []) a

pub record GradientSpecRows : Type 0 where
  -- the weights of every pass are three small ones
  pub weights : ThreeSmall difference × ThreeSmall prewitt_weights × ThreeSmall sobel_weights
  -- T7, Sobel along axis 0; the grid after the difference, and after axis 0, which is not smoothed
  pub t7_nearest : on_square sobel_weights (along Nearest) 0 ≡ wholes (8 ∷ 8 ∷ 8 ∷ 8 ∷ [])
  pub t7_constant : on_square sobel_weights (constant (pos 0)) 0 ≡ pos 10 ∷ pos 11 ∷ minus 4 ∷ minus 5 ∷ []
  pub t7_passes : map (gradient_to sobel_weights (λ _. constant (pos 0)) (2 ∷ 2 ∷ []) 0 square) (0 ∷ 1 ∷ [])
      ≡ (pos 3 ∷ pos 4 ∷ minus 1 ∷ minus 2 ∷ []) ∷ (pos 3 ∷ pos 4 ∷ minus 1 ∷ minus 2 ∷ []) ∷ []
  -- the same by Prewitt, and both along axis 1
  pub prewitt_nearest : on_square prewitt_weights (along Nearest) 0 ≡ wholes (6 ∷ 6 ∷ 6 ∷ 6 ∷ [])
  pub prewitt_constant : on_square prewitt_weights (constant (pos 0)) 0 ≡ pos 7 ∷ pos 7 ∷ minus 3 ∷ minus 3 ∷ []
  pub sobel_last : on_square sobel_weights (constant (pos 0)) 1 ≡ pos 8 ∷ minus 5 ∷ pos 10 ∷ minus 7 ∷ []
  pub prewitt_last : on_square prewitt_weights (constant (pos 0)) 1 ≡ pos 6 ∷ minus 4 ∷ pos 6 ∷ minus 4 ∷ []
  -- three axes: along the first, the middle one of one cell, and the last; each pass reads the constant 1 past its
  -- edges
  pub sobel_first : box sobel_weights (constant (pos 1)) 0 ≡ wholes (21 ∷ 23 ∷ 5 ∷ 3 ∷ [])
  pub prewitt_first : box prewitt_weights (constant (pos 1)) 0 ≡ wholes (10 ∷ 10 ∷ 4 ∷ 4 ∷ [])
  pub sobel_middle : box sobel_weights (constant (pos 1)) 1 ≡ wholes (4 ∷ 4 ∷ 4 ∷ 4 ∷ [])
  pub sobel_third : box sobel_weights (constant (pos 0)) 2 ≡ pos 16 ∷ minus 10 ∷ pos 20 ∷ minus 14 ∷ []
  -- three axes, as SciPy answers: the box of 2 by 3 by 2 levels along each axis under Nearest
  pub sobel_box : in_box sobel_weights (λ _. along Nearest)
      ≡ (pos 11 ∷ pos 49 ∷ pos 11 ∷ pos 25 ∷ pos 2 ∷ minus 2 ∷ pos 11 ∷ pos 49 ∷ pos 11 ∷ pos 25 ∷ pos 2 ∷ minus 2 ∷ [])
      ∷ (pos 15 ∷ minus 3 ∷ pos 53 ∷ pos 87 ∷ pos 38 ∷ pos 90 ∷ pos 21 ∷ minus 17 ∷ pos 47 ∷ pos 53 ∷ pos 26
      ∷ pos 70 ∷ [])
      ∷ (minus 17 ∷ minus 17 ∷ minus 9 ∷ minus 9 ∷ pos 34 ∷ pos 34 ∷ pos 21 ∷ pos 21 ∷ pos 5 ∷ pos 5 ∷ pos 30
      ∷ pos 30 ∷ []) ∷ []
  pub prewitt_box : in_box prewitt_weights (λ _. along Nearest)
      ≡ (pos 10 ∷ pos 23 ∷ pos 6 ∷ pos 12 ∷ pos 2 ∷ pos 1 ∷ pos 10 ∷ pos 23 ∷ pos 6 ∷ pos 12 ∷ pos 2 ∷ pos 1 ∷ [])
      ∷ (pos 7 ∷ minus 1 ∷ pos 32 ∷ pos 43 ∷ pos 25 ∷ pos 44 ∷ pos 8 ∷ minus 5 ∷ pos 28 ∷ pos 32 ∷ pos 20 ∷ pos 37 ∷ [])
      ∷ (minus 8 ∷ minus 8 ∷ pos 3 ∷ pos 3 ∷ pos 14 ∷ pos 14 ∷ pos 5 ∷ pos 5 ∷ pos 9 ∷ pos 9 ∷ pos 13
      ∷ pos 13 ∷ []) ∷ []
  -- a border for each axis, as SciPy answers: Constant 0 and Wrap on two axes; Constant 4, Mirror and Nearest on three
  pub sobel_mixed : on_wide sobel_weights (each (constant (pos 0) ∷ along Wrap ∷ []))
      ≡ (pos 24 ∷ pos 19 ∷ pos 21 ∷ minus 8 ∷ minus 9 ∷ minus 11 ∷ [])
      ∷ (minus 6 ∷ pos 3 ∷ pos 3 ∷ minus 6 ∷ minus 3 ∷ pos 9 ∷ []) ∷ []
  pub prewitt_mixed : on_wide prewitt_weights (each (constant (pos 0) ∷ along Wrap ∷ []))
      ≡ (pos 16 ∷ pos 16 ∷ pos 16 ∷ minus 7 ∷ minus 7 ∷ minus 7 ∷ [])
      ∷ (minus 4 ∷ pos 0 ∷ pos 4 ∷ minus 4 ∷ pos 0 ∷ pos 4 ∷ []) ∷ []
  pub sobel_box-mixed : in_box sobel_weights (each (constant (pos 4) ∷ along Mirror ∷ along Nearest ∷ []))
      ≡ (minus 4 ∷ pos 4 ∷ pos 7 ∷ pos 13 ∷ pos 18 ∷ pos 22 ∷ pos 18 ∷ pos 38 ∷ pos 4 ∷ pos 12 ∷ minus 10
      ∷ minus 14 ∷ [])
      ∷ wholes (16 ∷ 16 ∷ 55 ∷ 77 ∷ 16 ∷ 16 ∷ 16 ∷ 16 ∷ 52 ∷ 60 ∷ 16 ∷ 16 ∷ [])
      ∷ wholes (0 ∷ 0 ∷ 11 ∷ 11 ∷ 22 ∷ 22 ∷ 14 ∷ 14 ∷ 18 ∷ 18 ∷ 22 ∷ 22 ∷ []) ∷ []
  pub prewitt_box-mixed : in_box prewitt_weights (each (constant (pos 4) ∷ along Mirror ∷ along Nearest ∷ []))
      ≡ (pos 0 ∷ pos 0 ∷ pos 5 ∷ pos 10 ∷ pos 8 ∷ pos 7 ∷ pos 11 ∷ pos 19 ∷ pos 1 ∷ pos 2 ∷ minus 1 ∷ pos 1 ∷ [])
      ∷ wholes (12 ∷ 12 ∷ 32 ∷ 37 ∷ 12 ∷ 12 ∷ 12 ∷ 12 ∷ 32 ∷ 37 ∷ 12 ∷ 12 ∷ [])
      ∷ wholes (4 ∷ 4 ∷ 16 ∷ 16 ∷ 9 ∷ 9 ∷ 4 ∷ 4 ∷ 16 ∷ 16 ∷ 9 ∷ 9 ∷ []) ∷ []
  -- two constants, 5 and 9, which SciPy does not take
  pub sobel_constants : on_wide sobel_weights (each (constant (pos 5) ∷ constant (pos 9) ∷ []))
      ≡ (pos 13 ∷ minus 1 ∷ pos 7 ∷ pos 20 ∷ pos 11 ∷ pos 14 ∷ [])
      ∷ (minus 15 ∷ pos 8 ∷ pos 25 ∷ minus 14 ∷ pos 2 ∷ pos 24 ∷ []) ∷ []
  pub prewitt_constants : on_wide prewitt_weights (each (constant (pos 5) ∷ constant (pos 9) ∷ []))
      ≡ wholes (10 ∷ 1 ∷ 7 ∷ 16 ∷ 8 ∷ 13 ∷ []) ∷ (minus 8 ∷ pos 5 ∷ pos 18 ∷ minus 8 ∷ pos 5 ∷ pos 18 ∷ []) ∷ []
  -- one axis has nothing to smooth
  pub one-axis : gradient sobel_weights (λ _. along Nearest) (3 ∷ []) 0 (wholes (1 ∷ 2 ∷ 4 ∷ []))
      ∷ gradient prewitt_weights (λ _. along Mirror) (3 ∷ []) 0 (wholes (1 ∷ 2 ∷ 4 ∷ [])) ∷ []
      ≡ wholes (1 ∷ 3 ∷ 2 ∷ []) ∷ wholes (0 ∷ 3 ∷ 0 ∷ []) ∷ []
  -- 8: axis 2 of two axes; 9: Constant 2^31 and −(2^31 − 1); 8 before 9
  pub axes : map (number_on (along Nearest)) (0 ∷ 1 ∷ 2 ∷ []) ≡ 0 ∷ 0 ∷ 8 ∷ []
  pub constants : map (λ z. number_on (constant z) 1) (pos (2 ^ 31) ∷ minus (2 ^ 31 - 1) ∷ []) ≡ 9 ∷ 0 ∷ []
  pub axis-before_constant : number_on (constant (pos (2 ^ 31))) 2 ≡ 8
  -- 9 by the constant of the second axis alone, along either axis; not where there is one axis
  pub own_constants : map (number (each (along Nearest ∷ constant (pos (2 ^ 31)) ∷ [])) (2 ∷ 2 ∷ [])) (0 ∷ 1 ∷ [])
      ≡ 9 ∷ 9 ∷ []
  pub constant_past : number (each (along Nearest ∷ constant (pos (2 ^ 31)) ∷ [])) (4 ∷ []) 0 ≡ 0
  -- 11: Mirror with an axis of one cell, whichever axis is differenced; the other borders fill one cell; 8 before 11
  pub reaches : map (λ a. refusal_of (gradient_judged prewitt_weights (λ _. along Mirror) (4 ∷ 1 ∷ []) a square 4 4))
      (0 ∷ 1 ∷ 2 ∷ []) ≡ 11 ∷ 11 ∷ 8 ∷ []
  -- 11 by Mirror on the axis of one cell alone; not where the other axis alone has it
  pub own_reach : map (number (each (along Nearest ∷ along Mirror ∷ [])) (4 ∷ 1 ∷ [])) (0 ∷ 1 ∷ []) ≡ 11 ∷ 11 ∷ []
  pub other_reach : map (number (each (along Mirror ∷ along Nearest ∷ [])) (4 ∷ 1 ∷ [])) (0 ∷ 1 ∷ []) ≡ 0 ∷ 0 ∷ []
  pub filled : map (λ b. refusal_of (passes_judged (λ _. b) (4 ∷ 1 ∷ []) 0))
      (along Reflect ∷ along Wrap ∷ along Nearest ∷ constant (pos 0) ∷ []) ≡ 0 ∷ 0 ∷ 0 ∷ 0 ∷ []
  -- 1, 2 (the output or the second grid a cell short) and 3 come first
  pub grids : refusal_of (gradient_judged sobel_weights (λ _. along Mirror) [] 9 [] 0 0)
      ∷ refusal_of (gradient_judged sobel_weights (λ _. along Mirror) (2 ∷ 2 ∷ []) 9 square 3 4)
      ∷ refusal_of (gradient_judged sobel_weights (λ _. along Mirror) (2 ∷ 2 ∷ []) 9 square 4 3)
      ∷ refusal_of (gradient_judged sobel_weights (λ _. along Mirror) (1 ∷ []) 9 (pos (2 ^ 31) ∷ []) 1 1) ∷ []
      ≡ 1 ∷ 2 ∷ 2 ∷ 3 ∷ []
  -- 12, of levels that 3 refuses: the difference of 2^62 and −2^62, and of 2^62 − 1 and −2^62; smoothing by 1 2 1
  -- beyond it
  pub sums : map (λ z. bad_gradient_sums sobel_weights (λ _. along Nearest) (2 ∷ []) 0 (minus (2 ^ 62) ∷ z ∷ []))
      (pos (2 ^ 62) ∷ pos (2 ^ 62 - 1) ∷ []) ≡ true ∷ false ∷ []
  pub later_sums : bad_gradient_sums sobel_weights (λ _. along Nearest) (2 ∷ 1 ∷ []) 0
      (minus (2 ^ 62) ∷ pos (2 ^ 62 - 1) ∷ []) ≡ true
