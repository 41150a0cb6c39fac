-- Worked rows of this crate's definitions: each number at its limits. Each holds by computing.
--   plane b o sides w convolution   the number of a call on the rows 1 2 / 3 4
--   ones n                     n weights of 1
--   lane b o side n convolution     the number of a call on n cells of one axis, with a kernel of side ones
--   KernelRows            the rows
use Rattle.std.specs.Prelude.{ℕ, ◌-◌, ◌^◌, ◌≡◌, Bool, true, false, List, [], ◌∷◌, map, ℤ, pos, replicate}
use Rattle.numbers.specs.Refusal.{refusal_of}
use Rattle.numbers.specs.Rows.{minus, wholes}
use Rattle.border.specs.Border.{Border, constant, along}
use Rattle.border.specs.declared.CellBorder.TheVariants.{Nearest, Mirror, Reflect, Wrap}
use Rattle.correlate_judge_spec.specs.WeightRows.{both}
use Rattle.correlate_judge_spec.specs.KernelJudge.{bad_kernel, bad_kernel_sums, kernel_judged}

abbrev pub plane : Border ℤ → ℤ → List ℕ → List ℤ → Bool → ℕ
plane b o sides w convolution = refusal_of (kernel_judged convolution b o sides w (2 ∷ 2 ∷ [])
    (wholes (1 ∷ 2 ∷ 3 ∷ 4 ∷ [])) 4)

abbrev pub ones : ℕ → List ℤ
ones n = replicate n (pos 1)

abbrev pub lane : Border ℤ → ℤ → ℕ → ℕ → Bool → ℕ
lane b o side n convolution = refusal_of (kernel_judged convolution b o (side ∷ []) (ones side) (n ∷ []) (ones n) n)

pub record KernelRows : Type 0 where
  -- 5: unequal sides; a side of 0, 7, 8 and 2^64 − 1; one axis and three on a grid of two; none at all; too few weights
  -- and too many
  pub unequal : plane (along Nearest) (pos 0) (2 ∷ 3 ∷ []) (ones 6) false
      ∷ plane (along Nearest) (pos 0) (3 ∷ 2 ∷ []) (ones 6) true ∷ [] ≡ 5 ∷ 5 ∷ []
  pub sides : map (λ side. lane (along Nearest) (pos 0) side 1 false) (0 ∷ 1 ∷ 7 ∷ 8 ∷ []) ≡ 5 ∷ 0 ∷ 0 ∷ 5 ∷ []
  pub long_side : bad_kernel (2 ∷ 2 ∷ []) ((2 ^ 64 - 1) ∷ (2 ^ 64 - 1) ∷ []) 1 ≡ true
  pub axes : plane (along Nearest) (pos 0) (2 ∷ []) (ones 2) false
      ∷ plane (along Nearest) (pos 0) (1 ∷ 1 ∷ 1 ∷ []) (ones 1) false ∷ [] ≡ 5 ∷ 5 ∷ []
  pub no_axes : both (plane (along Nearest) (pos 0) [] (ones 1)) ≡ 5 ∷ 5 ∷ []
  pub counts : map (λ k. plane (along Nearest) (pos 0) (2 ∷ 2 ∷ []) (ones k) false) (0 ∷ 3 ∷ 4 ∷ 5 ∷ [])
      ≡ 5 ∷ 5 ∷ 0 ∷ 5 ∷ []
  -- 6: the last weight
  pub weights : map (λ z. plane (along Nearest) (pos 0) (2 ∷ 2 ∷ []) (pos 1 ∷ pos 1 ∷ pos 1 ∷ z ∷ []) true)
      (minus 65536 ∷ minus 65535 ∷ pos 65535 ∷ pos 65536 ∷ []) ≡ 6 ∷ 0 ∷ 0 ∷ 6 ∷ []
  -- 7: of sides of 1, 2 and 3; −2^63
  pub one-cell_origins : map (λ o. both (plane (along Nearest) o (1 ∷ 1 ∷ []) (ones 1))) (minus 1 ∷ pos 0 ∷ pos 1 ∷ [])
      ≡ (7 ∷ 7 ∷ []) ∷ (0 ∷ 0 ∷ []) ∷ (7 ∷ 7 ∷ []) ∷ []
  pub even_origins : map (λ o. both (plane (along Nearest) o (2 ∷ 2 ∷ []) (ones 4)))
      (minus 2 ∷ minus 1 ∷ pos 0 ∷ pos 1 ∷ []) ≡ (7 ∷ 7 ∷ []) ∷ (0 ∷ 0 ∷ []) ∷ (0 ∷ 0 ∷ []) ∷ (7 ∷ 7 ∷ []) ∷ []
  pub odd_origins : map (λ o. both (plane (along Nearest) o (3 ∷ 3 ∷ []) (ones 9)))
      (minus 2 ∷ minus 1 ∷ pos 1 ∷ pos 2 ∷ []) ≡ (7 ∷ 7 ∷ []) ∷ (0 ∷ 0 ∷ []) ∷ (0 ∷ 0 ∷ []) ∷ (7 ∷ 7 ∷ []) ∷ []
  pub least_origin : both (plane (along Nearest) (minus (2 ^ 63)) (2 ∷ 2 ∷ []) (ones 4)) ≡ 7 ∷ 7 ∷ []
  -- 11: two weights on one cell under Wrap. The convolution's pads are 0 and 2, of which it reads one cell; with origin
  -- −1 it is the correlation's
  pub laid : map (λ o. both (lane (along Wrap) o 2 1)) (pos 0 ∷ minus 1 ∷ []) ≡ (0 ∷ 11 ∷ []) ∷ (11 ∷ 0 ∷ []) ∷ []
  -- Mirror, Reflect and Wrap at their limits: pads of 2 and of 3; an axis of one cell
  pub mirror : map (λ n. both (lane (along Mirror) (pos 0) 5 n)) (2 ∷ 3 ∷ []) ≡ (11 ∷ 11 ∷ []) ∷ (0 ∷ 0 ∷ []) ∷ []
  pub reflect : map (λ n. both (lane (along Reflect) (pos 0) 5 n)) (1 ∷ 2 ∷ []) ≡ (11 ∷ 11 ∷ []) ∷ (0 ∷ 0 ∷ []) ∷ []
  pub wrap : map (λ n. both (lane (along Wrap) (pos 0) 7 n)) (2 ∷ 3 ∷ []) ≡ (11 ∷ 11 ∷ []) ∷ (0 ∷ 0 ∷ []) ∷ []
  pub one_cell : both (lane (along Mirror) (pos 0) 1 1) ≡ 0 ∷ 0 ∷ []
  -- 5 before 6 before 7 before 9 before 11
  pub kernel_first : both (plane (constant (pos (2 ^ 31))) (pos 9) (2 ∷ 3 ∷ []) (pos 65536 ∷ [])) ≡ 5 ∷ 5 ∷ []
  pub weight-first : both (plane (constant (pos (2 ^ 31))) (pos 9) (1 ∷ 1 ∷ []) (pos 65536 ∷ [])) ≡ 6 ∷ 6 ∷ []
  pub origin_first : both (plane (constant (pos (2 ^ 31))) (pos 9) (1 ∷ 1 ∷ []) (ones 1)) ≡ 7 ∷ 7 ∷ []
  pub constant_out : both (plane (constant (pos (2 ^ 31))) (pos 0) (1 ∷ 1 ∷ []) (ones 1)) ≡ 9 ∷ 9 ∷ []
  pub origin_before-reach : both (plane (along Mirror) (pos 3) (5 ∷ 5 ∷ []) (ones 25))
      ∷ both (plane (along Mirror) (pos 0) (5 ∷ 5 ∷ []) (ones 25)) ∷ [] ≡ (7 ∷ 7 ∷ []) ∷ (11 ∷ 11 ∷ []) ∷ []
  -- 12, of weights and levels that 3 and 6 refuse: 2^31 and −2^31 times 2^32
  pub sums : map (λ x. bad_kernel_sums false (along Nearest) (pos 0) (1 ∷ []) (pos (2 ^ 32) ∷ []) (1 ∷ []) (x ∷ []))
      (pos (2 ^ 31) ∷ minus (2 ^ 31) ∷ []) ≡ true ∷ false ∷ []
  -- 1, 2 and 3 come first
  pub grids : refusal_of (kernel_judged true (along Nearest) (pos 9) [] [] [] [] 0)
      ∷ refusal_of (kernel_judged true (along Nearest) (pos 9) [] [] (1 ∷ []) (ones 1) 2)
      ∷ refusal_of (kernel_judged true (along Nearest) (pos 9) [] [] (1 ∷ []) (pos (2 ^ 31) ∷ []) 1) ∷ [] ≡ 1 ∷ 2 ∷ 3 ∷ []
