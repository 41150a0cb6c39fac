-- Worked rows of this crate's definitions: each number at its limits, whole and float. Each holds by computing.
--   three b o w a convolution    the number of a call on the cells 1 2 3, whole
--   both f                  a correlation and a convolution
--   least                   −2^63
--   plus                    1.0
--   single b o w convolution x   the number of a call on the one float x
--   WeightRows      the rows
use Rattle.std.specs.Prelude.{ℕ, ◌^◌, ◌≡◌, Bool, true, false, List, [], ◌∷◌, map, Float, ℤ, pos, replicate}
use Rattle.std.specs.Float.{nan, inf, fin}
use Rattle.numbers.specs.Refusal.{refusal_of}
use Rattle.numbers.specs.Rows.{minus, wholes}
use Rattle.border.specs.Border.{Border, constant, along}
use Rattle.border.specs.declared.CellBorder.TheVariants.{Nearest, Mirror, Reflect, Wrap}
use Rattle.correlate_judge_spec.specs.Judge.{bad_weight, bad_correlate_sums, correlate_judged, correlate_judged_f}
use Rattle.window_spec.specs.Window.{applied_origin}

abbrev pub three : Border ℤ → ℤ → List ℤ → ℕ → Bool → ℕ
three b o w a convolution = refusal_of (correlate_judged convolution b o w (3 ∷ []) a (wholes (1 ∷ 2 ∷ 3 ∷ [])) 3)

abbrev pub both : (Bool → ℕ) → List ℕ
both f = f false ∷ f true ∷ []

abbrev pub least : ℤ
least = minus (2 ^ 63)

abbrev pub plus : Float
plus = fin false 1 (pos 0)

abbrev pub single : Border Float → ℤ → List Float → Bool → Float → ℕ
single b o w convolution x = refusal_of (correlate_judged_f convolution b o w (1 ∷ []) 0 (x ∷ []) 1)

pub record WeightRows : Type 0 where
  -- 5: 0, 65 and 66 weights
  pub counts : map (λ k. three (along Nearest) (pos 0) (replicate k (pos 1)) 0 false) (0 ∷ 65 ∷ 66 ∷ [])
      ≡ 5 ∷ 0 ∷ 5 ∷ []
  -- 6: −65,536, −65,535, 65,535, 65,536, alone and as the last weight
  pub weights : map bad_weight (minus 65536 ∷ minus 65535 ∷ pos 65535 ∷ pos 65536 ∷ [])
      ≡ true ∷ false ∷ false ∷ true ∷ []
  pub last-weight : map (λ z. three (along Nearest) (pos 0) (pos 1 ∷ z ∷ []) 0 true)
      (minus 65536 ∷ minus 65535 ∷ pos 65535 ∷ pos 65536 ∷ []) ≡ 6 ∷ 0 ∷ 0 ∷ 6 ∷ []
  -- 7: of 4 weights origins −2 and 1 pass, −3 and 2 do not, −2^63 does not; one weight passes with origin 99
  pub origins : map (λ o. three (along Reflect) o (replicate 4 (pos 1)) 0 true) (minus 2 ∷ pos 1 ∷ minus 3 ∷ pos 2 ∷ [])
      ≡ 0 ∷ 0 ∷ 7 ∷ 7 ∷ []
  pub least_origin : both (three (along Nearest) least (replicate 3 (pos 1)) 0) ≡ 7 ∷ 7 ∷ []
  pub origin_alone : both (three (along Nearest) (pos 99) (pos 4 ∷ []) 0) ≡ 0 ∷ 0 ∷ []
  -- the applied origin of 3 and of 4 weights
  pub applied : applied_origin true 3 (pos 1) ∷ applied_origin true 4 (pos 1) ∷ applied_origin true 4 (minus 2)
      ∷ applied_origin false 4 (pos 1) ∷ [] ≡ minus 1 ∷ minus 2 ∷ pos 1 ∷ pos 1 ∷ []
  -- 6 before 7 before 8 before 9; 7 and 8 before 11; 8 with one weight
  pub weight-first : both (three (constant (pos (2 ^ 31))) (pos 9) (pos 1 ∷ pos 65536 ∷ []) 1) ≡ 6 ∷ 6 ∷ []
  pub origin_first : both (three (constant (pos (2 ^ 31))) (pos 9) (wholes (1 ∷ 2 ∷ [])) 1) ≡ 7 ∷ 7 ∷ []
  pub axis-first : both (three (constant (pos (2 ^ 31))) (pos 0) (wholes (1 ∷ 2 ∷ [])) 1) ≡ 8 ∷ 8 ∷ []
  pub constant_out : both (three (constant (pos (2 ^ 31))) (pos 0) (wholes (1 ∷ 2 ∷ [])) 0) ≡ 9 ∷ 9 ∷ []
  pub origin_before-reach : both (three (along Mirror) (pos 4) (replicate 7 (pos 1)) 0) ≡ 7 ∷ 7 ∷ []
  pub axis-before-reach : both (three (along Mirror) (pos 0) (replicate 7 (pos 1)) 1) ≡ 8 ∷ 8 ∷ []
  pub axis-alone : both (three (along Mirror) (pos 0) (pos 1 ∷ []) 1) ≡ 8 ∷ 8 ∷ []
  -- 11: Mirror on three cells takes 5 weights and refuses 7
  pub reaches : map (λ k. both (three (along Mirror) (pos 0) (replicate k (pos 1)) 0)) (5 ∷ 7 ∷ [])
      ≡ (0 ∷ 0 ∷ []) ∷ (11 ∷ 11 ∷ []) ∷ []
  -- two weights on one cell under Wrap, origins 0 and −1; under Mirror
  pub one_cell : map (λ o. refusal_of (correlate_judged true (along Wrap) o (wholes (1 ∷ 2 ∷ [])) (1 ∷ []) 0
      (wholes (5 ∷ [])) 1)) (pos 0 ∷ minus 1 ∷ []) ≡ 0 ∷ 0 ∷ []
  pub one-cell_mirror : refusal_of (correlate_judged true (along Mirror) (pos 0) (wholes (1 ∷ 2 ∷ [])) (1 ∷ []) 0
      (wholes (5 ∷ [])) 1) ≡ 11
  -- 12, of weights and levels that 3 and 6 refuse: 2^31 and −2^31 times 2^32
  pub sums : map (λ x. bad_correlate_sums false (along Nearest) (pos 0) (pos (2 ^ 32) ∷ []) (1 ∷ []) 0 (x ∷ []))
      (pos (2 ^ 31) ∷ minus (2 ^ 31) ∷ []) ≡ true ∷ false ∷ []
  -- 1, 2 and 3 come first
  pub grids : refusal_of (correlate_judged true (along Nearest) (pos 9) [] [] 9 [] 0)
      ∷ refusal_of (correlate_judged true (along Nearest) (pos 9) [] (3 ∷ []) 9 (wholes (1 ∷ 2 ∷ 3 ∷ [])) 4)
      ∷ refusal_of (correlate_judged true (along Nearest) (pos 9) [] (1 ∷ []) 9 (pos (2 ^ 31) ∷ []) 1) ∷ []
      ≡ 1 ∷ 2 ∷ 3 ∷ []
  -- floats: a NaN, an infinity and −0.0 as level; both infinities and a NaN as weight; a NaN as constant; −2^63 as
  -- origin; Mirror with 3 weights on one cell
  pub levels : map (single (along Nearest) (pos 0) (plus ∷ []) false) (nan ∷ inf true ∷ fin true 0 (pos 0) ∷ [])
      ≡ 3 ∷ 3 ∷ 0 ∷ []
  pub float_weights : map (λ y. single (along Nearest) (pos 0) (plus ∷ y ∷ []) true plus)
      (inf false ∷ inf true ∷ nan ∷ fin true 0 (pos 0) ∷ []) ≡ 6 ∷ 6 ∷ 6 ∷ 0 ∷ []
  pub float_constant : map (λ y. single (constant y) (pos 0) (plus ∷ plus ∷ []) true plus)
      (nan ∷ fin true 0 (pos 0) ∷ []) ≡ 9 ∷ 0 ∷ []
  pub float_origin : both (λ t. single (along Nearest) least (plus ∷ plus ∷ []) t plus) ≡ 7 ∷ 7 ∷ []
  pub float-reach : both (λ t. single (along Mirror) (pos 0) (plus ∷ plus ∷ plus ∷ []) t plus) ≡ 11 ∷ 11 ∷ []
