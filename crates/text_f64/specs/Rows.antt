-- Worked rows about floats as text.
--   zeros n     n bytes `0`
--   TextF64Rows   the rows
use Rattle.std.specs.Prelude.{ℕ, zero, suc, ◌≡◌, true, false, List, [], ◌∷◌, ◌++◌, pos, negsuc, Some, None}
use Rattle.std.specs.Float.{nan, inf, fin}
use Rattle.text_f64.specs.Bits.{nan_text, float_of, float_text}

abbrev pub zeros : ℕ → List ℕ
zeros zero = []
zeros (suc n) = 48 ∷ zeros n

pub record TextF64Rows : Type 0 where
  -- 3ff0 .. is 1, 8000 .. is −0, 7ff0 .. is the infinity, 0000 .. 1 the least subnormal
  pub one : float_of (51 ∷ 102 ∷ 102 ∷ zeros 13) ≡ Some (fin false 1 (pos 0))
  pub minus_zero : float_of (56 ∷ zeros 15) ≡ Some (fin true 0 (pos 0))
  pub infinite : float_of (55 ∷ 102 ∷ 102 ∷ zeros 13) ≡ Some (inf false)
  pub extreme : float_of (zeros 15 ++ (49 ∷ [])) ≡ Some (fin false 1 (negsuc 1073))
  -- the bits of two NaNs, and nan
  pub quiet : float_of (55 ∷ 102 ∷ 102 ∷ 56 ∷ zeros 12) ≡ Some nan
  pub signed_nan : float_of (102 ∷ 102 ∷ 102 ∷ (zeros 12 ++ (49 ∷ []))) ≡ Some nan
  pub by_name : float_of nan_text ≡ Some nan
  -- 15 digits, 17 digits, an upper-case digit, nothing, naN
  pub short : float_of (51 ∷ zeros 14) ≡ None
  pub long : float_of (51 ∷ zeros 16) ≡ None
  pub upper : float_of (51 ∷ 70 ∷ zeros 14) ≡ None
  pub nothing : float_of [] ≡ None
  pub other_name : float_of (110 ∷ 97 ∷ 78 ∷ []) ≡ None
  pub one_text : float_text (fin false 1 (pos 0)) ≡ 51 ∷ 102 ∷ 102 ∷ zeros 13
  pub minus_zero_text : float_text (fin true 0 (pos 0)) ≡ 56 ∷ zeros 15
  pub nan_text_lem : float_text nan ≡ nan_text
