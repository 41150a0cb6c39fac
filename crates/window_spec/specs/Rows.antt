-- Worked rows of this crate's definitions. Each holds by computing.
--   axis_pads len origin        the answer for a window along one axis
--   kernel_pads side origin     the answer for a grid kernel
--   WindowSpecRows                 the rows
use Rattle.std.specs.Prelude.{ℕ, ◌-◌, ◌/◌, ◌^◌, ◌≡◌, true, false, [], ◌∷◌, ◌++◌, map, ℤ, pos}
use Rattle.numbers.specs.Rows.{minus}
use Rattle.window_spec.specs.Origin.{bad_origin, origin_pads, refusal_of_origin}
use Rattle.border.specs.Border.{along}
use Rattle.border.specs.declared.CellBorder.TheVariants.{Mirror, Reflect, Wrap}
use Rattle.window_spec.specs.Window.{bad_size, bad_window_origin, bad_reach, bad_kernel_reach, changed_origin, applied_origin}
use Rattle.window_spec.specs.declared.Origin.{Origin}
use Rattle.window_spec.specs.declared.Origin.TheVariants.{Pads, Refused}

abbrev pub axis_pads : ℕ → ℤ → Origin
axis_pads len origin = origin_pads len (len / 2) (len - len / 2 - 1) origin

abbrev pub kernel_pads : ℕ → ℤ → Origin
kernel_pads side origin = origin_pads side (side / 2) (side / 2) origin

pub record WindowSpecRows : Type 0 where
  -- origins at the limits of lengths 0, 1, 2, 4, 5 and 2^64 − 1
  pub origins_none : map (bad_origin 0) (minus 1 ∷ pos 0 ∷ pos 1 ∷ []) ≡ true ∷ true ∷ true ∷ []
  pub origins_one : map (bad_origin 1) (minus 1 ∷ pos 0 ∷ pos 1 ∷ []) ≡ true ∷ false ∷ true ∷ []
  pub origins_two : map (bad_origin 2) (minus 2 ∷ minus 1 ∷ pos 0 ∷ pos 1 ∷ []) ≡ true ∷ false ∷ false ∷ true ∷ []
  pub origins_four : map (bad_origin 4) (minus 3 ∷ minus 2 ∷ pos 1 ∷ pos 2 ∷ []) ≡ true ∷ false ∷ false ∷ true ∷ []
  pub origins_five : map (bad_origin 5) (minus 3 ∷ minus 2 ∷ pos 2 ∷ pos 3 ∷ []) ≡ true ∷ false ∷ false ∷ true ∷ []
  pub origins_long : map (bad_origin (2 ^ 64 - 1)) (minus (2 ^ 63) ∷ minus (2 ^ 63 - 1) ∷ pos (2 ^ 63 - 1) ∷ [])
      ≡ true ∷ false ∷ false ∷ []
  -- pads of a window of 1, 4 and 5 cells, and of kernels with sides of 2 and 3
  pub axis_pads_lem : axis_pads 1 (pos 0) ∷ axis_pads 4 (minus 2) ∷ axis_pads 4 (pos 1) ∷ axis_pads 4 (pos 2)
      ∷ axis_pads 5 (minus 2) ∷ axis_pads 5 (pos 2) ∷ []
      ≡ Pads 0 0 ∷ Pads 0 3 ∷ Pads 3 0 ∷ Refused ∷ Pads 0 4 ∷ Pads 4 0 ∷ []
  pub kernel_pads_two : map (kernel_pads 2) (minus 2 ∷ minus 1 ∷ pos 0 ∷ pos 1 ∷ [])
      ≡ Refused ∷ Pads 0 2 ∷ Pads 1 1 ∷ Refused ∷ []
  pub kernel_pads_three : map (kernel_pads 3) (minus 1 ∷ pos 0 ∷ pos 1 ∷ pos 2 ∷ [])
      ≡ Pads 0 2 ∷ Pads 1 1 ∷ Pads 2 0 ∷ Refused ∷ []
  pub refusals : map refusal_of_origin (axis_pads 4 (pos 1) ∷ axis_pads 4 (pos 2) ∷ axis_pads 0 (pos 0) ∷ [])
      ≡ 0 ∷ 7 ∷ 7 ∷ []
  -- 5 at its limits
  pub sizes : map bad_size (0 ∷ 1 ∷ 65 ∷ 66 ∷ []) ≡ true ∷ false ∷ false ∷ true ∷ []
  -- 7 where it is read: length 4 takes origins −2 and 1, and neither −3 nor 2; length 1 passes with origin 99
  pub origins : map (bad_window_origin 4) (minus 2 ∷ pos 1 ∷ minus 3 ∷ pos 2 ∷ []) ≡ false ∷ false ∷ true ∷ true ∷ []
  pub origin_alone : bad_window_origin 1 (pos 99) ≡ false
  -- 11 of three cells: Mirror takes length 5 and refuses 7, Reflect takes 7 and refuses 9; length 4 with origin −2
  -- needs 0 and 3 places
  pub reaches_mirror : map (λ size. bad_reach {A = ℤ} (along Mirror) size (pos 0) 3) (5 ∷ 7 ∷ []) ≡ false ∷ true ∷ []
  pub reaches_reflect : map (λ size. bad_reach {A = ℤ} (along Reflect) size (pos 0) 3) (7 ∷ 9 ∷ []) ≡ false ∷ true ∷ []
  pub reach-right : map (λ m. bad_reach {A = ℤ} (along m) 4 (minus 2) 3) (Mirror ∷ Reflect ∷ []) ≡ true ∷ false ∷ []
  -- one cell needs no pad, whatever its origin
  pub reach-alone : bad_reach {A = ℤ} (along Mirror) 1 (pos 99) 1 ≡ false
  -- 11 of a kernel of side 2 on one cell under Wrap: as it is laid with origin 0, and as a convolution changes that
  pub kernel_reach : map (λ o. bad_kernel_reach {A = ℤ} (along Wrap) 2 o (1 ∷ [])) (pos 0 ∷ minus 1 ∷ [])
      ≡ false ∷ true ∷ []
  -- and of side 3 under Mirror on two cells by two, one by two, two by one
  pub kernel_axes : map (bad_kernel_reach {A = ℤ} (along Mirror) 3 (pos 0))
      ((2 ∷ 2 ∷ []) ∷ (1 ∷ 2 ∷ []) ∷ (2 ∷ 1 ∷ []) ∷ []) ≡ false ∷ true ∷ true ∷ []
  -- the changed origin of 3 and of 4 weights, and the caller's own
  pub changed : map (changed_origin 3) (pos 1 ∷ minus 1 ∷ []) ++ map (changed_origin 4) (pos 1 ∷ minus 2 ∷ [])
      ≡ minus 1 ∷ pos 1 ∷ minus 2 ∷ pos 1 ∷ []
  pub applied : applied_origin true 4 (pos 1) ∷ applied_origin false 4 (pos 1) ∷ [] ≡ minus 2 ∷ pos 1 ∷ []
