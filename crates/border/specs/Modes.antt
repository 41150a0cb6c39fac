-- What the program's border and padding modes mean.
--   border_of m             the border over whole levels that a BorderMode names
--   border_of_f64 m          the border over floats that a BorderModeF64 names
--   pad_mode_of m            the PadMode that pads as the border m does
--   kind_of m               the border over whole levels that reads what m reads; its constant is 0
--   bad_constant_by bad b    9: a constant that 3, the test bad of one level, would refuse
use Rattle.std.specs.Prelude.{Bool, false, Float, ℤ, pos}
use Rattle.border.specs.Border.{Border, constant, along}
use Rattle.border.specs.declared.CellBorder.TheVariants as CellBorder
use Rattle.border.specs.declared.BorderMode.{BorderMode}
use Rattle.border.specs.declared.BorderMode.TheVariants as Whole
use Rattle.border.specs.declared.BorderModeF64.{BorderModeF64}
use Rattle.border.specs.declared.BorderModeF64.TheVariants as F64
use Rattle.border.specs.declared.PadMode.{PadMode}
use Rattle.border.specs.declared.PadMode.TheVariants as Pad

abbrev pub border_of : BorderMode → Border ℤ
border_of (Whole.Constant c) = constant c
border_of Whole.Mirror = along CellBorder.Mirror
border_of Whole.Nearest = along CellBorder.Nearest
border_of Whole.Reflect = along CellBorder.Reflect
border_of Whole.Wrap = along CellBorder.Wrap

abbrev pub border_of_f64 : BorderModeF64 → Border Float
border_of_f64 (F64.Constant c) = constant c
border_of_f64 F64.Mirror = along CellBorder.Mirror
border_of_f64 F64.Nearest = along CellBorder.Nearest
border_of_f64 F64.Reflect = along CellBorder.Reflect
border_of_f64 F64.Wrap = along CellBorder.Wrap

abbrev pub pad_mode_of : BorderMode → PadMode
pad_mode_of (Whole.Constant c) = Pad.Constant c
pad_mode_of Whole.Mirror = Pad.Reflect
pad_mode_of Whole.Nearest = Pad.Edge
pad_mode_of Whole.Reflect = Pad.Symmetric
pad_mode_of Whole.Wrap = Pad.Wrap

abbrev pub bad_constant_by : {A : Type 0} → (A → Bool) → Border A → Bool
bad_constant_by bad (constant c) = bad c
bad_constant_by bad (along m) = false

abbrev pub kind_of : BorderModeF64 → BorderMode
kind_of (F64.Constant c) = Whole.Constant (pos 0)
kind_of F64.Mirror = Whole.Mirror
kind_of F64.Nearest = Whole.Nearest
kind_of F64.Reflect = Whole.Reflect
kind_of F64.Wrap = Whole.Wrap
