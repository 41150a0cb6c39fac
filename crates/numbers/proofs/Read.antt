-- A signed number that fits is what its bits stand for: the machine's reading of a parameter or a cell.
-- Assumes nothing.
use mathlib.Core.Path.{◌≡◌, ◌∙◌}
use Prim.Native.Nat.{◌<◌, ◌^◌}
use lib.IntN.{ℤ}
use lib.Signed.{mag}
use mir.Facts.{to_z-of_z}
use mir.Syntax.{Width, w64}
use mir.Val.{to_z, of_z, hbits}

pub read_at_lem : (w : Width) {z x : ℤ} → mag z < 2 ^ hbits w → z ≡ x → to_z w (of_z w z) ≡ x
read_at_lem w h e = to_z-of_z {w = w} (record { sfits = h }) ∙ e

pub read : {z x : ℤ} → mag z < 2 ^ 63 → z ≡ x → to_z w64 (of_z w64 z) ≡ x
read h e = read_at_lem w64 h e
