-- The first of a window of three cells, in any order, from its cells one after the other; and as the machine takes it, with what it found stored in 64 bits and read again.
-- Assumes nothing.
use mathlib.Core.Path.{◌≡◌, sym, ap, ◌∙◌}
use mathlib.Core.Bool.{Bool}
use mathlib.Core.List.{List, [], ◌∷◌}
use Prim.Native.Nat.{ℕ, ◌+◌, ◌^◌, ◌≤◌, ◌<◌}
use native.Mathlib.Nat.{add-zero}
use lib.IntN.{ℤ, pos}
use lib.ListN.{length, get_or}
use lib.Signed.{mag}
use mir.Syntax.{w64}
use mir.Val.{to_z, of_z}
use Rattle.numbers.specs.Lists.{tabulate}
use Rattle.numbers.specs.Order.{extreme, extreme_from}
use Rattle.numbers.specs.Windows.{window_of}
use Rattle.numbers.proofs.Read.{read}
use Rattle.numbers.proofs.Tabulate.{tabulate_unique}
use Rattle.numbers.proofs.Window.{length-window, get_d_window}

module _ (le : ℤ → ℤ → Bool) (s : List ℤ) (i : ℕ) (h : i + 3 ≤ length s) where
  cells : window_of s i 3 ≡ tabulate (λ j. get_or s (i + j) (pos 0)) 0 3
  cells = tabulate_unique (pos 0) (λ j. get_or s (i + j) (pos 0)) (window_of s i 3) 3 (length-window s i 3 h) (λ j b. get_d_window s i 3 j (pos 0) h b)

  in_turn : extreme le (pos 0) (window_of s i 3) ≡ extreme_from le (get_or s (i + 0) (pos 0)) (get_or s (i + 1) (pos 0) ∷ get_or s (i + 2) (pos 0) ∷ [])
  unfolding tabulate
  in_turn = ap (extreme le (pos 0)) cells

  first_three : extreme_from le (get_or s i (pos 0)) (get_or s (i + 1) (pos 0) ∷ get_or s (i + 2) (pos 0) ∷ []) ≡ extreme le (pos 0) (window_of s i 3)
  first_three = ap (λ (k : ℕ). extreme_from le (get_or s k (pos 0)) (get_or s (i + 1) (pos 0) ∷ get_or s (i + 2) (pos 0) ∷ [])) (sym (add-zero i)) ∙ sym in_turn

  -- x, y and z are the three cells, b is the first of x and y, and r of b and z
  pub three-read : {x y z b r : ℤ} → x ≡ get_or s i (pos 0) → y ≡ get_or s (i + 1) (pos 0) → z ≡ get_or s (i + 2) (pos 0) → mag b < 2 ^ 63 → mag r < 2 ^ 63
      → b ≡ extreme_from le x (y ∷ []) → r ≡ extreme_from le (to_z w64 (of_z w64 b)) (z ∷ []) → to_z w64 (of_z w64 r) ≡ extreme le (pos 0) (window_of s i 3)
  three-read ex ey ez hb hr p q =
      let e = read hb (p ∙ (λ j. extreme_from le (ex j) (ey j ∷ []))) in
      read hr (q ∙ (λ j. extreme_from le (e j) (ez j ∷ []))) ∙ first_three
