-- A pass along an axis, and axes taken one after the other, over any element: what holds of every level before and after, and one, two and three passes
-- as `over_axes`. Assumes nothing.
use mathlib.Core.Path.{◌≡◌, sym, ap, ◌∙◌}
use mathlib.Core.List.{List}
use Prim.Native.Nat.{ℕ}
use lib.ListN.{length, get_or}
use Rattle.numbers.specs.Lists.{Every}
use Rattle.numbers.proofs.Any.{every_get_d}
use Rattle.numbers.proofs.Tabulate.{every_table}
use Rattle.array_spec.specs.Grid.{length_of, place_of, coordinate, moved, level_at}
use Rattle.lanes.specs.Axes.{over_axes}
use Rattle.lanes.specs.Lanes.{lane_through, along_axis}

-- where a line function leads from levels that are P to levels that are Q, so does the pass
pub every_along : {A : Type 0} (d : A) (P Q : A → Type 0) (f : List A → List A) → P d → Q d → ((s : List A) → Every P s → Every Q (f s)) → (ns : List ℕ) (a : ℕ) (cells : List A) → Every P cells
    → Every Q (along_axis d f ns a cells)
unfolding along_axis
every_along {A} d P Q f p q g ns a cells h =
    every_table Q (λ k. get_or (f (lane_through d ns a cells k)) (coordinate ns k a) d) 0 (length cells)
    (λ k. every_get_d Q (f (lane_through d ns a cells k)) d q (g (lane_through d ns a cells k) (lane_every k)) (coordinate ns k a))
  where
    lane_every : (k : ℕ) → Every P (lane_through d ns a cells k)
    lane_every k =
        every_table P (λ i. level_at d ns cells (moved a i (coordinate ns k))) 0 (length_of ns a) (λ i. every_get_d P cells d p h (place_of ns (moved a i (coordinate ns k))))

-- ---- one, two and three passes; n is the number of axes
module _ {A : Type 0} (f : ℕ → List A → List A) (cells : List A) {n : ℕ} where
  whole : (k : ℕ) → n ≡ k → over_axes f 0 k cells ≡ over_axes f 0 n cells
  whole k e = sym (ap (λ x. over_axes f 0 x cells) e)

  pub one_pass : {x : List A} → n ≡ 1 → x ≡ f 0 cells → x ≡ over_axes f 0 n cells
  one_pass e p = p ∙ whole 1 e

  pub two_passes : {x y : List A} → n ≡ 2 → x ≡ f 0 cells → y ≡ f 1 x → y ≡ over_axes f 0 n cells
  two_passes e p q = q ∙ ap (f 1) p ∙ whole 2 e

  pub three_passes : {x y z : List A} → n ≡ 3 → x ≡ f 0 cells → y ≡ f 1 x → z ≡ f 2 y → z ≡ over_axes f 0 n cells
  three_passes e p q r = r ∙ ap (f 2) (q ∙ ap (f 1) p) ∙ whole 3 e
