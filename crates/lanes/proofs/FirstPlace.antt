-- The first place of a lane as the code answers it, the count where the lane is not inside; and what reading a lane leaves, over any element.
-- Assumes nothing.
use mathlib.Core.Path.{◌≡◌, refl, sym, subst, ◌∙◌}
use mathlib.Core.Bool.{Bool, true, false, cond}
use mathlib.Core.List.{List}
use Prim.Native.Nat.{ℕ, ◌+◌, ◌*◌, ◌-◌, ◌<◌}
use native.Mathlib.Omega.{arith}
use lib.ListN.{length}
use Rattle.numbers.proofs.Tests.{cond_yes, cond_no}
use Rattle.lanes.specs.Lanes.{lane_base, lane_at, lane, lane_inside, read_lane}
use Rattle.lanes.proofs.Cells.{lane_inside_lem, inside_yes, inside_no, inside-whole}

module _ (n s l count r : ℕ) (e : r ≡ cond (lane_inside n s l count) (lane_base n s l) count) where
  pub place_none : r ≡ count → lane_inside n s l count ≡ false
  place_none q = inside_no n s l count (λ I. below (sym (cond_yes (lane_inside n s l count) (lane_base n s l) count (inside_yes I)) ∙ sym e ∙ q) I.last)
    where
      below : lane_base n s l ≡ count → lane_base n s l + (n - 1) * s < count → ⊥
      below p h = omega arith

  pub place_some : (r ≡ count → ⊥) → lane_inside n s l count ≡ true
  place_some h = go (lane_inside n s l count) refl
    where
      go : (t : Bool) → lane_inside n s l count ≡ t → lane_inside n s l count ≡ true
      go true q = q
      go false q = absurd (h (e ∙ cond_no (lane_inside n s l count) (lane_base n s l) count q))

  pub place_base : (r ≡ count → ⊥) → r ≡ lane_base n s l
  place_base h = e ∙ cond_yes (lane_inside n s l count) (lane_base n s l) count (place_some h)

  pub place_whole : (r ≡ count → ⊥) → r + n * s < count + s
  place_whole h = subst (λ (b : ℕ). b + n * s < count + s) (sym (place_base h)) (inside-whole (lane_inside_lem n s l count (place_some h)))

-- ---- reading, where the lane is not inside, and where it is
module _ {A : Type 0} (d : A) (s l : ℕ) (line g : List A) (r : ℕ) (e : r ≡ cond (lane_inside (length line) s l (length g)) (lane_base (length line) s l) (length g)) where
  pub read_none : r ≡ length g → line ≡ read_lane d s l g line
  read_none q = sym (cond_no _ _ line (place_none (length line) s l (length g) r e q))

  module _ (h : r ≡ length g → ⊥) where
    pub read_room : r + length line * s < length g + s
    read_room = place_whole (length line) s l (length g) r e h

    pub read_some : {left : List A} → left ≡ lane_at d g r s (length line) → left ≡ read_lane d s l g line
    read_some q =
        q ∙ (λ i. lane_at d g (place_base (length line) s l (length g) r e h i) s (length line))
        ∙ sym (cond_yes _ (lane d (length line) s l g) line (place_some (length line) s l (length g) r e h))
