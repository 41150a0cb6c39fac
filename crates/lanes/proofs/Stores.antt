-- A grid while its lanes are written: cell by cell of one lane, then lane by lane. What a loop over all lanes leaves is along_axis.
-- Assumes nothing.
use mathlib.Core.Path.{◌≡◌, refl, sym, ap, subst, ◌∙◌}
use mathlib.Core.Bool.{Bool, true, false, ◌&&◌, ◌||◌, cond}
use mathlib.Core.List.{List}
use Prim.Native.Nat.{ℕ, ◌+◌, ◌*◌, ◌/◌, ◌%◌, ◌≤◌, ◌<◌, zero-le}
use native.Mathlib.Nat.{mod-lt}
use native.Mathlib.Omega.{arith}
use borrow.Author.Tests.{lt-ltb, le-ltb, eqb-true}
use lib.Dec.{ltb, eqb}
use lib.ListN.{length, get_or, set}
use Rattle.numbers.specs.Lists.{tabulate}
use Rattle.numbers.proofs.Tests.{ltb-more}
use Rattle.numbers.proofs.Stored.{Stored, stored_none, stored_one, stored_then, stored_all, stored_table, table_stored, stored_agree}
use Rattle.lanes.specs.Lanes.{lane_of, lane_base, lane, with_lane}
use Rattle.lanes.proofs.Cells.{same_cell, place_of_cell}

-- whether a cell is among the first i cells of lane l
abbrev pub on_lane : ℕ → ℕ → ℕ → ℕ → ℕ → Bool
on_lane n s l i k = eqb (lane_of n s k) l && ltb (k / s % n) i

both : (a b c : Bool) → a && (b || c) ≡ (a && b) || (a && c)
both true b c = refl
both false b c = refl

and_no : (a b : Bool) → b ≡ false → a && b ≡ false
and_no true b e = e
and_no false b e = refl

and_yes : (a b : Bool) → b ≡ true → a && b ≡ a
and_yes true b e = e
and_yes false b e = refl

-- ---- one lane, cell by cell: g is g₀ with the first i members of the line written to lane l
abbrev pub line_at : {A : Type 0} → A → List A → ℕ → ℕ → A
line_at d line s k = get_or line (k / s % length line) d

pub record Written {A : Type 0} (d : A) (line : List A) (s l : ℕ) (g₀ g : List A) (i : ℕ) : Type 0 where
  pub stored : Stored d (on_lane (length line) s l i) (line_at d line s) g₀ g

pub written_none : {A : Type 0} (d : A) (line : List A) (s l : ℕ) (g : List A) → Written d line s l g g 0
written_none d line s l g = record {
  stored = stored_none d (line_at d line s) (on_lane (length line) s l 0) g (λ k. and_no (eqb (lane_of (length line) s k) l) (ltb (k / s % length line) 0) (le-ltb (k / s % length line) 0 zero-le));
}

pub written_more : {A : Type 0} {d : A} {line : List A} {s l at i : ℕ} {g₀ g : List A} (v : A) → 0 < s → at ≡ lane_base (length line) s l → i < length line → at + i * s < length g₀
    → v ≡ get_or line i d → Written d line s l g₀ g i → Written d line s l g₀ (set g (at + i * s) v) (i + 1)
written_more {d = d} {line} {s} {l} {at} {i} {g₀} {g} v ps e h b q W = record {
  stored =
      let n = length line in
      stored_then d (line_at d line s) (on_lane n s l i) (λ k. eqb k (at + i * s)) (on_lane n s l (i + 1)) W.stored
      (stored_one d (line_at d line s) g (at + i * s) v (subst (λ (m : ℕ). at + i * s < m) (sym W.stored.kept) b)
      (q ∙ ap (λ k. get_or line k d) (sym (ap (λ x. (x + i * s) / s % n) e ∙ place_of_cell n s (omega arith) ps l i h))))
      (λ k. ap (λ t. eqb (lane_of n s k) l && t) (ltb-more (k / s % n) i)
      ∙ both (eqb (lane_of n s k) l) (eqb (k / s % n) i) (ltb (k / s % n) i)
      ∙ ap (λ t. t || on_lane n s l i k) (sym (ap (λ x. eqb k (x + i * s)) e ∙ same_cell n s (omega arith) ps l i k h)));
}

pub written_all : {A : Type 0} {d : A} {line : List A} {s l i : ℕ} {g₀ g : List A} → 0 < length line → length line ≤ i → Written d line s l g₀ g i → g ≡ with_lane d (length line) s l line g₀
unfolding with_lane
written_all {d = d} {line} {s} {l} {i} {g₀} {g} pn h W =
    let n = length line in
    stored_table d (line_at d line s) (on_lane n s l i) W.stored ∙ ap (λ (P : ℕ → Bool). tabulate (λ k. cond (P k) (line_at d line s k) (get_or g₀ k d)) 0 (length g₀)) (λ j k. whole k j)
  where
    past : (m : ℕ) → m < length line → m < i
    past m b = omega arith

    whole : (k : ℕ) → on_lane (length line) s l i k ≡ eqb (lane_of (length line) s k) l
    whole k = and_yes (eqb (lane_of (length line) s k) l) (ltb (k / s % length line) i) (lt-ltb (k / s % length line) i (past (k / s % length line) (mod-lt (k / s) pn)))

-- ---- every lane, one after the other
module _ {A : Type 0} (d : A) (f : List A → List A) (n s : ℕ) (g : List A) where
  abbrev pub level_along : ℕ → A
  level_along k = get_or (f (lane d n s (lane_of n s k) g)) (k / s % n) d

  pub lanes_none : (out : List A) → Stored d (λ k. ltb (lane_of n s k) 0) level_along out out
  lanes_none out = stored_none d level_along (λ k. ltb (lane_of n s k) 0) out (λ k. le-ltb (lane_of n s k) 0 zero-le)

  -- one lane more, written with f of the same lane of g
  pub lanes_more : (l : ℕ) {out₀ out new : List A} → Stored d (λ k. ltb (lane_of n s k) l) level_along out₀ out → new ≡ with_lane d n s l (f (lane d n s l g)) out
      → Stored d (λ k. ltb (lane_of n s k) (l + 1)) level_along out₀ new
  unfolding with_lane
  lanes_more l {out₀} {out} {new} S e =
      stored_then d level_along (λ k. ltb (lane_of n s k) l) (λ k. eqb (lane_of n s k) l) (λ k. ltb (lane_of n s k) (l + 1)) S
      (stored_agree d (λ k. get_or (f (lane d n s l g)) (k / s % n) d) (λ k. eqb (lane_of n s k) l) level_along
      (λ k t. ap (λ m. get_or (f (lane d n s m g)) (k / s % n) d) (sym (eqb-true (lane_of n s k) l t)))
      (table_stored d (λ k. get_or (f (lane d n s l g)) (k / s % n) d) (λ k. eqb (lane_of n s k) l) out new e))
      (λ k. ltb-more (lane_of n s k) l)

  pub lanes_all : (l : ℕ) {out₀ out : List A} → ((k : ℕ) → k < length out₀ → lane_of n s k < l) → Stored d (λ k. ltb (lane_of n s k) l) level_along out₀ out
      → out ≡ tabulate level_along 0 (length out₀)
  lanes_all l h S = stored_all d level_along (λ k. ltb (lane_of n s k) l) (λ k b. lt-ltb (lane_of n s k) l (h k b)) S
