-- What the loops over a line keep: the first window fills, with the ring at the array's start, and then each turn writes the front.
-- Assumes nothing.
use mathlib.Core.Path.{◌≡◌, ◌∙◌}
use mathlib.Core.Bool.{Bool, true, false}
use mathlib.Core.List.{List}
use Prim.Native.Nat.{ℕ, ◌+◌, ◌-◌, ◌*◌, ◌≤◌, ◌<◌}
use native.Mathlib.Omega.{arith}
use lib.Dec.{ltb}
use lib.IntN.{ℤ, pos}
use lib.ListN.{length, get_or, set}
use mir.Syntax.{w64}
use mir.Val.{Fits}
use Rattle.numbers.specs.Order.{Total, extreme}
use Rattle.numbers.specs.Windows.{window_of}
use Rattle.numbers.proofs.Stored.{Stored, front-none, front-more, front-all}
use Rattle.min_max_ring.specs.declared.Pair.{Pair}
use Rattle.min_max_ring.specs.Extremes.{RingNeeds, extremes}
use Rattle.min_max_ring.specs.Ring.{ring_place, no_pair}
use Rattle.min_max_ring.proofs.Items.{place_mod}
use Rattle.min_max_ring.proofs.Ring.{Ring, Trimming, pair, ring_begun, ring_answer, ring_pushed, trim_begun, trim_two, trim_more}

-- The first window fills: the loop has passed the cells up to i, and no pair has gone from the front.
pub record Filling (le : ℤ → ℤ → Bool) (line : List ℤ) (len : ℕ) (ps : List Pair) (count : ℕ) (front : ℤ) (death i : ℕ) : Type 0 where
  pub short : i < len
  pub ring : Ring le line len i 0 ps 0 count front death

-- The loop has passed the cells up to i, and written the first of each window that ends before i.
pub record Sweeping (le : ℤ → ℤ → Bool) (line : List ℤ) (len : ℕ) (out₀ out : List ℤ) (ps : List Pair) (start count : ℕ) (front : ℤ) (death i : ℕ) : Type 0 where
  pub served : RingNeeds (length line) len (length out₀)
  pub reached : len ≤ i + 1
  pub inside : i ≤ length line
  pub ring : Ring le line len i (i - len) ps start count front death
  pub stored : Stored (pos 0) (λ k. ltb k (i + 1 - len)) (λ k. extreme le (pos 0) (window_of line k len)) out₀ out

-- ---- places that a turn reads and stores at
pub slot_fits : {k : ℕ} → k < 65 → Fits w64 (k * 16)
slot_fits h = record { fits = omega arith }

place_in : (k : ℕ) → k < 130 → {r : ℕ} → r ≡ ring_place k → r < 65
place_in k h e = omega (arith, e ∙ place_mod k h)

-- the place after the start
pub next_in : {le : ℤ → ℤ → Bool} {line : List ℤ} {len i lo : ℕ} {ps : List Pair} {start count : ℕ} {front : ℤ} {death : ℕ} → Ring le line len i lo ps start count front death
    → {s : ℕ} → s ≡ ring_place (start + 1) → s < 65
next_in {start = start} r e = place_in (start + 1) (omega arith) e

module _ {le : ℤ → ℤ → Bool} {line : List ℤ} {len : ℕ} {v : ℤ} {i lo : ℕ} {ps : List Pair} {start count₀ count : ℕ} {front : ℤ} {death : ℕ} {last : ℤ}
    (g : Trimming le line len v i lo ps start count₀ count front death last) where
  -- the place of the last pair once the back is gone
  pub back_sum : Fits w64 (start + (count - 1))
  back_sum = record { fits = omega arith }

  pub back_in : {b : ℕ} → b ≡ ring_place (start + (count - 1) - 1) → b < 65
  back_in e = place_in (start + (count - 1) - 1) (omega arith) e

  -- the place behind the last pair
  pub behind_sum : Fits w64 (start + count)
  behind_sum = record { fits = omega arith }

  pub behind_in : {b : ℕ} → b ≡ ring_place (start + count) → b < 65
  behind_in e = place_in (start + count) (omega arith) e

module _ {le : ℤ → ℤ → Bool} (O : Total le) {line : List ℤ} {len : ℕ} where
  -- ---- the first window
  pub fill_begun : (ps : List Pair) {v : ℤ} → 1 < len → len ≤ 65 → length ps ≡ 65 → v ≡ get_or line 0 (pos 0) → Filling le line len (set ps 0 (pair v len)) 1 v len 1
  fill_begun ps w t n is = record { short = w; ring = ring_begun O ps w t n is }

  pub fill_trim : {ps : List Pair} {count : ℕ} {front v last : ℤ} {death i : ℕ} → Filling le line len ps count front death i → last ≡ get_or line (i - 1) (pos 0)
      → Trimming le line len v i 0 ps 0 count count front death last
  fill_trim f e = trim_begun O f.ring (omega arith) e

  module _ {ps : List Pair} {count₀ count : ℕ} {front v last : ℤ} {death i : ℕ} (g : Trimming le line len v i 0 ps 0 count₀ count front death last) where
    pub fill_trim_more : le v front ≡ false → le v last ≡ true → {last' : ℤ} → last' ≡ (get_or ps (count - 1 - 1) no_pair).val → Trimming le line len v i 0 ps 0 count₀ (count - 1) front death last'
    fill_trim_more f t e =
        let n = trim_two O g f t in
        let m = place_mod (0 + (count - 1) - 1) (omega arith) in
        trim_more O g f t (omega arith) e

    pub fill_pushed : v ≡ get_or line i (pos 0) → le v last ≡ false → Ring le line len (i + 1) 0 (set ps count (pair v (i + len))) 0 (count + 1) front death
    fill_pushed is t =
        let m = place_mod (0 + count) (omega arith) in
        ring_pushed O g is t (omega arith)

  -- ---- every further window
  -- the first window lacks one cell
  pub sweep_begun : {ps : List Pair} {count : ℕ} {front : ℤ} {death i : ℕ} (out : List ℤ) → Filling le line len ps count front death i → len ≤ i + 1 → RingNeeds (length line) len (length out)
      → Sweeping le line len out out ps 0 count front death i
  sweep_begun {i = i} out f h s =
      let z : i - len ≡ 0 = omega arith in
      let y : i + 1 - len ≡ 0 = omega arith in
      record {
        served = s;
        reached = h;
        inside = omega arith;
        ring = rw z f.ring;
        stored = rw y (front-none (pos 0) (λ k. extreme le (pos 0) (window_of line k len)) out);
      }

  module _ {out₀ out : List ℤ} {ps : List Pair} {start count : ℕ} {front : ℤ} {death i : ℕ} (s : Sweeping le line len out₀ out ps start count front death i) where
    pub sweep_trim : {ps' : List Pair} {start' count' : ℕ} {front' v last : ℤ} {death' : ℕ} → Ring le line len i (i + 1 - len) ps' start' count' front' death' → last ≡ get_or line (i - 1) (pos 0)
        → Trimming le line len v i (i + 1 - len) ps' start' count' count' front' death' last
    sweep_trim r e = trim_begun O r (omega arith) e

    -- the cell i is in the ring: the front is written
    pub sweep_more : {ps' : List Pair} {start' count' : ℕ} {front' : ℤ} {death' : ℕ} → Ring le line len (i + 1) (i + 1 - len) ps' start' count' front' death'
        → i < length line → Sweeping le line len out₀ (set out (i + 1 - len) front') ps' start' count' front' death' (i + 1)
    sweep_more {front' = front'} r b =
        let z : i + 1 + 1 - len ≡ i + 1 - len + 1 = omega arith in
        record {
          served = s.served;
          reached = omega arith;
          inside = omega arith;
          ring = r;
          stored = rw z (front-more (pos 0) (λ k. extreme le (pos 0) (window_of line k len)) front' (omega arith) s.stored (ring_answer O r (omega arith) (omega arith)));
        }

    -- every window is written
    pub sweep_ended : length line ≤ i → out ≡ extremes le line len (length out₀)
    unfolding extremes
    sweep_ended b = front-all (pos 0) (λ k. extreme le (pos 0) (window_of line k len)) (omega arith) s.stored
