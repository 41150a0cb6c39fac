-- The lines that the ring serves: what that says of them, and what it leaves in the output.
-- Assumes nothing.
use mathlib.Core.Path.{◌≡◌, sym}
use mathlib.Core.Bool.{Bool, true, false, ◌&&◌}
use mathlib.Core.List.{List}
use Prim.Native.Nat.{ℕ, ◌+◌, ◌-◌}
use native.Mathlib.Omega.{arith}
use borrow.Author.Tests.{leb-true, eqb-true, le-leb, eq-eqb}
use lib.Dec.{leb, eqb}
use lib.IntN.{ℤ}
use lib.ListN.{length}
use Rattle.numbers.proofs.Tests.{and_true, cond_yes, cond_no}
use Rattle.min_max_ring.specs.Extremes.{serving, RingNeeds, swept_by, extremes}

pub served : (n len m : ℕ) → serving n len m ≡ true → RingNeeds n len m
served n len m e =
    let p = and_true (leb 2 len && leb len 65 && leb n 1088 && leb len (n + 1)) (eqb m (n + 1 - len)) e in
    let q = and_true (leb 2 len && leb len 65 && leb n 1088) (leb len (n + 1)) p.0 in
    let r = and_true (leb 2 len && leb len 65) (leb n 1088) q.0 in
    let s = and_true (leb 2 len) (leb len 65) r.0 in
    record {
      wide = leb-true 2 len s.0;
      narrow = leb-true len 65 s.1;
      short = leb-true n 1088 r.1;
      cells = omega (arith, leb-true len (n + 1) q.1, eqb-true m (n + 1 - len) p.1);
    }

pub serving_yes : (n len m : ℕ) → RingNeeds n len m → serving n len m ≡ true
serving_yes n len m s = simp (le-leb 2 len s.wide, le-leb len 65 s.narrow, le-leb n 1088 s.short, le-leb len (n + 1) (omega arith), eq-eqb m (n + 1 - len) (omega arith))

module _ (le : ℤ → ℤ → Bool) (line : List ℤ) (len : ℕ) (out : List ℤ) where
  pub swept_served : serving (length line) len (length out) ≡ true → extremes le line len (length out) ≡ swept_by le line len out
  unfolding swept_by
  swept_served e = sym (cond_yes _ _ out e)

  pub swept_else : serving (length line) len (length out) ≡ false → out ≡ swept_by le line len out
  unfolding swept_by
  swept_else e = sym (cond_no _ _ out e)

  -- what a caller that hands over a served line has afterwards
  pub swept_filled : RingNeeds (length line) len (length out) → swept_by le line len out ≡ extremes le line len (length out)
  swept_filled s = sym (swept_served (serving_yes (length line) len (length out) s))
