-- A call that the judge accepts: the padded grid has room for the grid, every rim can be filled, and the output is as long as it must be.
-- Assumes nothing.
use mathlib.Core.Path.{◌≡◌, sym, ap, subst, ◌∙◌}
use mathlib.Core.Bool.{false}
use mathlib.Core.List.{List, []}
use Prim.Native.Nat.{ℕ, ◌+◌, ◌-◌, ◌≤◌, ◌<◌}
use native.Mathlib.Omega.{arith}
use borrow.Author.Tests.{ltb-false, eqb-true, not-false}
use lib.Dec.{ltb, eqb}
use lib.IntN.{ℤ}
use lib.ListN.{length, get_or, take}
use Rattle.numbers.specs.Lists.{tabulate, any_of}
use Rattle.numbers.specs.Refusal.{refusal_of}
use Rattle.numbers.proofs.Any.{any_none, every_at}
use Rattle.numbers.proofs.Tabulate.{length-tabulate, get_d_tabulate}
use Rattle.numbers.proofs.Tests.{or_false}
use Rattle.array_spec.specs.Conditions.{bad_level}
use Rattle.array_spec.specs.Grid.{cell_count, length_of}
use Rattle.array_spec.proofs.Judged.{PassedGrid, grid_passed}
use Rattle.border.specs.declared.CellBorder.{CellBorder}
use Rattle.border.specs.declared.PadMode.{PadMode}
use Rattle.border.specs.Reach.{bad_along, bad_pad}
use Rattle.pad_spec.specs.Fill.{filler_of, border_by, rim_of}
use Rattle.pad_spec.specs.declared.rim.Filler.TheVariants.{Cells}
use Rattle.pad_spec.specs.Conditions.{bad_count, over_pad, padded_count, bad_pads, bad_pad_reach_on, bad_pad_reach, pads_judged, pad_judged}
use Rattle.pad_spec.specs.Pads.{pair_of, lefts_of, rights_of, padded_shape}
use Rattle.pad_spec.specs.declared.pairs.Pair.{Pair}
use Rattle.pad_spec.proofs.PairOf.{axis-at, padded-length, padded_short}
use Rattle.pad_spec.specs.Frame.{Framed, Filling}

-- what each condition of an accepted call says
pub record Passed (mode : PadMode) (ns : List ℕ) (pads : List Pair) (count : ℕ) (cells : List ℤ) (out : ℕ) : Type 0 where
  pub grid : PassedGrid bad_level ns cells []
  pub pairs : bad_count ns count ≡ false
  pub limits : any_of over_pad (take count pads) ≡ false
  pub small : padded_count ns pads count ≤ 32768
  pub lent : out ≡ padded_count ns pads count
  pub reach : (a : ℕ) → a < length ns → bad_pad_reach_on mode ns pads count a ≡ false

pub passed : (mode : PadMode) (ns : List ℕ) (pads : List Pair) (count : ℕ) (cells : List ℤ) (out : ℕ) → refusal_of (pad_judged mode ns pads count cells out) ≡ 0 → Passed mode ns pads count cells out
unfolding bad_pads bad_pad_reach
passed mode ns pads count cells out z =
    let J = grid_passed bad_level ns cells [] (pads_judged mode ns pads count cells out) (tt, (tt, (tt, (tt, tt)))) z in
    let p = or_false (bad_count ns count) _ J.1.1.0 in
    let q = or_false (any_of over_pad (take count pads)) _ p.1 in
    let r = or_false (ltb 32768 (padded_count ns pads count)) _ q.1 in record {
      grid = J.0;
      pairs = p.0;
      limits = q.0;
      small = ltb-false 32768 (padded_count ns pads count) r.0;
      lent = eqb-true out (padded_count ns pads count) (not-false (eqb out (padded_count ns pads count)) r.1);
      reach = λ a h. ap (bad_pad_reach_on mode ns pads count) (sym (axis-at (length ns) a h))
          ∙ every_at (λ x. bad_pad_reach_on mode ns pads count x ≡ false) (tabulate (λ k. k) 0 (length ns)) 0
          (any_none (bad_pad_reach_on mode ns pads count) (tabulate (λ k. k) 0 (length ns)) J.1.1.1.0) a
          (in_axes a h);
    }
  where
    in_axes : (a : ℕ) → a < length ns → a < length (tabulate (λ k. k) 0 (length ns))
    in_axes a h = omega (arith, length-tabulate (λ k. k) 0 (length ns))

module _ {mode : PadMode} {ns : List ℕ} {pads : List Pair} {count : ℕ} {cells : List ℤ} {out : ℕ} (P : Passed mode ns pads count cells out) (three : length pads ≡ 3) where
  left_is : (a : ℕ) → a < length ns → get_or (lefts_of ns pads count) a 0 ≡ (pair_of pads count a).left
  left_is a h = get_d_tabulate (λ k. (pair_of pads count k).left) (length ns) a 0 h

  pub framed : Framed ns (lefts_of ns pads count) (padded_shape ns (lefts_of ns pads count) (rights_of ns pads count))
  framed = record {
    shape = P.grid.shape;
    starts = length-tabulate (λ k. (pair_of pads count k).left) 0 (length ns);
    axes = length-tabulate (λ a. get_or (lefts_of ns pads count) a 0 + length_of ns a + get_or (rights_of ns pads count) a 0) 0 (length ns);
    room = λ a h. fits a h;
    short = λ a. padded_short ns pads count P.grid.shape three P.pairs P.limits a (λ j. length_of (padded_shape ns (lefts_of ns pads count) (rights_of ns pads count)) a);
    small = P.small;
  }
    where
      fits : (a : ℕ) → a < length ns → get_or (lefts_of ns pads count) a 0 + length_of ns a ≤ length_of (padded_shape ns (lefts_of ns pads count) (rights_of ns pads count)) a
      fits a h = omega (arith, left_is a h, padded-length ns pads count a h)

  reach-both : (a : ℕ) → a < length ns
      → (bad_pad (rim_of mode []) (length_of ns a) (pair_of pads count a).left ≡ false) × (bad_pad (rim_of mode []) (length_of ns a) (pair_of pads count a).right ≡ false)
  reach-both a h = or_false (bad_pad (rim_of mode []) (length_of ns a) (pair_of pads count a).left) (bad_pad (rim_of mode []) (length_of ns a) (pair_of pads count a).right) (P.reach a h)

  pub filling : {m : CellBorder} → filler_of mode ≡ Cells m → Filling m ns (lefts_of ns pads count) (padded_shape ns (lefts_of ns pads count) (rights_of ns pads count))
  filling {m} e = record {
    framed = framed;
    fills_left = λ a h. ap (bad_along m (length_of ns a)) (left_is a h) ∙ sym (judged a (pair_of pads count a).left) ∙ (reach-both a h).0;
    fills_right = λ a h. ap (bad_along m (length_of ns a)) (rest a h) ∙ sym (judged a (pair_of pads count a).right) ∙ (reach-both a h).1;
  }
    where
      judged : (a x : ℕ) → bad_pad (rim_of mode []) (length_of ns a) x ≡ bad_along m (length_of ns a) x
      judged a x = ap (λ f. bad_pad (border_by f []) (length_of ns a) x) e

      rest : (a : ℕ) → a < length ns
          → length_of (padded_shape ns (lefts_of ns pads count) (rights_of ns pads count)) a - (get_or (lefts_of ns pads count) a 0 + length_of ns a) ≡ (pair_of pads count a).right
      rest a h = omega (arith, left_is a h, padded-length ns pads count a h)

  -- the same of the frame as it was set
  pub framed_set : {l p : List ℕ} → l ≡ lefts_of ns pads count → p ≡ padded_shape ns (lefts_of ns pads count) (rights_of ns pads count) → Framed ns l p
  framed_set {l} {p} e f = subst (λ (x : List ℕ). Framed ns x p) (sym e) (subst (Framed ns (lefts_of ns pads count)) (sym f) framed)

  pub filling_set : {m : CellBorder} {l p : List ℕ} → filler_of mode ≡ Cells m → l ≡ lefts_of ns pads count → p ≡ padded_shape ns (lefts_of ns pads count) (rights_of ns pads count) → Filling m ns l p
  filling_set {m} {l} {p} c e f = subst (λ (x : List ℕ). Filling m ns x p) (sym e) (subst (Filling m ns (lefts_of ns pads count)) (sym f) (filling c))

  pub lent_set : {p : List ℕ} → p ≡ padded_shape ns (lefts_of ns pads count) (rights_of ns pads count) → out ≡ cell_count p
  lent_set f = P.lent ∙ ap cell_count (sym f)
