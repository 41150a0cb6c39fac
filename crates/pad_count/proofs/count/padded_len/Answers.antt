-- `padded_len` meets its contract: the sum of the axis's length and its two pads, which are small.
use mathlib.Core.Path.{◌≡◌, sym, ap, ◌∙◌}
use mathlib.Core.Bool.{false}
use mathlib.Core.List.{List}
use Prim.Native.Nat.{ℕ, ◌+◌, ◌≤◌, ◌<◌}
use native.Mathlib.Omega.{arith}
use lib.ListN.{length}
use Rattle.pad_spec.specs.Conditions.{over_pad}
use Rattle.pad_spec.specs.Pads.{pair_of}
use Rattle.pad_spec.specs.declared.pairs.Pair.{Pair}
use Rattle.pad_spec.proofs.PairOf.{pad_limits, padded-length, padded_missing}
use Rattle.pad_count.proofs.count.padded_len.Goals as goal

-- the pads of an axis are small
small : (ns : List ℕ) (pads : List Pair) (count a : ℕ) {p : Pair} → (a < length ns → over_pad (pair_of pads count a) ≡ false) → a < length ns → p ≡ pair_of pads count a → (p.left ≤ 64) × (p.right ≤ 64)
small ns pads count a {p} h b e = pad_limits p (ap over_pad e ∙ h b)

pub returns-then-shape-axis : goal.returns-then-shape-axis
returns-then-shape-axis c = let a = c.args in padded_missing a.shape.now a.pads a.count a.axis c.if-shape-axis.true

pub overflow_add-result : goal.overflow_add-result
overflow_add-result c =
    let a = c.args in
    let l = small a.shape.now a.pads a.count a.axis c.requires.1 c.if-shape-axis.false c.pair_of-p.ensures in
    omega (arith, l.0, c.len_of.ensures, c.requires.0)

pub overflow_add-result-2 : goal.overflow_add-result-2
overflow_add-result-2 c =
    let a = c.args in
    let l = small a.shape.now a.pads a.count a.axis c.requires.1 c.if-shape-axis.false c.pair_of-p.ensures in
    omega (arith, l.0, l.1, c.len_of.ensures, c.requires.0)

pub returns : goal.returns
returns c =
    let a = c.args in
    let e = c.pair_of-p.ensures in
    (λ j. (e j).left + c.len_of.ensures j + (e j).right) ∙ sym (padded-length a.shape.now a.pads a.count a.axis c.if-shape-axis.false)
