-- `pad_spec::frame::set_frame` meets its contract: axis by axis, the pad before it and its padded length.
use mathlib.Core.Path.{◌≡◌, ap, ◌∙◌}
use mathlib.Core.Bool.{false}
use mathlib.Core.List.{List}
use Prim.Native.Nat.{ℕ, ◌≤◌, ◌<◌}
use native.Mathlib.Omega.{arith}
use borrow.Author.Rules.{rules}
use lib.ListN.{length, take}
use Rattle.numbers.specs.Lists.{tabulate, any_of}
use Rattle.numbers.proofs.Stored.{front-all}
use Rattle.array_spec.specs.Conditions.{bad_shape}
use Rattle.array_spec.specs.Grid.{length_of}
use Rattle.pad_spec.specs.Conditions.{bad_count, over_pad}
use Rattle.pad_spec.specs.Pads.{pair_of}
use Rattle.pad_spec.specs.declared.pairs.Pair.{Pair}
use Rattle.pad_spec.proofs.PairOf.{pair-asked, pad_limits}
use Rattle.pad_spec.proofs.AxisByAxis.{padded_table}
use Rattle.pad_spec.proofs.frame.set_frame.Goals as goal

-- the pair of an axis and its length are small
small : (ns : List ℕ) (pads : List Pair) (count a : ℕ) → bad_shape ns ≡ false → length pads ≡ 3 → bad_count ns count ≡ false → any_of over_pad (take count pads) ≡ false
    → a < length ns → let p = pair_of pads count a in (p.left ≤ 64) × (p.right ≤ 64) × (length_of ns a ≤ 1024)
small ns pads count a s three c o h = let q = pair-asked ns pads count s three c o a in let p = pad_limits _ (q.1 h) in (p.0, p.1, q.0)

pub overflow_add-padded : goal.overflow_add-padded
overflow_add-padded c =
    let l = small c.args.shape.now c.args.pads c.args.count c.loop-a.a c.requires.0 (search rules) c.requires.1 c.requires.2 c.loop-a-test.true in
    record { fits = omega (arith, l.0, l.2, ap (λ (p : Pair). p.left) c.pair_of-p.ensures, c.len_of.ensures) }

pub overflow_add-padded-in-loop-a : goal.overflow_add-padded-in-loop-a
overflow_add-padded-in-loop-a c =
    let l = small c.args.shape.now c.args.pads c.args.count c.loop-a.a c.requires.0 (search rules) c.requires.1 c.requires.2 c.loop-a-test.true in
    let e = c.pair_of-p.ensures in
    record { fits = omega (arith, l.0, l.1, l.2, ap (λ (p : Pair). p.left) e, ap (λ (p : Pair). p.right) e, c.len_of.ensures) }

pub returns : goal.returns
returns c =
    let L = c.loop-a in (
      front-all 0 _ (omega (arith, c.requires.3)) L.invariant.2 ∙ ap (tabulate _ 0) c.requires.3,
      front-all 0 _ (omega (arith, c.requires.4)) L.invariant.3 ∙ ap (tabulate _ 0) c.requires.4 ∙ padded_table c.args.shape.now c.args.pads c.args.count,
    )
