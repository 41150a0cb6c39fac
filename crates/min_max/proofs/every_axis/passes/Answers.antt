-- `min_max::every_axis::passes` meets its contract: every pass is accepted, and the passes are those of the answer.
use Prim.Native.Nat.{ℕ, ◌<◌}
use mathlib.Core.Path.{◌≡◌, ap, ◌∙◌}
use mathlib.Core.List.{List}
use native.Mathlib.Omega.{arith}
use borrow.Author.Rules.{rules}
use mir.Syntax.{w64}
use mir.Val.{to_z, of_z}
use lib.IntN.{ℤ}
use lib.ListN.{length}
use Rattle.numbers.specs.Refusal.{refusal_of}
use Rattle.array_spec.specs.Grid.{cell_count}
use Rattle.array_spec.proofs.Judged.{axes_three}
use Rattle.border.specs.Axes.{mode_on}
use Rattle.min_max_judge.specs.Judge.{call_of, grid_call_of, filter_judged}
use Rattle.min_max_axis.specs.Lane.{order_of}
use Rattle.min_max_spec.specs.Call.{Call, number_of}
use Rattle.min_max_spec.specs.Filters.{filter_answer}
use Rattle.min_max_spec.specs.Run.{answer_of}
use Rattle.min_max.proofs.EveryAxis.{Filtered, filtered, Between, between_input, pass_accepted, between_pass, one_pass, two_passes, three_passes}
use contract.Lifetimes.{Lfts}
use Rattle.min_max.proofs.every_axis.passes.Lts.{Args}
use Rattle.min_max.proofs.every_axis.passes.Reads as reads
use Rattle.min_max.proofs.every_axis.passes.Tie as tie
use Rattle.min_max.proofs.every_axis.passes.Goals as goal

-- what holds of an accepted grid call, in the words of the arguments
module _ {κs : Lfts 4} (a : Args tie.the-claims reads.Pre reads.Post κs) (handed : ℤ) (same : handed ≡ a.origin)
    (ok : refusal_of (filter_judged a.«data».now (grid_call_of a.shape.now a.size a.modes a.origin a.out.now) (length a.second.now)) ≡ 0) where
  accepted : Filtered a.«data».now a.shape.now a.size a.modes handed a.out.now (length a.second.now)
  accepted =
      filtered a.«data».now a.shape.now a.size a.modes handed a.out.now (length a.second.now)
      (ap (λ (o : ℤ). refusal_of (filter_judged a.«data».now (grid_call_of a.shape.now a.size a.modes o a.out.now) (length a.second.now))) same ∙ ok)

  answered : filter_answer (order_of a.extreme) (grid_call_of a.shape.now a.size a.modes handed a.out.now) a.«data».now
      ≡ filter_answer (order_of a.extreme) (grid_call_of a.shape.now a.size a.modes a.origin a.out.now) a.«data».now
  answered = ap (λ (o : ℤ). filter_answer (order_of a.extreme) (grid_call_of a.shape.now a.size a.modes o a.out.now) a.«data».now) same

  -- the pass along axis b, lent the grid held
  abbrev pass_on : ℕ → List ℤ → Call
  pass_on b held = call_of a.shape.now a.size b (mode_on a.modes b) handed held

  -- a grid between two passes
  abbrev Mid : List ℤ → Type 0
  Mid g = Between a.«data».now a.shape.now a.size a.modes handed a.out.now (length a.second.now) accepted g

  input : Mid a.«data».now
  input = between_input a.«data».now a.shape.now a.size a.modes handed a.out.now (length a.second.now) accepted

  may_pass : {g : List ℤ} (held : List ℤ) (b : ℕ) → Mid g → length held ≡ cell_count a.shape.now → b < length a.shape.now → number_of g (pass_on b held) ≡ 0
  may_pass = pass_accepted a.«data».now a.shape.now a.size a.modes handed a.out.now (length a.second.now) accepted

  passed : {g : List ℤ} (held : List ℤ) (b : ℕ) → b < length a.shape.now → Mid g → {new : List ℤ} → new ≡ answer_of (order_of a.extreme) g (pass_on b held) → Mid new
  passed = between_pass a.«data».now a.shape.now a.size a.modes handed a.out.now (length a.second.now) accepted (order_of a.extreme)

  three : (length a.shape.now ≡ 1 → ⊥) → (length a.shape.now ≡ 2 → ⊥) → length a.shape.now ≡ 3
  three = axes_three accepted.grid

pub pass-requires : goal.pass-requires
pass-requires c =
    let e : to_z w64 (of_z w64 c.args.origin) ≡ c.args.origin = search rules in
    may_pass c.args _ e c.requires _ 0 (input c.args _ e c.requires) (accepted c.args _ e c.requires).grid.lengths.0 (omega (arith, c.if-axes-eq1.true))

pub returns-then-axes-eq1 : goal.returns-then-axes-eq1
returns-then-axes-eq1 c =
    let a = c.args in
    let e : to_z w64 (of_z w64 a.origin) ≡ a.origin = search rules in
    one_pass (order_of a.extreme) a.«data».now a.shape.now a.size a.modes (to_z w64 (of_z w64 a.origin)) a.out.now _ c.if-axes-eq1.true c.pass.ensures
    ∙ answered a _ e c.requires

pub pass-requires-then-axes-eq2 : goal.pass-requires-then-axes-eq2
pass-requires-then-axes-eq2 c =
    let e : to_z w64 (of_z w64 c.args.origin) ≡ c.args.origin = search rules in
    may_pass c.args _ e c.requires _ 0 (input c.args _ e c.requires) (accepted c.args _ e c.requires).grid.lengths.1.0 (omega (arith, c.if-axes-eq2.true))

pub pass-requires-then-axes-eq2-2 : goal.pass-requires-then-axes-eq2-2
pass-requires-then-axes-eq2-2 c =
    let e : to_z w64 (of_z w64 c.args.origin) ≡ c.args.origin = search rules in
    let n = c.if-axes-eq2.true in
    may_pass c.args _ e c.requires _ 1
    (passed c.args _ e c.requires _ 0 (omega (arith, n)) (input c.args _ e c.requires) c.pass-then-axes-eq2.ensures)
    (accepted c.args _ e c.requires).grid.lengths.0 (omega (arith, n))

pub returns-then-axes-eq2 : goal.returns-then-axes-eq2
returns-then-axes-eq2 c =
    let a = c.args in
    let e : to_z w64 (of_z w64 a.origin) ≡ a.origin = search rules in
    two_passes (order_of a.extreme) a.«data».now a.shape.now a.size a.modes (to_z w64 (of_z w64 a.origin)) a.out.now _ _ c.if-axes-eq2.true
    c.pass-then-axes-eq2.ensures c.pass-then-axes-eq2-2.ensures
    ∙ answered a _ e c.requires

pub pass-requires-2 : goal.pass-requires-2
pass-requires-2 c =
    let e : to_z w64 (of_z w64 c.args.origin) ≡ c.args.origin = search rules in
    let n = three c.args _ e c.requires c.if-axes-eq1.false c.if-axes-eq2.false in
    may_pass c.args _ e c.requires _ 0 (input c.args _ e c.requires) (accepted c.args _ e c.requires).grid.lengths.0 (omega (arith, n))

pub pass-requires-3 : goal.pass-requires-3
pass-requires-3 c =
    let e : to_z w64 (of_z w64 c.args.origin) ≡ c.args.origin = search rules in
    let n = three c.args _ e c.requires c.if-axes-eq1.false c.if-axes-eq2.false in
    may_pass c.args _ e c.requires _ 1
    (passed c.args _ e c.requires _ 0 (omega (arith, n)) (input c.args _ e c.requires) c.pass-2.ensures)
    (accepted c.args _ e c.requires).grid.lengths.1.0 (omega (arith, n))

pub pass-requires-4 : goal.pass-requires-4
pass-requires-4 c =
    let e : to_z w64 (of_z w64 c.args.origin) ≡ c.args.origin = search rules in
    let n = three c.args _ e c.requires c.if-axes-eq1.false c.if-axes-eq2.false in
    may_pass c.args _ e c.requires _ 2
    (passed c.args _ e c.requires _ 1 (omega (arith, n))
    (passed c.args _ e c.requires _ 0 (omega (arith, n)) (input c.args _ e c.requires) c.pass-2.ensures) c.pass-3.ensures)
    (c.pass-2.auto.out ∙ (accepted c.args _ e c.requires).grid.lengths.0) (omega (arith, n))

pub returns : goal.returns
returns c =
    let a = c.args in
    let e : to_z w64 (of_z w64 a.origin) ≡ a.origin = search rules in
    three_passes (order_of a.extreme) a.«data».now a.shape.now a.size a.modes (to_z w64 (of_z w64 a.origin)) a.out.now _ _ _
    (three a _ e c.requires c.if-axes-eq1.false c.if-axes-eq2.false) c.pass-2.ensures c.pass-3.ensures c.pass-4.ensures
    ∙ answered a _ e c.requires
