-- `pad_line::extension::extend_along` meets its contract: both rims are copied by steps, each from the cell that its first place reads.
use mathlib.Core.Path.{refl, ap}
use Prim.Native.Nat.{ℕ, ◌+◌}
use native.Mathlib.Omega.{arith}
use lib.IntN.{pos}
use Rattle.pad_line.proofs.RimSteps.{before-first, after_first, before_stepped, after_stepped, rims_filled}
use Rattle.pad_line.proofs.extension.extend_along.Goals as goal

pub overflow_add-before : goal.overflow_add-before
overflow_add-before c = let s = c in omega (arith, c.cell_before.ensures, before-first s.args.mode s.args.n s.args.left s.requires.fills_left, s.requires.room)

pub copy_steps-requires : goal.copy_steps-requires
copy_steps-requires c = let b = c in before_stepped b.requires (ap (λ (x : ℕ). b.args.left + x) b.cell_before.ensures)

pub overflow_add-after : goal.overflow_add-after
overflow_add-after c = let s = c in omega (arith, c.cell_after.ensures, after_first s.args.mode s.args.n, s.requires.room)

pub copy_steps-requires-2 : goal.copy_steps-requires-2
copy_steps-requires-2 c =
    let a = c in
    let s = a in
    after_stepped s.requires a.copy_steps.auto.out (ap (λ (x : ℕ). s.args.left + x) a.cell_after.ensures)

pub returns : goal.returns
returns c =
    let a = c in
    let b = a in
    let s = b in
    rims_filled s.requires (pos 0) s.args.line.now _ refl (ap (λ (x : ℕ). s.args.left + x) b.cell_before.ensures) a.copy_steps.ensures
    (ap (λ (x : ℕ). s.args.left + x) a.cell_after.ensures) c.copy_steps-2.ensures
