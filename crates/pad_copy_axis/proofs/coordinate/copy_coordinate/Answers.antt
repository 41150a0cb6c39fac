-- `copy_coordinate` meets its contract: a run is one cell where the stride is 1.
use mathlib.Core.Path.{◌≡◌, sym, ap, ◌∙◌}
use Prim.Native.Nat.{ℕ, ◌*◌}
use native.Mathlib.Nat.{mul-one}
use Rattle.pad_spec.specs.Runs.{coordinate_set}
use Rattle.pad_copy_axis.proofs.coordinate.copy_coordinate.Goals as goal

pub copy_cells-requires : goal.copy_cells-requires
copy_cells-requires c =
    let s = c in
    let e : s.args.p * s.args.s ≡ s.args.p = ap (λ x. s.args.p * x) c.if-s-eq1.true ∙ mul-one s.args.p in
    (s.requires.0, s.requires.1, s.requires.2, s.requires.4 ∙ ap (λ x. s.args.blocks * x) e, s.requires.5)

pub returns-then-s-eq1 : goal.returns-then-s-eq1
returns-then-s-eq1 c =
    let s = c in
    c.copy_cells.ensures ∙ ap (λ (x : ℕ). coordinate_set s.args.p x s.args.from s.args.at s.args.out.now) (sym c.if-s-eq1.true)
