-- `copy_side` meets its contract: each mode has its steps, with which the lanes are filled.
use mathlib.Core.Path.{◌≡◌, sym, ap}
use Prim.Native.Nat.{◌<◌}
use native.Mathlib.Omega.{arith}
use Rattle.border.specs.declared.CellBorder.{CellBorder}
use Rattle.pad_line.specs.Steps.{step_up, step_down}
use Rattle.pad_copy_axis.specs.Steps.{StepsOf}
use Rattle.pad_copy_axis.proofs.CopiedRims.{rim_none, rim_all}
use Rattle.pad_copy_axis.proofs.side.copy_side.Goals as goal

pub returns-then-count-eq0 : goal.returns-then-count-eq0
returns-then-count-eq0 c = rim_all _ (sym c.if-count-eq0.true) (rim_none _ _ _ _ _ _ _)

pub read_from-from-requires : goal.read_from-from-requires
read_from-from-requires c = let s = c in (s.requires.0.room, s.requires.0.short, s.requires.1 s.args.a (omega arith) (omega (arith, (let some : 0 < c.args.count = omega (arith, c.if-count-eq0.false) in some))))

pub copy_lanes-requires : goal.copy_lanes-requires
copy_lanes-requires c = let r = c in (r.requires.0, r.requires.1, (let some : 0 < r.args.count = omega (arith, r.if-count-eq0.false) in some), (let steps : (m : CellBorder) → let a = r.args in a.mode ≡ m → StepsOf a.mode a.left a.n a.a r.read_from-from.result (step_up m) (step_down m) = λ m e. record { first = r.read_from-from.ensures; on = sym (ap step_up e); back = sym (ap step_down e) } in steps) _ c.in-Nearest.is)

pub copy_lanes-requires-in-Mirror : goal.copy_lanes-requires-in-Mirror
copy_lanes-requires-in-Mirror c = let r = c in (r.requires.0, r.requires.1, (let some : 0 < r.args.count = omega (arith, r.if-count-eq0.false) in some), (let steps : (m : CellBorder) → let a = r.args in a.mode ≡ m → StepsOf a.mode a.left a.n a.a r.read_from-from.result (step_up m) (step_down m) = λ m e. record { first = r.read_from-from.ensures; on = sym (ap step_up e); back = sym (ap step_down e) } in steps) _ c.in-Mirror.is)

pub copy_lanes-requires-in-Reflect : goal.copy_lanes-requires-in-Reflect
copy_lanes-requires-in-Reflect c = let r = c in (r.requires.0, r.requires.1, (let some : 0 < r.args.count = omega (arith, r.if-count-eq0.false) in some), (let steps : (m : CellBorder) → let a = r.args in a.mode ≡ m → StepsOf a.mode a.left a.n a.a r.read_from-from.result (step_up m) (step_down m) = λ m e. record { first = r.read_from-from.ensures; on = sym (ap step_up e); back = sym (ap step_down e) } in steps) _ c.in-Reflect.is)

pub copy_lanes-requires-in-Wrap : goal.copy_lanes-requires-in-Wrap
copy_lanes-requires-in-Wrap c = let r = c in (r.requires.0, r.requires.1, (let some : 0 < r.args.count = omega (arith, r.if-count-eq0.false) in some), (let steps : (m : CellBorder) → let a = r.args in a.mode ≡ m → StepsOf a.mode a.left a.n a.a r.read_from-from.result (step_up m) (step_down m) = λ m e. record { first = r.read_from-from.ensures; on = sym (ap step_up e); back = sym (ap step_down e) } in steps) _ c.in-Wrap.is)
