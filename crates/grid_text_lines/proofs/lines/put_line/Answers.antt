-- `put_line` meets its contract: the number at the front, and the line feed behind it.
use native.Mathlib.Omega.{arith}
use mathlib.Core.Path.{ap, ◌∙◌}
use mir.Facts.{to_z-of_z}
use mir.Syntax.{w64}
use Rattle.text_spec.specs.Writing.{signed_text, written_in, written_count}
use Rattle.grid_text_spec.proofs.Lined.{line_most, put_line, put_place}
use Rattle.grid_text_lines.proofs.lines.put_line.Goals as goal

pub bounds-out-n : goal.bounds-out-n
bounds-out-n c =
    let s = c in
    let w = c.write_signed-n in
    let y = to_z-of_z {w = w64} s.ranges.z in
    omega (arith, put_place s.args.z s.args.out.now s.requires w.result (w.ensures.value ∙ ap (λ x. written_count (signed_text x) s.args.out.now) y), w.auto.out)

pub overflow_add-result : goal.overflow_add-result
overflow_add-result c =
    let s = c in
    let w = c.write_signed-n in
    let y = to_z-of_z {w = w64} s.ranges.z in
    let p = put_line s.args.z s.args.out.now s.requires w.new.out w.result (w.ensures.value ∙ ap (λ x. written_count (signed_text x) s.args.out.now) y)
    (w.ensures.out_after ∙ ap (λ x. written_in (signed_text x) s.args.out.now) y) in
    omega (arith, p.0, line_most s.args.z)

pub returns : goal.returns
returns c =
    let s = c in
    let w = c.write_signed-n in
    let y = to_z-of_z {w = w64} s.ranges.z in
    let p = put_line s.args.z s.args.out.now s.requires w.new.out w.result (w.ensures.value ∙ ap (λ x. written_count (signed_text x) s.args.out.now) y)
    (w.ensures.out_after ∙ ap (λ x. written_in (signed_text x) s.args.out.now) y) in
    record { value = p.0; out_after = p.1 }
