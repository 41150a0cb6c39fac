-- `set_row` meets its contract: the buffer is as long as a row, and holds zeros.
use mathlib.Core.Path.{sym, ap, subst, ◌∙◌}
use Prim.Native.Nat.{ℕ, ◌*◌}
use lib.Seq.{length-take-le}
use Rattle.median_spec.specs.ByRows.{set_row, median_of_place, MaskNeeds}
use Rattle.median_spec.proofs.Spans.{blank_part}
use borrow.Author.Rules.{rules}
use Rattle.median_row.proofs.row.set_row.Goals as goal

pub slice_bounds-median_row-end : goal.slice_bounds-median_row-end
slice_bounds-median_row-end c = sym (length-take-le c.args.n _ ((search rules)))

pub median_row-requires : goal.median_row-requires
median_row-requires c =
    let s = c in
    (subst (λ (n : ℕ). MaskNeeds s.args.planes s.args.rows n s.args.mask.now) ((sym (length-take-le c.args.n _ ((search rules))))) s.requires.0, s.requires.1, s.requires.2, blank_part s.args.n 1024)

pub returns : goal.returns
returns c =
    let s = c in
    c.median_row.ensures
    ∙ ap (λ (n : ℕ). set_row (s.args.r * n) n (median_of_place s.args.planes s.args.rows n s.args.mask.now) s.args.out.now)
    (sym ((sym (length-take-le c.args.n _ ((search rules))))))
