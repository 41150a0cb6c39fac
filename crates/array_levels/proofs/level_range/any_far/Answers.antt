-- `any_far` meets its contract: the two halves and the rest are the line.
use Rattle.std.proofs.Common.{◌+◌, ◌-◌, ◌/◌, ◌||◌, length, take, drop, sym, ap, ◌∙◌}
use Rattle.numbers.specs.Lists.{any_of}
use Rattle.array_levels.specs.Near.{is_far}
use Rattle.array_levels.proofs.Halves.{any_halves}
use Rattle.array_levels.proofs.level_range.any_far.Goals as goal

pub returns-then-far_in_two : goal.returns-then-far_in_two
returns-then-far_in_two c =
    let line = c.args.line.now in
    let rest = any_of is_far (take (length line - (length line / 2 + length line / 2)) (drop (length line / 2 + length line / 2) line)) in
    c.if-far_in_two.true ∙ ap (λ b. b || rest) (sym c.if-far_in_two.true ∙ c.far_in_two.ensures) ∙ any_halves is_far line

pub returns-else-far_in_two : goal.returns-else-far_in_two
returns-else-far_in_two c =
    let line = c.args.line.now in
    let rest = any_of is_far (take (length line - (length line / 2 + length line / 2)) (drop (length line / 2 + length line / 2) line)) in
    c.far_in.ensures ∙ ap (λ b. b || rest) (sym c.if-far_in_two.false ∙ c.far_in_two.ensures) ∙ any_halves is_far line
