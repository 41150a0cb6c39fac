-- `answer` meets its contract: the file's number, the text's, and what the player leaves at the front of what is lent.
use mathlib.Core.Path.{refl, sym, ap, ◌∙◌}
use lib.ListN.{length}
use lib.Seq.{length-take-le}
use Rattle.std.proofs.lemmas.Result.{err_from_is_err_and}
use Rattle.numbers.specs.Number.{answer_number}
use Rattle.numbers.proofs.Number.{number_some}
use Rattle.recipe_spec.specs.Recipes.{Handed}
use Rattle.play_text.proofs.Fed.{room_is}
use Rattle.play_text.proofs.FromText.{from_file, from_text, from_room, from_play}
use Rattle.play_text.proofs.played.answer.Goals as goal

pub returns-in_err-read_recipe : goal.returns-in_err-read_recipe
returns-in_err-read_recipe c =
    let a = c.args in
    let p = err_from_is_err_and c.from_residual.result c.from_residual.ensures.1 in
    rw (p.1, p.2)
    (from_file a.file.now a.state a.lengths.now a.levels.now a.out.now a.second.now
    (ap (λ (h : Handed). h.number) c.in_err-read_recipe.ensures.hands) (number_some _))

pub returns-in_err-finish : goal.returns-in_err-finish
returns-in_err-finish c =
    let a = c.args in
    let p = err_from_is_err_and c.from_residual-in_err-finish.result c.from_residual-in_err-finish.ensures.1 in
    rw (p.1, p.2)
    (from_text a.file.now a.state a.lengths.now a.levels.now a.out.now a.second.now
    (ap (λ (h : Handed). h.number) c.in_ok-read_recipe.ensures.hands) refl c.in_err-finish.ensures (number_some _))

pub returns-then-lacks_room : goal.returns-then-lacks_room
returns-then-lacks_room c =
    let a = c.args in
    from_room a.file.now a.state a.lengths.now a.levels.now a.out.now a.second.now
    (ap (λ (h : Handed). h.number) c.in_ok-read_recipe.ensures.hands) refl c.in_ok-finish.ensures refl
    (sym c.lacks_room.ensures ∙ c.if-lacks_room.true)

pub slice_bounds-play-end : goal.slice_bounds-play-end
slice_bounds-play-end c =
    let a = c.args in
    sym (length-take-le _ _ (room_is a.state.shape.axes a.state.shape.cells (length a.lengths.now) (length a.levels.now) (length a.out.now) (length a.second.now)
    (sym c.lacks_room.ensures ∙ c.if-lacks_room.false)).1)

pub slice_bounds-play-end-2 : goal.slice_bounds-play-end-2
slice_bounds-play-end-2 c =
    let a = c.args in
    sym (length-take-le _ _ (room_is a.state.shape.axes a.state.shape.cells (length a.lengths.now) (length a.levels.now) (length a.out.now) (length a.second.now)
    (sym c.lacks_room.ensures ∙ c.if-lacks_room.false)).0)

pub slice_bounds-play-end-3 : goal.slice_bounds-play-end-3
slice_bounds-play-end-3 c =
    let a = c.args in
    (room_is a.state.shape.axes a.state.shape.cells (length a.lengths.now) (length a.levels.now) (length a.out.now) (length a.second.now)
    (sym c.lacks_room.ensures ∙ c.if-lacks_room.false)).2

pub slice_bounds-play-end-4 : goal.slice_bounds-play-end-4
slice_bounds-play-end-4 c =
    let a = c.args in
    sym (length-take-le _ _ (room_is a.state.shape.axes a.state.shape.cells (length a.lengths.now) (length a.levels.now) (length a.out.now) (length a.second.now)
    (sym c.lacks_room.ensures ∙ c.if-lacks_room.false)).2)

pub slice_bounds-play-end-5 : goal.slice_bounds-play-end-5
slice_bounds-play-end-5 c =
    let a = c.args in
    (room_is a.state.shape.axes a.state.shape.cells (length a.lengths.now) (length a.levels.now) (length a.out.now) (length a.second.now)
    (sym c.lacks_room.ensures ∙ c.if-lacks_room.false)).3

pub slice_bounds-play-end-6 : goal.slice_bounds-play-end-6
slice_bounds-play-end-6 c =
    let a = c.args in
    sym (length-take-le _ _ (room_is a.state.shape.axes a.state.shape.cells (length a.lengths.now) (length a.levels.now) (length a.out.now) (length a.second.now)
    (sym c.lacks_room.ensures ∙ c.if-lacks_room.false)).3)

pub returns : goal.returns
returns c =
    let a = c.args in
    let p = c.play in
    from_play a.file.now a.state a.lengths.now a.levels.now a.out.now a.second.now
    (ap (λ (h : Handed). h.number) c.in_ok-read_recipe.ensures.hands) refl c.in_ok-finish.ensures refl
    p.new.out p.new.second (answer_number p.result) p.ensures
