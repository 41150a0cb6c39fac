-- `pad::calls::lay_in` meets its contract: an accepted call has a frame, and the grid is laid in it as what the mode fills a rim with says.
use mathlib.Core.Path.{◌≡◌, sym, ap, ◌∙◌}
use mathlib.Core.Bool.{true}
use mir.Syntax.{w64}
use mir.Val.{to_z, of_z}
use lib.ListN.{length}
use Rattle.pad_spec.specs.Fill.{carries}
use Rattle.pad_spec.proofs.Fillers.{mode_level, mode_cells, mode_statistic}
use Rattle.pad_spec.specs.Pads.{lefts_of, rights_of}
use Rattle.pad.proofs.Accepted.{Passed, passed, framed_set, filling_set, lent_set}
use Rattle.pad.proofs.Started.{asked-level, asked-filled}
use borrow.Author.Rules.{rules}
use Rattle.pad.proofs.calls.lay_in.Goals as goal

pub set_frame-requires : goal.set_frame-requires
set_frame-requires c =
    let s = c in
    let P = (let accepted : let a = s.args in Passed a.mode a.shape.now a.pads a.count a.«data».now (length a.out.now) = let a = s.args in passed a.mode a.shape.now a.pads a.count a.«data».now (length a.out.now) s.requires.0 in accepted) in
    (P.grid.shape, P.pairs, P.limits, s.requires.1, s.requires.2)

pub lay_level-requires : goal.lay_level-requires
lay_level-requires c =
    let f = c in
    let s = f in
    let P = (let accepted : let a = s.args in Passed a.mode a.shape.now a.pads a.count a.«data».now (length a.out.now) = let a = s.args in passed a.mode a.shape.now a.pads a.count a.«data».now (length a.out.now) s.requires.0 in accepted) in
    let e = f.set_frame.ensures in
    (framed_set P ((let three : length s.args.pads ≡ 3 = search rules in three)) e.0 e.1, P.grid.count, lent_set P ((let three : length s.args.pads ≡ 3 = search rules in three)) e.1)

pub lay_cells-requires : goal.lay_cells-requires
lay_cells-requires c =
    let t = c in
    let g = t in
    let f = g in
    let s = f in
    let P = (let accepted : let a = s.args in Passed a.mode a.shape.now a.pads a.count a.«data».now (length a.out.now) = let a = s.args in passed a.mode a.shape.now a.pads a.count a.«data».now (length a.out.now) s.requires.0 in accepted) in
    let e = f.set_frame.ensures in
    (filling_set P ((let three : length s.args.pads ≡ 3 = search rules in three)) (sym g.filler_of-filler.ensures ∙ t.in-Cells.is) e.0 e.1, P.grid.levels, P.grid.count, lent_set P ((let three : length s.args.pads ≡ 3 = search rules in three)) e.1)

pub lay_statistic-requires : goal.lay_statistic-requires
lay_statistic-requires c =
    let f = c in
    let s = f in
    let P = (let accepted : let a = s.args in Passed a.mode a.shape.now a.pads a.count a.«data».now (length a.out.now) = let a = s.args in passed a.mode a.shape.now a.pads a.count a.«data».now (length a.out.now) s.requires.0 in accepted) in
    let e = f.set_frame.ensures in
    (framed_set P ((let three : length s.args.pads ≡ 3 = search rules in three)) e.0 e.1, P.grid.levels, P.grid.count, lent_set P ((let three : length s.args.pads ≡ 3 = search rules in three)) e.1)

pub returns-in-Level : goal.returns-in-Level
returns-in-Level c =
    let t = c in
    let g = t in
    let f = g in
    let s = f in
    let a = s.args in
    let ns = a.shape.now in
    let e = f.set_frame.ensures in
    asked-level ns (lefts_of ns a.pads a.count) (rights_of ns a.pads a.count) a.«data».now a.out.now e.0 e.1 a.whole a.mode
    (mode_level a.mode (sym g.filler_of-filler.ensures ∙ t.in-Level.is)) ((let read_back : let z = c.in-Level.c in to_z w64 (of_z w64 z) ≡ z = search rules in read_back)) (lent_set ((let accepted : let a = s.args in Passed a.mode a.shape.now a.pads a.count a.«data».now (length a.out.now) = let a = s.args in passed a.mode a.shape.now a.pads a.count a.«data».now (length a.out.now) s.requires.0 in accepted)) ((let three : length s.args.pads ≡ 3 = search rules in three)) e.1)
    c.lay_level.ensures

pub returns-in-Cells : goal.returns-in-Cells
returns-in-Cells c =
    let t = c in
    let g = t in
    let f = g in
    let a = f.args in
    let ns = a.shape.now in
    let e = f.set_frame.ensures in
    let m = sym g.filler_of-filler.ensures ∙ t.in-Cells.is in
    asked-filled ns (lefts_of ns a.pads a.count) (rights_of ns a.pads a.count) a.«data».now a.out.now e.0 e.1 a.whole a.mode
    (mode_cells a.mode m) (ap (carries (λ x. true)) m) c.lay_cells.ensures

pub returns-in-Statistic : goal.returns-in-Statistic
returns-in-Statistic c =
    let t = c in
    let g = t in
    let f = g in
    let a = f.args in
    let ns = a.shape.now in
    let e = f.set_frame.ensures in
    let m = sym g.filler_of-filler.ensures ∙ t.in-Statistic.is in
    asked-filled ns (lefts_of ns a.pads a.count) (rights_of ns a.pads a.count) a.«data».now a.out.now e.0 e.1 a.whole a.mode
    (mode_statistic a.mode m) (ap (carries (λ x. true)) m) c.lay_statistic.ensures
