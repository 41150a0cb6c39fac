-- What a lane of whole levels is padded with, from NumPy's page on `pad` (its modes constant, edge, maximum, mean,
-- median, minimum, reflect, symmetric, wrap). Where NumPy rounds a mean or a median to the nearest whole number, ties
-- to even, both are cut toward zero here.
--   filler_of mode         what the mode fills a lane's rims with; NumPy's reflect is Mirror, its symmetric is Reflect
--   level_of which s       the level of the line s that a statistic names
--   border_by filler s     the border that extends the lane s where its rims are filled so
--   rim_of mode s          the border that extends the lane s: a constant level, or cells of the lane
--   carries t filler      whether it is a level that the mode carries, and the test t holds of that
--   mode_along m           the mode that fills a lane's rims with its cells along m
--   mode_taking which      the mode that fills them with a statistic of the lane
--   statistic_of which s   what the code answers: level_of, and 0 of a line that mean and median do not serve
--   lane_serves p s l count left n
--                         whether lane l of p cells, s apart, is inside a grid of count cells and of at most 1,152
--                         cells, and the lane's own n cells from place left on are some and lie in it
--   filled_lane which p s l left n g
--                         what padding lane l of the grid g in place leaves: its own n cells from place left on
--                         extended to both ends by a statistic of them; nothing changes where lane_serves does not hold
use Rattle.std.specs.Prelude.{ℕ, ◌+◌, ◌-◌, Bool, false, ◌&&◌, cond, List, leb, ℤ, pos, length, take, drop}
use Rattle.numbers.specs.Limits.{longest_padded_axis}
use Rattle.lanes.specs.Lanes.{lane, with_lane, lane_inside}
use Rattle.border.specs.Border.{Border, constant, along}
use Rattle.border.specs.declared.CellBorder.{CellBorder}
use Rattle.border.specs.declared.PadMode.{PadMode}
use Rattle.border.specs.declared.PadMode.TheVariants.{Constant, Edge, Maximum, Mean, Median, Minimum, Reflect, Symmetric, Wrap}
use Rattle.pad_line.specs.Line.{padded_line}
use Rattle.statistics_spec.specs.Statistics.{minimum_of, maximum_of, mean_of, median_of, answered}
use Rattle.pad_spec.specs.declared.rim.Filler.{Filler}
use Rattle.pad_spec.specs.declared.rim.Statistic.{Statistic}

abbrev pub filler_of : PadMode → Filler
filler_of (Constant c) = Filler.Level c
filler_of Edge = Filler.Cells CellBorder.Nearest
filler_of Maximum = Filler.Statistic Statistic.Maximum
filler_of Mean = Filler.Statistic Statistic.Mean
filler_of Median = Filler.Statistic Statistic.Median
filler_of Minimum = Filler.Statistic Statistic.Minimum
filler_of Reflect = Filler.Cells CellBorder.Mirror
filler_of Symmetric = Filler.Cells CellBorder.Reflect
filler_of Wrap = Filler.Cells CellBorder.Wrap

abbrev pub level_of : Statistic → List ℤ → ℤ
level_of Statistic.Maximum s = maximum_of s
level_of Statistic.Mean s = mean_of s
level_of Statistic.Median s = median_of s
level_of Statistic.Minimum s = minimum_of s

abbrev pub border_by : Filler → List ℤ → Border ℤ
border_by (Filler.Level c) s = constant c
border_by (Filler.Cells m) s = along m
border_by (Filler.Statistic which) s = constant (level_of which s)

abbrev pub rim_of : PadMode → List ℤ → Border ℤ
rim_of mode s = border_by (filler_of mode) s

abbrev pub carries : (ℤ → Bool) → Filler → Bool
carries t (Filler.Level c) = t c
carries t (Filler.Cells m) = false
carries t (Filler.Statistic which) = false

abbrev pub mode_along : CellBorder → PadMode
mode_along CellBorder.Nearest = Edge
mode_along CellBorder.Mirror = Reflect
mode_along CellBorder.Reflect = Symmetric
mode_along CellBorder.Wrap = Wrap

abbrev pub mode_taking : Statistic → PadMode
mode_taking Statistic.Maximum = Maximum
mode_taking Statistic.Mean = Mean
mode_taking Statistic.Median = Median
mode_taking Statistic.Minimum = Minimum

abbrev pub statistic_of : Statistic → List ℤ → ℤ
statistic_of Statistic.Maximum s = maximum_of s
statistic_of Statistic.Mean s = answered mean_of s
statistic_of Statistic.Median s = answered median_of s
statistic_of Statistic.Minimum s = minimum_of s

unfoldable pub lane_serves : ℕ → ℕ → ℕ → ℕ → ℕ → ℕ → Bool
lane_serves p s l count left n = lane_inside p s l count && leb p longest_padded_axis && leb 1 n && leb (left + n) p

unfoldable pub filled_lane : Statistic → ℕ → ℕ → ℕ → ℕ → ℕ → List ℤ → List ℤ
filled_lane which p s l left n g =
    let own = take n (drop left (lane (pos 0) p s l g)) in
    cond (lane_serves p s l (length g) left n)
    (with_lane (pos 0) p s l (padded_line (pos 0) (constant (statistic_of which own)) left (p - (left + n)) own) g)
    g
