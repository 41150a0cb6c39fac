-- Levels as lines of text, each in decimal with a line feed after it.
--   line_room             the bytes that a line may have: a minus, 19 digits and the line feed
--   line_of z             the line of a level
--   level_lines levels    the lines of levels, one after the other
--   room_lacks levels l   whether l has less than 21 bytes for each level
--   lines_in levels l     the lines at the front of l, where there is room for all; else l as it was
--   lines_count levels l  how many bytes they are, or 0
use Rattle.std.specs.Prelude.{ℕ, ◌/◌, Bool, cond, List, [], ◌∷◌, ◌++◌, ltb, ℤ, length, drop}
use Rattle.text_spec.specs.Writing.{signed_text}

abbrev pub line_room : ℕ
line_room = 21

abbrev pub line_of : ℤ → List ℕ
line_of z = signed_text z ++ 10 ∷ []

abbrev pub level_lines : List ℤ → List ℕ
level_lines [] = []
level_lines (z ∷ zs) = line_of z ++ level_lines zs

abbrev pub room_lacks : List ℤ → List ℕ → Bool
room_lacks levels l = ltb (length l / line_room) (length levels)

abbrev pub lines_in : List ℤ → List ℕ → List ℕ
lines_in levels l = cond (room_lacks levels l) l (level_lines levels ++ drop (length (level_lines levels)) l)

abbrev pub lines_count : List ℤ → List ℕ → ℕ
lines_count levels l = cond (room_lacks levels l) 0 (length (level_lines levels))
