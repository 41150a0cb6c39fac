-- What is read for a part of a request: tokens of which kind, how many, and where the numbers go. Counts and words go
-- to slots of the reader's state, levels to places among the levels or floats, and of bytes their number to a slot.
--   nowhere             the slot of a number that is not kept: beyond every array
--   part_table           a line for each part, by its letter
--   part_of letter       its part; of a letter that names none, one whose number is not kept
--   times_of t last      how many tokens a part has, by the last count
--   is_float k form      whether a token is a float: a level, where the word of the form is f, whose code is 1
--   slot_of start most i where number i of a part goes
--   words_for k          the words that a token of kind k may be, in the order of their codes
--   last_after c         what a word leaves for the next part: 1 for the first of its table, else 0
use Rattle.std.specs.Prelude.{ℕ, ◌+◌, ◌*◌, min, Bool, false, cond, List, [], ◌∷◌, eqb, ltb}
use Prim.Native.Char.{Char, code}
use Rattle.words.specs.Words.{word_list}
use Rattle.codes.specs.Words.{border_words, pad_words, kernel_words}
use Rattle.ndimage_spec.specs.declared.Kind.{Kind}
use Rattle.ndimage_spec.specs.declared.Kind.TheVariants.{Form, Border, Padding, Kernel, Count}
use Rattle.ndimage_spec.specs.declared.Kind.TheVariants.{Whole, Level, Bytes}
use Rattle.ndimage_spec.specs.declared.Times.{Times}
use Rattle.ndimage_spec.specs.declared.Times.TheVariants.{Once, Last, TwiceLast, SixLast}
use Rattle.ndimage_spec.specs.declared.Part.{Part}

abbrev pub nowhere : ℕ
nowhere = 18446744073709551615

abbrev pub part : Kind → Times → ℕ → ℕ → Part
part k t start most = record { 0 = k; 1 = t; 2 = start; 3 = most }

abbrev pub part_table : List (Char × Part)
part_table =
    -- what levels are
    ("F", part Form Once 8 1)
    -- a grid: its axes, their lengths, its cells, their levels
    ∷ ("A", part Count Once 9 1)
    ∷ ("L", part Count Last 20 4)
    ∷ ("C", part Count Once 10 1)
    ∷ ("D", part Level Last 0 8193)
    -- the sides of a kernel
    ∷ ("S", part Count Once 11 1)
    ∷ ("K", part Count Last 24 4)
    -- weights
    ∷ ("N", part Count Once 12 1)
    ∷ ("W", part Level Last 8193 344)
    -- the size of a window, and an axis
    ∷ ("Z", part Count Once 13 1)
    ∷ ("X", part Count Once 14 1)
    -- a border or a padding mode, and the constant, where there is one; or the word of a kernel
    ∷ ("B", part Border Once 15 1)
    ∷ ("P", part Padding Once 15 1)
    ∷ ("M", part Kernel Once 15 1)
    ∷ ("V", part Level Last 8537 1)
    -- the borders of axes 1 and 2 in requests that take three, each with its constant
    ∷ ("b", part Border Once 36 1)
    ∷ ("v", part Level Last 41404 1)
    ∷ ("c", part Border Once 37 1)
    ∷ ("w", part Level Last 41405 1)
    -- an origin
    ∷ ("O", part Whole Once 8538 1)
    -- pairs of pads
    ∷ ("R", part Count Once 16 1)
    ∷ ("Q", part Count TwiceLast 28 6)
    -- how many cells are lent as the output, what it holds before, and how many as the second grid
    ∷ ("E", part Count Once 17 1)
    ∷ ("H", part Whole Last 8539 32769)
    ∷ ("T", part Count Once 18 1)
    -- the bytes of a recipe file; the count that is written to one, how many steps follow, and their numbers
    ∷ ("G", part Bytes Once 19 1)
    ∷ ("J", part Count Once 34 1)
    ∷ ("Y", part Count Once 35 1)
    ∷ ("U", part Whole SixLast 41308 96)
    ∷ []

abbrev pub part_in : List (Char × Part) → ℕ → Part
part_in [] letter = part Count Once nowhere 0
part_in (p ∷ ps) letter = cond (eqb letter (code p.0)) p.1 (part_in ps letter)

unfoldable pub part_of : ℕ → Part
part_of letter = part_in part_table letter

abbrev pub times_of : Times → ℕ → ℕ
times_of Once last = 1
times_of Last last = last
times_of TwiceLast last = min (2 * last) nowhere
times_of SixLast last = min (6 * last) nowhere

abbrev pub is_float : Kind → ℕ → Bool
is_float Form form = false
is_float Border form = false
is_float Padding form = false
is_float Kernel form = false
is_float Count form = false
is_float Whole form = false
is_float Level form = eqb form 1
is_float Bytes form = false

abbrev pub slot_of : ℕ → ℕ → ℕ → ℕ
slot_of start most i = cond (ltb i most) (min (start + i) nowhere) nowhere

abbrev pub form_words : List (List ℕ)
form_words = word_list ("i" ∷ "f" ∷ [])

abbrev pub words_for : Kind → List (List ℕ)
words_for Form = form_words
words_for Border = border_words
words_for Padding = pad_words
words_for Kernel = kernel_words
words_for Count = []
words_for Whole = []
words_for Level = []
words_for Bytes = []

abbrev pub last_after : ℕ → ℕ
last_after c = cond (eqb c 0) 1 0
