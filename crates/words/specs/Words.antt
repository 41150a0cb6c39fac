-- Words in tables of bytes.
--   bytes_of text          the bytes of a text, which has ASCII characters only
--   word_list texts        those of each
--   word_if b w ws         a word before others, where b holds
--   column_from e o w t    what stands in the bytes t before each byte e, from the last byte e or o before it on; w
--                         stands before t
--   words_of t             the words of a table: what stands before each space
--   rests_of t             what else its lines hold: what stands before each line feed, from the last space on
--   lines_of t             the lines of a text: what stands before each line feed
--   same_bytes a b         whether two lists of bytes are the same
--   place_in ws t          the first place of the word t in a list of words, counted from 0; place_from counts from n
use Rattle.std.specs.Prelude.{ℕ, ◌+◌, Bool, true, false, ◌&&◌, ◌||◌, cond, List, [], ◌∷◌, ◌++◌, map, eqb, Option, Some, None}
use Prim.Native.Char.{code}
use Prim.Native.String.{String, [] as none, ◌∷◌ as ◌before◌}

abbrev pub bytes_of : String → List ℕ
bytes_of none = []
bytes_of (c before s) = code c ∷ bytes_of s

abbrev pub word_list : List String → List (List ℕ)
word_list = map bytes_of

abbrev pub word_if : Bool → List ℕ → List (List ℕ) → List (List ℕ)
word_if true w ws = w ∷ ws
word_if false w ws = ws

unfoldable pub column_from : ℕ → ℕ → List ℕ → List ℕ → List (List ℕ)
column_from e o w [] = []
column_from e o w (x ∷ t) = word_if (eqb x e) w (column_from e o (cond (eqb x e || eqb x o) [] (w ++ (x ∷ []))) t)

abbrev pub words_of : List ℕ → List (List ℕ)
words_of t = column_from 32 10 [] t

abbrev pub rests_of : List ℕ → List (List ℕ)
rests_of t = column_from 10 32 [] t

abbrev pub lines_of : List ℕ → List (List ℕ)
lines_of t = column_from 10 10 [] t

abbrev pub same_bytes : List ℕ → List ℕ → Bool
same_bytes [] [] = true
same_bytes [] (y ∷ b) = false
same_bytes (x ∷ a) [] = false
same_bytes (x ∷ a) (y ∷ b) = eqb x y && same_bytes a b

abbrev pub place_from : ℕ → List (List ℕ) → List ℕ → Option ℕ
place_from n [] t = None
place_from n (w ∷ ws) t = cond (same_bytes w t) (Some n) (place_from (n + 1) ws t)

unfoldable pub place_in : List (List ℕ) → List ℕ → Option ℕ
place_in ws t = place_from 0 ws t
