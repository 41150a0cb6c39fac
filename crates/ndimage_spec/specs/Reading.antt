-- What the reader knows by its buffer and its state s: the token, where its bytes end, and whether there is a line.
--   token_in b n    the token of n bytes in front of the buffer b; nothing where it has more than 256 bytes, or more than
--                  the buffer
--   end_behind n    where n bytes end that were read behind the token; none where they are more than the buffer holds
--   input_ended s   whether the input has ended
--   no_line s       whether it ended before the first byte of a line
use Rattle.std.specs.Prelude.{ℕ, ◌+◌, Bool, cond, ◌&&◌, ◌||◌, List, [], eqb, ltb, length, get_or, take}

abbrev pub token_in : List ℕ → ℕ → List ℕ
token_in b n = cond (ltb 256 n || ltb (length b) n) [] (take n b)

abbrev pub end_behind : ℕ → ℕ
end_behind n = cond (ltb 65536 n) 256 (256 + n)

abbrev pub input_ended : List ℕ → Bool
input_ended s = eqb (get_or s 4 0) 3

abbrev pub no_line : List ℕ → Bool
no_line s = input_ended s && eqb (get_or s 2 0) 0
