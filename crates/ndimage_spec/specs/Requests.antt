-- The requests: the word of each, and its parts in the order of reading, each by its letter (Parts.antt says what is
-- read for it).
--   request_table     a line for each request; its place is the request's number
--   request_words     the words      request_parts   the parts
--   request_of t      the number of the request that the token t names
--   parts_of n        the letters of the parts of request n
--   RequestTable t   a line for each request in the bytes t: the word and the parts of each are those of the table
use Rattle.std.specs.Prelude.{ℕ, ◌≡◌, List, [], ◌∷◌, map, get_or, Option}
use Prim.Native.String.{String}
use Rattle.words.specs.Words.{bytes_of, words_of, rests_of, place_in}

abbrev pub request_table : List (String × String)
request_table =
    ("correlate", "ALCDSKNWBVOE")
    ∷ ("convolve", "ALCDSKNWBVOE")
    ∷ ("correlate1d", "FALCDNWXBVOE")
    ∷ ("convolve1d", "FALCDNWXBVOE")
    ∷ ("minimum_filter1d", "ALCDZXBVOE")
    ∷ ("maximum_filter1d", "ALCDZXBVOE")
    ∷ ("minimum_filter", "ALCDZBVbvcwOET")
    ∷ ("maximum_filter", "ALCDZBVbvcwOET")
    ∷ ("uniform_filter", "ALCDZBVbvcwET")
    ∷ ("uniform_filter1d", "ALCDZXBVE")
    ∷ ("prewitt", "ALCDXBVbvcwET")
    ∷ ("sobel", "ALCDXBVbvcwET")
    ∷ ("pad", "ALCDPVRQE")
    ∷ ("pad_to", "ALCDPVRQEH")
    ∷ ("median_filter", "ALCDE")
    ∷ ("play", "GALCDET")
    ∷ ("symmetry", "FCD")
    ∷ ("kernel3d", "M")
    ∷ ("read_recipe", "G")
    ∷ ("write_recipe", "JYUE")
    ∷ ("help", "")
    ∷ []

abbrev pub request_words : List (List ℕ)
request_words = map (λ r. bytes_of r.0) request_table

abbrev pub request_parts : List (List ℕ)
request_parts = map (λ r. bytes_of r.1) request_table

abbrev pub request_of : List ℕ → Option ℕ
request_of t = place_in request_words t

abbrev pub parts_of : ℕ → List ℕ
parts_of n = get_or request_parts n []

pub record RequestTable (t : List ℕ) : Type 0 where
  pub words : words_of t ≡ request_words
  pub parts : rests_of t ≡ request_parts
