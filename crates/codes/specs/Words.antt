-- The words that name borders, padding modes, kernels and symmetry classes: a word's place in its list is its code.
--   border_words   of borders        pad_words     of padding modes
--   kernel_words   of kernels        class_words   of symmetry classes
use Rattle.std.specs.Prelude.{ℕ, List, [], ◌∷◌}
use Rattle.words.specs.Words.{word_list}

abbrev pub border_words : List (List ℕ)
border_words = word_list ("constant" ∷ "mirror" ∷ "nearest" ∷ "reflect" ∷ "wrap" ∷ [])

abbrev pub pad_words : List (List ℕ)
pad_words = word_list (
    "constant" ∷ "edge" ∷ "maximum" ∷ "mean" ∷ "median" ∷ "minimum" ∷ "reflect" ∷ "symmetric" ∷ "wrap" ∷ [])

abbrev pub kernel_words : List (List ℕ)
kernel_words = word_list ("star" ∷ "ball" ∷ "full" ∷ [])

abbrev pub class_words : List (List ℕ)
class_words = word_list ("NonSymmetric" ∷ "Symmetric" ∷ "AntiSymmetric" ∷ [])
