-- Recipes as plain numbers, for callers without structs: six numbers a step, in the order of its fields.
--   step_fields s                   the six numbers of a step: kind, axis, length, origin, border, constant
--   steps_fields ss                 those of each step, one after the other
--   recipe_fields count steps       the count, then the six numbers of each step: of 16 steps 97 numbers
--   bad_byte z                      a number that no byte holds: outside 0..255
--   bad_signed8 z, bad_signed16 z    one that no 8 or 16 signed bits hold: outside −128..127, −32,768..32,767
--   byte_of z                       the byte of a number
--   signed8_of z, signed16_of z      the number of 8 or 16 signed bits. What they cannot hold counts as 0
--   step_from f at                  the step whose six numbers stand in f from place at on; missing numbers are 0
--   steps_from f                    the 16 steps whose numbers stand in f, one after the other
--   bad_field j z                   whether a step's field j cannot hold z
--   bad_fields f                    whether one of the first 96 numbers is one that its field cannot hold
--   fields_judged f len             what reading the file f refuses: 13 to 15, then 2 where not 97 cells are lent
--   numbers_judged count f len      what writing the numbers f refuses: 14 and 15 of the 16 steps, then 100 of a number
--                                  that its field cannot hold
use Rattle.std.specs.Prelude.{ℕ, ◌+◌, ◌*◌, ◌%◌, Bool, not, cond, List, [], ◌∷◌, ◌++◌, eqb, ℤ, pos, neg_ℤ, nat_abs, get_or}
use Rattle.numbers.specs.Lists.{tabulate, any_of}
use Rattle.numbers.specs.Ranges.{outside_z}
use Rattle.numbers.specs.Refusal.{Judged}
use Rattle.codes.specs.Codes.{coded}
use Rattle.recipe_spec.specs.declared.Step.{Step}
use Rattle.recipe_spec.specs.Recipes.{recipe_judged, file_judged}

-- ---- the numbers of a recipe
abbrev pub step_fields : Step → List ℤ
step_fields s =
    pos s.kind ∷ pos s.axis ∷ pos s.length ∷ s.origin ∷ pos s.border ∷ s.constant ∷ []

abbrev pub steps_fields : List Step → List ℤ
steps_fields [] = []
steps_fields (s ∷ ss) = step_fields s ++ steps_fields ss

unfoldable pub recipe_fields : ℕ → List Step → List ℤ
recipe_fields count steps = pos count ∷ steps_fields steps

-- ---- what a field holds
unfoldable pub bad_byte : ℤ → Bool
bad_byte z = outside_z (pos 0) (pos 255) z

unfoldable pub bad_signed8 : ℤ → Bool
bad_signed8 z = outside_z (neg_ℤ (pos 128)) (pos 127) z

unfoldable pub bad_signed16 : ℤ → Bool
bad_signed16 z = outside_z (neg_ℤ (pos 32768)) (pos 32767) z

unfoldable pub byte_of : ℤ → ℕ
byte_of z = cond (bad_byte z) 0 (nat_abs z)

unfoldable pub signed8_of : ℤ → ℤ
signed8_of z = cond (bad_signed8 z) (pos 0) z

unfoldable pub signed16_of : ℤ → ℤ
signed16_of z = cond (bad_signed16 z) (pos 0) z

-- ---- the recipe of numbers
abbrev pub step_from : List ℤ → ℕ → Step
step_from f at = record {
  kind = byte_of (get_or f at (pos 0));
  axis = byte_of (get_or f (at + 1) (pos 0));
  length = byte_of (get_or f (at + 2) (pos 0));
  origin = signed8_of (get_or f (at + 3) (pos 0));
  border = byte_of (get_or f (at + 4) (pos 0));
  constant = signed16_of (get_or f (at + 5) (pos 0));
}

abbrev pub steps_from : List ℤ → List Step
steps_from f = tabulate (λ k. step_from f (6 * k)) 0 16

-- ---- the conditions
unfoldable pub bad_field : ℕ → ℤ → Bool
bad_field j z = cond (eqb j 3) (bad_signed8 z) (cond (eqb j 5) (bad_signed16 z) (bad_byte z))

unfoldable pub bad_fields : List ℤ → Bool
bad_fields f = any_of (λ k. bad_field (k % 6) (get_or f k (pos 0))) (tabulate (λ k. k) 0 96)

abbrev pub fields_judged : List ℕ → ℕ → Judged
fields_judged f len = file_judged f ++ ((not (eqb len 97), 2) ∷ [])

abbrev pub numbers_judged : ℕ → List ℤ → ℕ → Judged
numbers_judged count f len = coded (recipe_judged count (steps_from f) len) (bad_fields f)
