-- A recipe file, in the words of document 02: the letters LKS, a 16-bit version (1), a count byte of 1 to 16, then 7
-- bytes a step. Numbers of two bytes have the high byte first; a number below 0 is its two's complement.
--   no_step                          the step whose fields are all 0
--   step_bytes s                     the 7 bytes of a step: kind, axis, length, origin, border, constant
--   steps_bytes ss                   those of each step, one after the other
--   mark_of count                    the 6 bytes before the steps
--   file_of count steps              the file of the first count steps
--   step_at f at                     the step whose 7 bytes stand in f from place at on
--   sixteen count g                 the steps g 0, g 1, .., count of them, and then no_step, 16 in all
--   steps_of f                       the steps of the file f
--   bad_mark f                       13: under 6 bytes, another mark or another version
--   bad_step_count count len          14: no count of 1 to 16, or a length that is not 6 + 7 × count
--   bad_kind s, bad_step_border s      a kind over 2; a border over 4
--   bad_step_constant s               a constant other than 0 under another border than Constant
--   bad_step_origin s                 an origin other than 0 of a uniform step
--   bad_step s                       15: one of these
--   recipe_judged count steps len    14 and 15, of the first count steps and bytes of that length
--   file_judged f                    13, 14 and 15
--   Handed                           a number, a count and steps: what the reader hands over of any file
--   handed_over r count steps        a recipe under the number r: on a refusal all else is 0
--   read_of f                        what the reader hands over
--   handed answer                    an answer of the reader as that: a refusal is its number, and all else 0
use Rattle.std.specs.Prelude.{ℕ, ◌+◌, ◌*◌, ◌/◌, ◌%◌, Bool, not, ◌&&◌, ◌||◌, cond, List, [], ◌∷◌, ◌++◌, ltb, eqb, pos, nat_abs, length, get_or, take, Result, Ok, Err}
use Rattle.std.specs.Int.{w8, w16}
use Rattle.std.proofs.Common.{to_z, of_z}
use Rattle.numbers.specs.Lists.{tabulate, any_of}
use Rattle.numbers.specs.Ranges.{outside}
use Rattle.numbers.specs.Number.{refusal_number}
use Rattle.numbers.specs.Refusal.{Judged, refusal_of}
use Rattle.numbers.specs.declared.Refusal.{Refusal}
use Rattle.recipe_spec.specs.declared.Step.{Step}
use Rattle.recipe_spec.specs.declared.Recipe.{Recipe}

abbrev pub no_step : Step
no_step = record { kind = 0; axis = 0; length = 0; origin = pos 0; border = 0; constant = pos 0 }

-- ---- the bytes of a recipe
abbrev pub step_bytes : Step → List ℕ
step_bytes s =
    s.kind ∷ s.axis ∷ s.length ∷ of_z w8 s.origin ∷ s.border ∷ of_z w16 s.constant / 256
    ∷ of_z w16 s.constant % 256 ∷ []

abbrev pub steps_bytes : List Step → List ℕ
steps_bytes [] = []
steps_bytes (s ∷ ss) = step_bytes s ++ steps_bytes ss

abbrev pub mark_of : ℕ → List ℕ
mark_of count = 76 ∷ 75 ∷ 83 ∷ 0 ∷ 1 ∷ count ∷ []

unfoldable pub file_of : ℕ → List Step → List ℕ
file_of count steps = mark_of count ++ steps_bytes (take count steps)

-- ---- the recipe of bytes
abbrev pub step_at : List ℕ → ℕ → Step
step_at f at = record {
  kind = get_or f at 0;
  axis = get_or f (at + 1) 0;
  length = get_or f (at + 2) 0;
  origin = to_z w8 (get_or f (at + 3) 0);
  border = get_or f (at + 4) 0;
  constant = to_z w16 (get_or f (at + 5) 0 * 256 + get_or f (at + 6) 0);
}

abbrev pub sixteen : ℕ → (ℕ → Step) → List Step
sixteen count g = tabulate (λ k. cond (ltb k count) (g k) no_step) 0 16

abbrev pub steps_of : List ℕ → List Step
steps_of f = sixteen (get_or f 5 0) (λ k. step_at f (6 + 7 * k))

-- ---- the conditions
unfoldable pub bad_mark : List ℕ → Bool
bad_mark f =
    ltb (length f) 6 || not (eqb (get_or f 0 0) 76) || not (eqb (get_or f 1 0) 75) || not (eqb (get_or f 2 0) 83)
    || not (eqb (get_or f 3 0) 0) || not (eqb (get_or f 4 0) 1)

unfoldable pub bad_step_count : ℕ → ℕ → Bool
bad_step_count count len = outside 1 16 count || not (eqb len (6 + 7 * count))

abbrev pub bad_kind : Step → Bool
bad_kind s = ltb 2 s.kind

abbrev pub bad_step_border : Step → Bool
bad_step_border s = ltb 4 s.border

unfoldable pub bad_step_constant : Step → Bool
bad_step_constant s = not (eqb s.border 0) && not (eqb (nat_abs s.constant) 0)

unfoldable pub bad_step_origin : Step → Bool
bad_step_origin s = eqb s.kind 2 && not (eqb (nat_abs s.origin) 0)

unfoldable pub bad_step : Step → Bool
bad_step s = bad_kind s || bad_step_border s || bad_step_constant s || bad_step_origin s

abbrev pub recipe_judged : ℕ → List Step → ℕ → Judged
recipe_judged count steps len = (bad_step_count count len, 14) ∷ (any_of bad_step (take count steps), 15) ∷ []

abbrev pub file_judged : List ℕ → Judged
file_judged f = (bad_mark f, 13) ∷ recipe_judged (get_or f 5 0) (steps_of f) (length f)

-- ---- what the reader hands over
pub record Handed : Type 0 where
  pub number : ℕ
  pub count : ℕ
  pub steps : List Step

abbrev pub handed_over : ℕ → ℕ → List Step → Handed
handed_over r count steps = record {
  number = r;
  count = cond (eqb r 0) count 0;
  steps = cond (eqb r 0) steps (sixteen 0 (λ k. no_step));
}

abbrev pub read_of : List ℕ → Handed
read_of f = handed_over (refusal_of (file_judged f)) (get_or f 5 0) (steps_of f)

abbrev pub handed : Result Recipe Refusal → Handed
handed (Ok r) = record { number = 0; count = r.count; steps = r.steps }
handed (Err e) = record { number = refusal_number e; count = 0; steps = sixteen 0 (λ k. no_step) }
