-- The reader and the writer undo each other.
--   Reads f h    what the reader promises of what it hands over: it is read_of f, and a file that the reader accepts is
--                the file of it
--   Fitting s    the signed fields of s are numbers of 8 and 16 bits, as those of every step that is handed over
--   RoundTrips   of every recipe that the writer accepts, and of every file that the reader accepts
use Rattle.std.specs.Prelude.{ℕ, ◌<◌, ◌≡◌, List, length, get_or}
use Rattle.std.specs.Int.{w8, w16}
use Rattle.std.proofs.Common.{SFits}
use Rattle.numbers.specs.Lists.{Every}
use Rattle.numbers.specs.Refusal.{refusal_of}
use Rattle.recipe_spec.specs.declared.Step.{Step}
use Rattle.recipe_spec.specs.Recipes.{no_step, file_of, sixteen, recipe_judged, file_judged, Handed, read_of}

pub record Reads (f : List ℕ) (h : Handed) : Type 0 where
  pub hands : h ≡ read_of f
  pub file : h.number ≡ 0 → f ≡ file_of h.count h.steps

abbrev pub Fitting : Step → Type 0
Fitting s = SFits w8 s.origin × SFits w16 s.constant

pub record RoundTrips : Type 0 where
  -- reading what was written gives it back, steps past the count as 0
  pub written_read : (count : ℕ) (steps : List Step) (len : ℕ) → length steps ≡ 16 → Every Fitting steps
      → refusal_of (recipe_judged count steps len) ≡ 0 → read_of (file_of count steps)
      ≡ record { number = 0; count = count; steps = sixteen count (λ k. get_or steps k no_step) }
  -- writing what was read is accepted, and gives the same bytes
  pub read-accepted : (f : List ℕ) → refusal_of (file_judged f) ≡ 0
      → refusal_of (recipe_judged (read_of f).count (read_of f).steps (length f)) ≡ 0
  pub read_written : (f : List ℕ) → Every (λ b. b < 256) f → refusal_of (file_judged f) ≡ 0
      → file_of (read_of f).count (read_of f).steps ≡ f
