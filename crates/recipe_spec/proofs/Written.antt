-- What was written is read again, and what was read is written again.
-- Assumes nothing.
use Prim.Native.Nat.{ℕ, ◌+◌, ◌*◌, ◌/◌, ◌≤◌, ◌<◌}
use native.Mathlib.Nat.{add-zero, div-add-mod'}
use native.Mathlib.Omega.{arith}
use mathlib.Core.Path.{◌≡◌, refl, sym, ap, ◌∙◌}
use mathlib.Core.Bool.{Bool, true, false, cond}
use mathlib.Core.List.{List}
use borrow.Author.Tests.{lt-ltb, ltb-true}
use lib.Dec.{ltb, lit<}
use lib.ListN.{length, get_or, take, length-take}
use lib.Seq.{get_or-take}
use mir.Syntax.{w8, w16}
use mir.Val.{to_z, of_z}
use mir.Facts.{to_z-of_z}
use Rattle.numbers.specs.Lists.{tabulate, any_of, Every}
use Rattle.numbers.specs.Refusal.{refusal_of}
use Rattle.numbers.proofs.Any.{every_at, every_get_d}
use Rattle.numbers.proofs.Chain.{judged-all}
use Rattle.numbers.proofs.Stored.{Stored, front-all}
use Rattle.numbers.proofs.Tabulate.{tabulate_agree, tabulate_members, tabulate_unique, take-tabulate}
use Rattle.numbers.proofs.Tests.{cond_yes}
use Rattle.recipe_spec.specs.declared.Step.{Step}
use Rattle.recipe_spec.specs.Recipes.{no_step, step_bytes, mark_of, file_of, step_at, sixteen, steps_of, bad_mark, bad_step_count, bad_step, recipe_judged, file_judged, read_of}
use Rattle.recipe_spec.specs.Back.{Fitting}
use Rattle.recipe_spec.proofs.Judge.{mark_good, count_is, count_good}
use Rattle.recipe_spec.proofs.Steps.{file-mark, file-length, file-step}
use Rattle.recipe_spec.proofs.Read.{read_0, accepted-file}

-- the step whose bytes stand at a place
step_again : (s : Step) (f : List ℕ) (at : ℕ) → Fitting s → ((r : ℕ) → r < 7 → get_or f (at + r) 0 ≡ get_or (step_bytes s) r 0) → step_at f at ≡ s
step_again s f at t h = (λ i. record { kind = first i; axis = h 1 (lit< tt) i; length = h 2 (lit< tt) i; origin = o i; border = h 4 (lit< tt) i; constant = k i })
  where
    first : get_or f at 0 ≡ s.kind
    first = ap (λ j. get_or f j 0) (sym (add-zero at)) ∙ h 0 (lit< tt)

    o : to_z w8 (get_or f (at + 3) 0) ≡ s.origin
    o = ap (to_z w8) (h 3 (lit< tt)) ∙ to_z-of_z t.0

    k : to_z w16 (get_or f (at + 5) 0 * 256 + get_or f (at + 6) 0) ≡ s.constant
    k =
        ap (λ n. to_z w16 (n * 256 + get_or f (at + 6) 0)) (h 5 (lit< tt))
        ∙ ap (λ n. to_z w16 (of_z w16 s.constant / 256 * 256 + n)) (h 6 (lit< tt))
        ∙ ap (to_z w16) (div-add-mod' (of_z w16 s.constant) 256)
        ∙ to_z-of_z t.1

module _ (count : ℕ) (steps : List Step) (e : length steps ≡ 16) (t : Every Fitting steps) (lo : 1 ≤ count) (hi : count ≤ 16) where
  enough : count ≤ length steps
  enough = omega arith

  count_there : get_or (file_of count steps) 5 0 ≡ count
  count_there = file-mark count steps 5 (lit< tt)

  step_there : (k : ℕ) → k < count → step_at (file_of count steps) (6 + 7 * k) ≡ get_or steps k no_step
  step_there k h =
      step_again (get_or steps k no_step) (file_of count steps) (6 + 7 * k) (every_at Fitting steps no_step t k (omega arith))
      (λ r b. file-step count steps k r h enough b)

  steps_there : steps_of (file_of count steps) ≡ sixteen count (λ k. get_or steps k no_step)
  steps_there =
      ap (λ n. sixteen n (λ k. step_at (file_of count steps) (6 + 7 * k))) count_there
      ∙ tabulate_agree _ _ 0 16 (λ k b. at (0 + k) (ltb (0 + k) count) refl)
    where
      at : (k : ℕ) (u : Bool) → ltb k count ≡ u → cond u (step_at (file_of count steps) (6 + 7 * k)) no_step ≡ cond u (get_or steps k no_step) no_step
      at k true q = step_there k (ltb-true k count q)
      at k false q = refl

  first_steps : take count (sixteen count (λ k. get_or steps k no_step)) ≡ take count steps
  first_steps =
      take-tabulate (λ k. cond (ltb k count) (get_or steps k no_step) no_step) 0 16 count hi
      ∙ sym (tabulate_unique no_step (λ k. cond (ltb k count) (get_or steps k no_step) no_step) (take count steps) count (omega (arith, length-take count steps))
      (λ k b. get_or-take count steps k no_step b ∙ sym (cond_yes (ltb k count) (get_or steps k no_step) no_step (lt-ltb k count b))))

  mark_there : bad_mark (file_of count steps) ≡ false
  mark_there =
      mark_good (file_of count steps) (omega (arith, file-length count steps enough)) (m 0 (lit< tt)) (m 1 (lit< tt)) (m 2 (lit< tt)) (m 3 (lit< tt)) (m 4 (lit< tt))
    where
      m : (i : ℕ) → i < 6 → get_or (file_of count steps) i 0 ≡ get_or (mark_of count) i 0
      m = file-mark count steps

  length_there : bad_step_count (get_or (file_of count steps) 5 0) (length (file_of count steps)) ≡ false
  length_there = ap (λ n. bad_step_count n (length (file_of count steps))) count_there ∙ count_good count (length (file_of count steps)) lo hi (file-length count steps enough)

  there : any_of bad_step (take count steps) ≡ false → read_of (file_of count steps) ≡ record { number = 0; count = count; steps = sixteen count (λ k. get_or steps k no_step) }
  there b =
      sym (read_0 (file_of count steps) mark_there length_there
      (ap (λ n. any_of bad_step (take n (steps_of (file_of count steps)))) count_there ∙ ap (λ l. any_of bad_step (take count l)) steps_there ∙ ap (any_of bad_step) first_steps ∙ b))
      ∙ (λ i. record { number = 0; count = count_there i; steps = steps_there i })

pub written_read : (count : ℕ) (steps : List Step) (len : ℕ) → length steps ≡ 16 → Every Fitting steps → refusal_of (recipe_judged count steps len) ≡ 0
    → read_of (file_of count steps) ≡ record { number = 0; count = count; steps = sixteen count (λ k. get_or steps k no_step) }
written_read count steps len e t z =
    let j = judged-all (recipe_judged count steps len) (tt, (tt, tt)) z in
    let c = count_is count len j.0 in
    there count steps e t c.0 c.1 j.1.0

pub read-accepted : (f : List ℕ) → refusal_of (file_judged f) ≡ 0 → refusal_of (recipe_judged (read_of f).count (read_of f).steps (length f)) ≡ 0
read-accepted f z = let j = judged-all (file_judged f) (tt, (tt, (tt, tt))) z in rw z (rw (j.1.0, j.1.1.0) refl)

pub read_written : (f : List ℕ) → Every (λ b. b < 256) f → refusal_of (file_judged f) ≡ 0 → file_of (read_of f).count (read_of f).steps ≡ f
read_written f h z = sym (accepted-file f (λ k. record { fits = every_get_d (λ b. b < 256) f 0 (lit< tt) h k }) z)

-- bytes stored from the front are the file
pub file_stored : (count i : ℕ) (steps : List Step) (held out : List ℕ) → length steps ≡ 16 → count ≤ 16 → length held ≡ 6 + 7 * count → length held ≤ i
    → Stored 0 (λ k. ltb k i) (λ k. get_or (file_of count steps) k 0) held out → out ≡ file_of count steps
file_stored count i steps held out e h l b S =
    front-all 0 (λ k. get_or (file_of count steps) k 0) b S
    ∙ ap (tabulate (λ k. get_or (file_of count steps) k 0) 0) (l ∙ sym (file-length count steps (omega arith)))
    ∙ tabulate_members 0 (file_of count steps)
