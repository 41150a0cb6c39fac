-- The conditions by the answers of their tests.
-- Assumes nothing.
use Prim.Native.Nat.{ℕ, suc, ◌+◌, ◌*◌, ◌≤◌, ◌<◌}
use native.Mathlib.Omega.{arith}
use mathlib.Core.Path.{◌≡◌, refl, sym, ap, ◌∙◌}
use mathlib.Core.Bool.{Bool, true, false, not}
use mathlib.Core.List.{List}
use borrow.Author.Tests.{le-ltb, ltb-false, eq-eqb, eqb-true, not-false}
use lib.Dec.{eqb, ltb}
use lib.ListN.{length, get_or, take, drop, length-take}
use lib.Seq.{get_or-take}
use Rattle.numbers.specs.Lists.{any_of}
use Rattle.numbers.proofs.Any.{any_hit, any_miss}
use Rattle.numbers.specs.Refusal.{refusal_of}
use Rattle.numbers.proofs.Tests.{or_false}
use Rattle.recipe_spec.specs.declared.Step.{Step}
use Rattle.recipe_spec.specs.Recipes.{no_step, bad_mark, bad_step_count, bad_step, recipe_judged}

module _ (f : List ℕ) where
  pub mark-last : 6 ≤ length f → get_or f 0 0 ≡ 76 → get_or f 1 0 ≡ 75 → get_or f 2 0 ≡ 83 → get_or f 3 0 ≡ 0 → not (eqb (get_or f 4 0) 1) ≡ bad_mark f
  unfolding bad_mark
  mark-last h a b c d = rw (le-ltb (length f) 6 h, eq-eqb (get_or f 0 0) 76 a, eq-eqb (get_or f 1 0) 75 b, eq-eqb (get_or f 2 0) 83 c, eq-eqb (get_or f 3 0) 0 d) refl

  pub mark_good : 6 ≤ length f → get_or f 0 0 ≡ 76 → get_or f 1 0 ≡ 75 → get_or f 2 0 ≡ 83 → get_or f 3 0 ≡ 0 → get_or f 4 0 ≡ 1 → bad_mark f ≡ false
  mark_good h a b c d e = sym (mark-last h a b c d) ∙ ap not (eq-eqb (get_or f 4 0) 1 e)

  is : (k n : ℕ) → not (eqb (get_or f k 0) n) ≡ false → get_or f k 0 ≡ n
  is k n e = eqb-true (get_or f k 0) n (not-false (eqb (get_or f k 0) n) e)

  pub mark_is : bad_mark f ≡ false → (6 ≤ length f) × (get_or f 0 0 ≡ 76) × (get_or f 1 0 ≡ 75) × (get_or f 2 0 ≡ 83) × (get_or f 3 0 ≡ 0) × (get_or f 4 0 ≡ 1)
  unfolding bad_mark
  mark_is e =
      let a = or_false _ (not (eqb (get_or f 4 0) 1)) e in
      let b = or_false _ (not (eqb (get_or f 3 0) 0)) a.0 in
      let c = or_false _ (not (eqb (get_or f 2 0) 83)) b.0 in
      let d = or_false _ (not (eqb (get_or f 1 0) 75)) c.0 in
      let g = or_false _ (not (eqb (get_or f 0 0) 76)) d.0 in
      (ltb-false (length f) 6 g.0, is 0 76 g.1, is 1 75 d.1, is 2 83 c.1, is 3 0 b.1, is 4 1 a.1)

module _ (count len : ℕ) where
  pub count_is : bad_step_count count len ≡ false → (1 ≤ count) × (count ≤ 16) × (len ≡ 6 + 7 * count)
  unfolding bad_step_count
  count_is e =
      let a = or_false _ (not (eqb len (6 + 7 * count))) e in
      let b = or_false (ltb count 1) (ltb 16 count) a.0 in
      (ltb-false count 1 b.0, ltb-false 16 count b.1, eqb-true len (6 + 7 * count) (not-false (eqb len (6 + 7 * count)) a.1))

  pub count_good : 1 ≤ count → count ≤ 16 → len ≡ 6 + 7 * count → bad_step_count count len ≡ false
  unfolding bad_step_count
  count_good h l e = rw (le-ltb count 1 h, le-ltb 16 count l, eq-eqb len (6 + 7 * count) e) refl

-- a count that is right for one length is judged by that length
pub count_known : (count len known : ℕ) → bad_step_count count known ≡ false → bad_step_count count len ≡ not (eqb len known)
unfolding bad_step_count
count_known count len known e =
    let c = count_is count known e in
    rw (le-ltb count 1 c.0, le-ltb 16 count c.1) (ap (λ n. not (eqb len n)) (sym c.2))

-- a turn of the search for a bad step
module _ (count k : ℕ) (steps : List Step) (r : Bool) (h : k < count) (l : count ≤ length steps) (e : r ≡ bad_step (get_or steps k no_step))
    (i : any_of bad_step (take count steps) ≡ any_of bad_step (drop k (take count steps))) where
  there : k < length (take count steps)
  there = omega (arith, length-take count steps)

  this : bad_step (get_or (take count steps) k no_step) ≡ r
  this = ap bad_step (get_or-take count steps k no_step h) ∙ sym e

  pub steps_hit : r ≡ true → true ≡ any_of bad_step (take count steps)
  steps_hit q = sym (any_hit bad_step no_step k (take count steps) there i (this ∙ q))

  pub steps_miss : r ≡ false → any_of bad_step (take count steps) ≡ any_of bad_step (drop (k + 1) (take count steps))
  steps_miss q = any_miss bad_step no_step k (take count steps) there i (this ∙ q)

pub never : (n : ℕ) → suc n ≡ 0 → ⊥
never n e = omega arith

-- ---- the writer's three answers
module _ (count : ℕ) (steps : List Step) (len : ℕ) where
  pub number_14 : bad_step_count count len ≡ true → 14 ≡ refusal_of (recipe_judged count steps len)
  number_14 a = rw a refl

  pub number_15 : bad_step_count count len ≡ false → any_of bad_step (take count steps) ≡ true → 15 ≡ refusal_of (recipe_judged count steps len)
  number_15 a b = rw (a, b) refl

  pub number_0 : bad_step_count count len ≡ false → any_of bad_step (take count steps) ≡ false → 0 ≡ refusal_of (recipe_judged count steps len)
  number_0 a b = rw (a, b) refl
