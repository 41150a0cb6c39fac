-- Where the numbers of a step stand among those of a recipe.
-- Assumes nothing.
use Prim.Native.Nat.{ℕ, zero, suc, ◌+◌, ◌-◌, ◌*◌, ◌/◌, ◌%◌, ◌≤◌, ◌<◌}
use native.Mathlib.Nat.{not-suc-le-zero, le_of_suc-le-suc, zero-add}
use native.Mathlib.Omega.{arith}
use mathlib.Core.Path.{◌≡◌, refl, sym, ap, ◌∙◌}
use mathlib.Core.List.{List, [], ◌∷◌}
use lib.Dec.{ltb}
use lib.IntN.{ℤ, pos}
use lib.ListN.{length, get_or, get_or-append, length-append}
use lib.Seq.{get_or-append-add}
use Rattle.numbers.specs.Lists.{tabulate}
use Rattle.numbers.proofs.Stored.{Stored, front-all}
use Rattle.numbers.proofs.Tabulate.{tabulate_members}
use Rattle.recipe_spec.specs.declared.Step.{Step}
use Rattle.recipe_spec.specs.Recipes.{no_step}
use Rattle.recipe_fields.specs.Fields.{step_fields, steps_fields, recipe_fields}

-- number r of step q
pub steps_field : (ss : List Step) (q r : ℕ) → q < length ss → r < 6 → get_or (steps_fields ss) (6 * q + r) (pos 0) ≡ get_or (step_fields (get_or ss q no_step)) r (pos 0)
steps_field [] q r h l = absurd (not-suc-le-zero h)
steps_field (s ∷ ss) zero r h l = ap (λ i. get_or (steps_fields (s ∷ ss)) i (pos 0)) (zero-add r) ∙ get_or-append (step_fields s) (steps_fields ss) (pos 0) r l
steps_field (s ∷ ss) (suc q) r h l =
    ap (λ i. get_or (steps_fields (s ∷ ss)) i (pos 0)) next
    ∙ get_or-append-add (step_fields s) (steps_fields ss) (6 * q + r) (pos 0)
    ∙ steps_field ss q r (le_of_suc-le-suc h) l
  where
    next : 6 * suc q + r ≡ 6 + (6 * q + r)
    next = omega arith

pub steps_length : (ss : List Step) → length (steps_fields ss) ≡ 6 * length ss
steps_length [] = refl
steps_length (s ∷ ss) = let e = steps_length ss in omega (arith, length-append (step_fields s) (steps_fields ss))

module _ (count : ℕ) (steps : List Step) (e : length steps ≡ 16) where
  -- from the place among the recipe's numbers
  pub recipe_place : (i : ℕ) → 1 ≤ i → i < 97 → get_or (recipe_fields count steps) i (pos 0) ≡ get_or (step_fields (get_or steps ((i - 1) / 6) no_step)) ((i - 1) % 6) (pos 0)
  unfolding recipe_fields
  recipe_place i h l =
      ap (λ k. get_or (pos count ∷ steps_fields steps) k (pos 0)) place
      ∙ steps_field steps ((i - 1) / 6) ((i - 1) % 6) (omega arith) (omega arith)
    where
      place : i ≡ suc (6 * ((i - 1) / 6) + (i - 1) % 6)
      place = omega arith

  recipe_length : length (recipe_fields count steps) ≡ 97
  unfolding recipe_fields
  recipe_length = omega (arith, steps_length steps)

  -- all of them stored from the front
  pub recipe_stored : (i : ℕ) (held out : List ℤ) → length held ≡ 97 → 97 ≤ i → Stored (pos 0) (λ k. ltb k i) (λ k. get_or (recipe_fields count steps) k (pos 0)) held out → out ≡ recipe_fields count steps
  recipe_stored i held out l b S =
      front-all (pos 0) (λ k. get_or (recipe_fields count steps) k (pos 0)) (omega arith) S
      ∙ ap (tabulate (λ k. get_or (recipe_fields count steps) k (pos 0)) 0) (l ∙ sym recipe_length)
      ∙ tabulate_members (pos 0) (recipe_fields count steps)
