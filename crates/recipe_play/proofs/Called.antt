-- The number of the player: the file's, then the grid's, then that of the steps as they were judged beforehand.
-- Assumes nothing.
use Prim.Native.Nat.{ℕ, ◌+◌, ◌*◌, ◌≤◌}
use mathlib.Core.Path.{◌≡◌, refl, sym, ap, ◌∙◌}
use mathlib.Core.Bool.{false}
use mathlib.Core.List.{List, [], ◌∷◌, ◌++◌}
use lib.IntN.{ℤ}
use lib.ListN.{length, get_or, take}
use Rattle.numbers.specs.Lists.{any_of}
use Rattle.numbers.specs.Refusal.{refusal_of}
use Rattle.numbers.proofs.Chain.{judged-all, chain_stops, chain_goes}
use Rattle.numbers.proofs.Tests.{or_false, or_no}
use Rattle.array_spec.specs.Conditions.{bad_length, bad_level, grid_judged}
use Rattle.array_spec.proofs.Judged.{PassedGrid, grid_passed}
use Rattle.min_max_spec.specs.Call.{grid_number}
use Rattle.recipe_spec.specs.Recipes.{file_judged, Handed}
use Rattle.recipe_spec.specs.Back.{Reads}
use Rattle.recipe_spec.specs.Player.{steps_judged, recipe_steps, play_judged}
use Rattle.recipe_spec.specs.Before.{windows_judged}
use Rattle.recipe_spec.proofs.Judge.{count_is}
use Rattle.recipe_spec.proofs.Before.{same_number}

module _ (f ns : List ℕ) (cells : List ℤ) (out second : ℕ) {h : Handed} (R : Reads f h) where
  number_read : h.number ≡ refusal_of (file_judged f)
  number_read = ap (λ (x : Handed). x.number) R.hands

  -- the steps that were handed over are those of the file
  pub steps_read : take h.count h.steps ≡ recipe_steps f
  steps_read = (λ i. take (R.hands i).count (R.hands i).steps)

  module _ (z : h.number ≡ 0) where
    pub count_read : (1 ≤ h.count) × (h.count ≤ 16)
    count_read = rw same (c.0, c.1)
      where
        same : h.count ≡ get_or f 5 0
        same = ap (λ (x : Handed). x.count) R.hands ∙ rw (sym number_read ∙ z) refl

        c : (1 ≤ get_or f 5 0) × (get_or f 5 0 ≤ 16) × (length f ≡ 6 + 7 * get_or f 5 0)
        c = count_is (get_or f 5 0) (length f) (judged-all (file_judged f) (tt, (tt, (tt, tt))) (sym number_read ∙ z)).1.0

    module _ {g : ℕ} (e : g ≡ refusal_of (grid_judged ns cells (out ∷ second ∷ []))) where
      pub grid_stops : (g ≡ 0 → ⊥) → g ≡ refusal_of (play_judged f ns cells out second)
      grid_stops h =
          chain_goes (file_judged f) (grid_judged ns cells (out ∷ second ∷ []) ++ steps_judged ns (recipe_steps f) cells) (tt, (tt, (tt, tt))) number_read z
          (chain_stops (grid_judged ns cells (out ∷ second ∷ [])) (steps_judged ns (recipe_steps f) cells) (tt, (tt, (tt, tt))) e h)

      module _ (y : g ≡ 0) where
        pub lent_passed : PassedGrid bad_level ns cells (out ∷ second ∷ [])
        lent_passed = (grid_passed bad_level ns cells (out ∷ second ∷ []) [] tt (sym e ∙ y)).0

        pub grid_number_lem : grid_number ns cells ≡ 0
        unfolding grid_number
        grid_number_lem =
            let j = judged-all (grid_judged ns cells (out ∷ second ∷ [])) (tt, (tt, (tt, tt))) (sym e ∙ y) in
            let l = or_false (bad_length ns (length cells)) (any_of (bad_length ns) (out ∷ second ∷ [])) j.1.0 in
            rw (j.0, or_no (bad_length ns (length cells)) false l.0 refl, j.1.1.0) refl

        pub steps_number : {q : ℕ} → q ≡ refusal_of (windows_judged ns (take h.count h.steps)) → q ≡ refusal_of (play_judged f ns cells out second)
        steps_number h =
            chain_goes (file_judged f) (grid_judged ns cells (out ∷ second ∷ []) ++ steps_judged ns (recipe_steps f) cells) (tt, (tt, (tt, tt))) number_read z
            (chain_goes (grid_judged ns cells (out ∷ second ∷ [])) (steps_judged ns (recipe_steps f) cells) (tt, (tt, (tt, tt))) e y
            (h ∙ ap (λ l. refusal_of (windows_judged ns l)) steps_read ∙ sym (same_number ns (recipe_steps f) cells grid_number_lem)))
