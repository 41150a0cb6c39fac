-- A turn of the loop that judges steps: the steps that are left decide.
-- Assumes nothing.
use Prim.Native.Nat.{ℕ, suc, ◌+◌, ◌<◌}
use native.Mathlib.Numerals.{add-one}
use mathlib.Core.Path.{◌≡◌, refl, sym, ap, ◌∙◌}
use mathlib.Core.List.{List, ◌++◌}
use lib.ListN.{length, get_or, drop}
use lib.Seq.{drop-cons}
use Rattle.numbers.specs.Refusal.{refusal_of}
use Rattle.numbers.proofs.Chain.{chain_stops, chain_goes}
use Rattle.recipe_spec.specs.declared.Step.{Step}
use Rattle.recipe_spec.specs.Recipes.{no_step}
use Rattle.recipe_spec.specs.Before.{window_of_step, windows_judged}
use Rattle.recipe_spec.proofs.Before.{window-numbered}

module _ (ns : List ℕ) (ss : List Step) (k r : ℕ) (h : k < length ss) (e : r ≡ refusal_of (window_of_step ns (get_or ss k no_step)))
    (i : refusal_of (windows_judged ns ss) ≡ refusal_of (windows_judged ns (drop k ss))) where
  here : refusal_of (windows_judged ns ss) ≡ refusal_of (window_of_step ns (get_or ss k no_step) ++ windows_judged ns (drop (suc k) ss))
  unfolding windows_judged
  here = i ∙ ap (λ l. refusal_of (windows_judged ns l)) (drop-cons ss k no_step h)

  pub steps_stop : (r ≡ 0 → ⊥) → r ≡ refusal_of (windows_judged ns ss)
  steps_stop z = chain_stops (window_of_step ns (get_or ss k no_step)) (windows_judged ns (drop (suc k) ss)) (window-numbered ns (get_or ss k no_step)) e z ∙ sym here

  pub steps_go : r ≡ 0 → refusal_of (windows_judged ns ss) ≡ refusal_of (windows_judged ns (drop (k + 1) ss))
  steps_go z =
      here
      ∙ sym (chain_goes (window_of_step ns (get_or ss k no_step)) (windows_judged ns (drop (suc k) ss)) (window-numbered ns (get_or ss k no_step)) e z refl)
      ∙ ap (λ j. refusal_of (windows_judged ns (drop j ss))) (sym (add-one k))
