-- All steps are judged before any is played: an accepted step leaves as many cells and levels in range, so the calls
-- after it are judged as on the grid itself.
-- Assumes nothing.
use Prim.Native.Nat.{ℕ, zero, suc, ◌<◌}
use native.Mathlib.Nat.{not-suc-le-zero, le_of_suc-le-suc}
use mathlib.Core.Path.{◌≡◌, refl, sym, ap, ◌∙◌}
use mathlib.Core.Bool.{Bool, true, false, ◌||◌, cond}
use mathlib.Core.List.{List, [], ◌∷◌, ◌++◌}
use borrow.Author.Tests.{eqb-true, eqb-false}
use lib.Dec.{T, ltb, eqb}
use lib.IntN.{ℤ, pos}
use lib.ListN.{length, get_or, take}
use Rattle.numbers.specs.Lists.{any_of, Every}
use Rattle.numbers.specs.Refusal.{Judged, refusal_of}
use Rattle.numbers.proofs.Chain.{judged-all, judged-append}
use Rattle.array_spec.specs.Conditions.{bad_shape, bad_length, bad_level, grid_judged}
use Rattle.array_spec.proofs.Judged.{grid_accepted, grid_ends}
use Rattle.lanes.proofs.AlongAxis.{length_along}
use Rattle.border.specs.Modes.{border_of}
use Rattle.min_max_spec.specs.Call.{window_judged, call_judged, grid_number}
use Rattle.min_max_spec.specs.Run.{answer_of}
use Rattle.min_max_spec.proofs.Passed.{length_answer, answer_in}
use Rattle.uniform_spec.specs.Uniform.{uniform1d}
use Rattle.uniform_spec.specs.Judge.{uniform_along_judged, uniform1d_judged, bad_uniform_sums}
use Rattle.uniform_spec.proofs.Sums.{levels-kept, no_bad_sums}
use Rattle.recipe_spec.specs.declared.Step.{Step}
use Rattle.recipe_spec.specs.Recipes.{no_step}
use Rattle.recipe_spec.specs.Player.{is_mean, step_mode, step_call, step_order, step_judged, step_answer, played, steps_judged}
use Rattle.recipe_spec.specs.Before.{window_of_step, windows_judged}

abbrev Numbered : Judged → Type 0
Numbered js = Every (λ j. T (ltb 0 j.1)) js

-- two chains refuse nothing where they refuse nothing one after the other
append-none : (js ks : Judged) → Numbered js → refusal_of (js ++ ks) ≡ 0 → (refusal_of js ≡ 0) × (refusal_of ks ≡ 0)
append-none js ks p e = go (eqb (refusal_of js) 0) refl (sym (judged-append js ks p) ∙ e)
  where
    go : (t : Bool) → eqb (refusal_of js) 0 ≡ t → cond t (refusal_of ks) (refusal_of js) ≡ 0 → (refusal_of js ≡ 0) × (refusal_of ks ≡ 0)
    go true q h = (eqb-true (refusal_of js) 0 q, h)
    go false q h = absurd (eqb-false (refusal_of js) 0 q h)

-- two chains whose first parts agree, and whose second parts agree where the first refuses nothing
append_same : (js ks js' ks' : Judged) → Numbered js → Numbered js' → refusal_of js ≡ refusal_of js' → (refusal_of js' ≡ 0 → refusal_of ks ≡ refusal_of ks')
    → refusal_of (js ++ ks) ≡ refusal_of (js' ++ ks')
append_same js ks js' ks' p p' e h =
    judged-append js ks p
    ∙ ap (λ r. cond (eqb r 0) (refusal_of ks) r) e
    ∙ go (eqb (refusal_of js') 0) refl
    ∙ sym (judged-append js' ks' p')
  where
    go : (t : Bool) → eqb (refusal_of js') 0 ≡ t → cond t (refusal_of ks) (refusal_of js') ≡ cond t (refusal_of ks') (refusal_of js')
    go true q = h (eqb-true (refusal_of js') 0 q)
    go false q = refl

module _ (ns : List ℕ) (cells : List ℤ) (g : grid_number ns cells ≡ 0) where
  own : Every (λ j. j.0 ≡ false) (grid_judged ns cells [])
  unfolding grid_number
  own = judged-all (grid_judged ns cells []) (tt, (tt, (tt, tt))) g

  -- an output of as many cells is accepted with the grid
  lent : refusal_of (grid_judged ns cells (length cells ∷ [])) ≡ 0
  lent = rw own.0 (rw (twice (bad_length ns (length cells)) own.1.0, own.1.1.0) refl)
    where
      twice : (t : Bool) → (t || false) ≡ false → (t || (t || false)) ≡ false
      twice true e = e
      twice false e = e

  -- as many levels in range are accepted as well
  grid_again : (l : List ℤ) → length l ≡ length cells → any_of bad_level l ≡ false → grid_number ns l ≡ 0
  unfolding grid_number
  grid_again l e h =
      (λ i. refusal_of ((bad_shape ns, 1) ∷ (bad_length ns (e i) || false, 2) ∷ ((h ∙ sym own.1.1.0) i, 3) ∷ [])) ∙ g

  module _ (s : Step) where
    mean_before : refusal_of (uniform1d_judged (border_of (step_mode s)) s.length ns s.axis cells (length cells))
        ≡ refusal_of (uniform_along_judged (border_of (step_mode s)) s.length ns s.axis)
    mean_before =
        sym (grid_ends bad_level ns cells (length cells ∷ []) (uniform_along_judged (border_of (step_mode s)) s.length ns s.axis)
        (bad_uniform_sums (border_of (step_mode s)) s.length ns s.axis cells) 12 (tt, (tt, (tt, (tt, tt)))) (sym lent) refl
        (λ P E. no_bad_sums (border_of (step_mode s)) s.length ns cells P.levels E.1.1.0 E.0 s.axis))

    call-before : refusal_of (call_judged cells (step_call ns s cells)) ≡ refusal_of (window_judged (step_call ns s []))
    call-before = sym (grid_accepted bad_level ns cells (length cells ∷ []) (window_judged (step_call ns s [])) (sym lent) refl)

    pub step-before : refusal_of (step_judged ns s cells) ≡ refusal_of (window_of_step ns s)
    step-before = go (is_mean s)
      where
        go : (t : Bool)
            → refusal_of (cond t (uniform1d_judged (border_of (step_mode s)) s.length ns s.axis cells (length cells)) (call_judged cells (step_call ns s cells)))
            ≡ refusal_of (cond t (uniform_along_judged (border_of (step_mode s)) s.length ns s.axis) (window_judged (step_call ns s [])))
        go true = mean_before
        go false = call-before

    -- an accepted step leaves a grid that is accepted
    pub step_keeps : refusal_of (window_of_step ns s) ≡ 0 → grid_number ns (step_answer ns s cells) ≡ 0
    step_keeps = go (is_mean s)
      where
        go : (t : Bool) → refusal_of (cond t (uniform_along_judged (border_of (step_mode s)) s.length ns s.axis) (window_judged (step_call ns s []))) ≡ 0
            → grid_number ns (cond t (uniform1d (border_of (step_mode s)) s.length ns s.axis cells) (answer_of (step_order s) cells (step_call ns s cells))) ≡ 0
        go true z =
            let E = judged-all (uniform_along_judged (border_of (step_mode s)) s.length ns s.axis) (tt, (tt, (tt, (tt, tt)))) z in
            grid_again (uniform1d (border_of (step_mode s)) s.length ns s.axis cells) (length_along (pos 0) _ ns s.axis cells)
            (levels-kept (border_of (step_mode s)) s.length ns cells own.1.1.0 E.1.1.0 s.axis)
        go false z =
            let E = judged-all (window_judged (step_call ns s [])) (tt, (tt, (tt, (tt, (tt, tt))))) z in
            grid_again (answer_of (step_order s) cells (step_call ns s cells)) (length_answer (step_order s) cells (step_call ns s cells))
            (answer_in (step_order s) cells (step_call ns s cells) E.1.1.1.0 own.1.1.0)

-- ---- the numbers of a step's conditions are above 0
step-numbered : (ns : List ℕ) (s : Step) (cells : List ℤ) → Numbered (step_judged ns s cells)
step-numbered ns s cells = go (is_mean s)
  where
    go : (t : Bool) → Numbered (cond t (uniform1d_judged (border_of (step_mode s)) s.length ns s.axis cells (length cells)) (call_judged cells (step_call ns s cells)))
    go true = (tt, (tt, (tt, (tt, (tt, (tt, (tt, (tt, tt))))))))
    go false = (tt, (tt, (tt, (tt, (tt, (tt, (tt, (tt, tt))))))))

pub window-numbered : (ns : List ℕ) (s : Step) → Numbered (window_of_step ns s)
window-numbered ns s = go (is_mean s)
  where
    go : (t : Bool) → Numbered (cond t (uniform_along_judged (border_of (step_mode s)) s.length ns s.axis) (window_judged (step_call ns s [])))
    go true = (tt, (tt, (tt, (tt, tt))))
    go false = (tt, (tt, (tt, (tt, (tt, tt)))))

-- ---- all steps
pub same_number : (ns : List ℕ) (ss : List Step) (cells : List ℤ) → grid_number ns cells ≡ 0 → refusal_of (steps_judged ns ss cells) ≡ refusal_of (windows_judged ns ss)
unfolding steps_judged windows_judged
same_number ns [] cells g = refl
same_number ns (s ∷ ss) cells g =
    append_same (step_judged ns s cells) (steps_judged ns ss (step_answer ns s cells)) (window_of_step ns s) (windows_judged ns ss)
    (step-numbered ns s cells) (window-numbered ns s) (step-before ns cells g s)
    (λ z. same_number ns ss (step_answer ns s cells) (step_keeps ns cells g s z))

pub in_place : (ns : List ℕ) (ss : List Step) (cells : List ℤ) → grid_number ns cells ≡ 0 → refusal_of (windows_judged ns ss) ≡ 0 → (k : ℕ) → k < length ss
    → refusal_of (step_judged ns (get_or ss k no_step) (played ns (take k ss) cells)) ≡ 0
unfolding windows_judged played
in_place ns [] cells g z k h = absurd (not-suc-le-zero h)
in_place ns (s ∷ ss) cells g z zero h = step-before ns cells g s ∙ (append-none (window_of_step ns s) (windows_judged ns ss) (window-numbered ns s) z).0
in_place ns (s ∷ ss) cells g z (suc k) h =
    let e = append-none (window_of_step ns s) (windows_judged ns ss) (window-numbered ns s) z in
    in_place ns ss (step_answer ns s cells) (step_keeps ns cells g s e.0) e.1 k (le_of_suc-le-suc h)
