-- One step by its kind: what its call refuses and fills.
-- Assumes nothing.
use Prim.Native.Nat.{ℕ}
use mathlib.Core.Path.{◌≡◌, refl, ap, ◌∙◌}
use mathlib.Core.List.{List, [], ◌∷◌, ◌++◌}
use borrow.Author.Tests.{eq-eqb, ne_eqb}
use lib.IntN.{ℤ}
use lib.ListN.{length}
use Rattle.numbers.specs.Refusal.{refusal_of}
use Rattle.array_spec.specs.Conditions.{grid_judged}
use Rattle.border.specs.Modes.{border_of}
use Rattle.min_max_spec.specs.Call.{first_in, window_judged, number_of}
use Rattle.min_max_spec.specs.Run.{answer_of}
use Rattle.uniform_spec.specs.Uniform.{uniform1d}
use Rattle.uniform_spec.specs.Judge.{uniform_along_judged, uniform1d_judged}
use Rattle.recipe_spec.specs.declared.Step.{Step}
use Rattle.recipe_spec.specs.Player.{step_mode, step_call, step_order, step_judged, step_answer}
use Rattle.recipe_spec.specs.Before.{window_of_step}

module _ (ns : List ℕ) (s : Step) where
  -- a uniform step
  module _ (h : s.kind ≡ 2) where
    pub window_mean : refusal_of (uniform_along_judged (border_of (step_mode s)) s.length ns s.axis) ≡ refusal_of (window_of_step ns s)
    window_mean = rw (eq-eqb s.kind 2 h) refl

    pub judged_mean : (cells : List ℤ) → refusal_of (step_judged ns s cells) ≡ 0 → (held : List ℤ) → length held ≡ length cells
        → refusal_of (uniform1d_judged (border_of (step_mode s)) s.length ns s.axis cells (length held)) ≡ 0
    judged_mean cells z held e =
        ap (λ n. refusal_of (uniform1d_judged (border_of (step_mode s)) s.length ns s.axis cells n)) e ∙ (rw (eq-eqb s.kind 2 h) at z)

    pub answer_mean : (cells : List ℤ) → uniform1d (border_of (step_mode s)) s.length ns s.axis cells ≡ step_answer ns s cells
    answer_mean cells = rw (eq-eqb s.kind 2 h) refl

  -- a minimum or a maximum step
  module _ (h : s.kind ≡ 2 → ⊥) where
    pub window-call : refusal_of (window_judged (step_call ns s [])) ≡ refusal_of (window_of_step ns s)
    window-call = rw (ne_eqb s.kind 2 h) refl

    pub judged-call : (cells : List ℤ) → refusal_of (step_judged ns s cells) ≡ 0 → (held : List ℤ) → length held ≡ length cells
        → number_of cells (step_call ns s held) ≡ 0
    unfolding number_of
    judged-call cells z held e =
        ap (λ n. refusal_of (grid_judged ns cells (n ∷ []) ++ window_judged (step_call ns s []))) e ∙ (rw (ne_eqb s.kind 2 h) at z)

    pub answer_call : (cells held : List ℤ) → answer_of (step_order s) cells (step_call ns s held) ≡ step_answer ns s cells
    unfolding answer_of first_in
    answer_call cells held = rw (ne_eqb s.kind 2 h) refl
