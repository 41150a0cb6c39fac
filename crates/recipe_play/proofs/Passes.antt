-- The passes of a recipe whose steps were all accepted beforehand: each is accepted in its place, and leaves what is
-- played up to it.
-- Assumes nothing.
use Prim.Native.Nat.{ℕ, ◌+◌, ◌<◌, ◌≤◌}
use native.Mathlib.Numerals.{add-one}
use native.Mathlib.Omega.{arith}
use mathlib.Core.Path.{◌≡◌, refl, sym, ap, ◌∙◌}
use mathlib.Core.List.{List}
use lib.IntN.{ℤ}
use lib.ListN.{length, get_or, take, length-take}
use lib.Seq.{get_or-take, take_all}
use Rattle.numbers.specs.Refusal.{refusal_of}
use Rattle.min_max_spec.specs.Call.{grid_number}
use Rattle.recipe_spec.specs.declared.Step.{Step}
use Rattle.recipe_spec.specs.Recipes.{no_step}
use Rattle.recipe_spec.specs.Player.{step_judged, step_answer, played}
use Rattle.recipe_spec.specs.Before.{windows_judged}
use Rattle.recipe_spec.proofs.Before.{in_place}
use Rattle.recipe_spec.proofs.Played.{played-more, length-played}

module _ (ns : List ℕ) (steps : List Step) (n : ℕ) (cells : List ℤ) (few : n ≤ length steps) where
  abbrev pub after : ℕ → List ℤ
  after k = played ns (take k (take n steps)) cells

  there : (k : ℕ) → k < n → k < length (take n steps)
  there k h = omega (arith, length-take n steps)

  -- nothing is played yet
  pub after_none : cells ≡ after 0
  unfolding played
  after_none = refl

  -- all is played
  pub after-all : (k : ℕ) → n ≤ k → after k ≡ played ns (take n steps) cells
  after-all k h = ap (λ l. played ns l cells) (take_all k (take n steps) (omega (arith, length-take n steps)))

  pub length-after : (k : ℕ) → length (after k) ≡ length cells
  length-after k = length-played ns (take k (take n steps)) cells

  -- a step on what those before it leave
  pub next-played : (k : ℕ) → k < n → {l new : List ℤ} → l ≡ after k → new ≡ step_answer ns (get_or steps k no_step) l → new ≡ after (k + 1)
  next-played k h e q =
      q ∙ (λ i. step_answer ns (sym (get_or-take n steps k no_step h) i) (e i)) ∙ played-more ns (take n steps) cells k (there k h) ∙ ap after (sym (add-one k))

  pub next-accepted : grid_number ns cells ≡ 0 → refusal_of (windows_judged ns (take n steps)) ≡ 0 → (k : ℕ) → k < n → {l : List ℤ} → l ≡ after k
      → refusal_of (step_judged ns (get_or steps k no_step) l) ≡ 0
  next-accepted g w k h e =
      (λ i. refusal_of (step_judged ns (sym (get_or-take n steps k no_step h) i) (e i))) ∙ in_place ns (take n steps) cells g w k (there k h)
