-- Condition 3 asked after conditions 1 and 2, over any level.
-- Assumes nothing.
use Prim.Native.Nat.{ℕ}
use mathlib.Core.Path.{◌≡◌, refl}
use mathlib.Core.Bool.{Bool, true, false}
use mathlib.Core.List.{List, [], ◌∷◌}
use lib.ListN.{length}
use Rattle.numbers.specs.Lists.{any_of}
use Rattle.numbers.specs.Refusal.{Judged, refusal_of}
use Rattle.numbers.proofs.Chain.{judged_yes, judged_no, chain_stops, chain_goes}
use Rattle.array_spec.specs.Conditions.{bad_shape, bad_length, grid_judged_by}

abbrev lengths_judged : List ℕ → List ℕ → Judged
lengths_judged ns lengths = (bad_shape ns, 1) ∷ (any_of (bad_length ns) lengths, 2) ∷ []

module _ {A : Type 0} (bad : A → Bool) (ns : List ℕ) (cells : List A) (lent : List ℕ) {g : ℕ} (e : g ≡ refusal_of (lengths_judged ns (length cells ∷ lent))) where
  pub lengths_refused : (g ≡ 0 → ⊥) → g ≡ refusal_of (grid_judged_by bad ns cells lent)
  lengths_refused h = chain_stops (lengths_judged ns (length cells ∷ lent)) ((any_of bad cells, 3) ∷ []) (tt, (tt, tt)) e h

  pub level_refused : g ≡ 0 → any_of bad cells ≡ true → 3 ≡ refusal_of (grid_judged_by bad ns cells lent)
  level_refused z t = chain_goes (lengths_judged ns (length cells ∷ lent)) ((any_of bad cells, 3) ∷ []) (tt, (tt, tt)) e z (judged_yes (any_of bad cells) 3 [] t)

  pub levels-accepted : g ≡ 0 → any_of bad cells ≡ false → 0 ≡ refusal_of (grid_judged_by bad ns cells lent)
  levels-accepted z f = chain_goes (lengths_judged ns (length cells ∷ lent)) ((any_of bad cells, 3) ∷ []) (tt, (tt, tt)) e z (judged_no (any_of bad cells) 3 [] f refl)
