-- Numbers of answers: a refusal's is not 0, and what follows for a chain whose first part refuses.
-- Assumes nothing.
use mathlib.Core.Path.{◌≡◌, refl}
use mathlib.Core.List.{List, ◌++◌, map}
use Prim.Native.Nat.{ℕ}
use native.Mathlib.Omega.{arith}
use lib.Dec.{T, ltb}
use lib.ListN.{length, replicate}
use Rattle.numbers.specs.Lists.{Every}
use Rattle.numbers.specs.Number.{refusal_number}
use Rattle.numbers.specs.Refusal.{Judged, refusal_of, Answers, ScratchAnswers}
use Rattle.numbers.specs.declared.Refusal.{Refusal}
use Rattle.numbers.specs.declared.Refusal.TheVariants.{Shape, Length, Level, SingleCell, Kernel, Weight, Origin, Axis, Constant, Pads, Reach, Sum, Mark, Count, Step, Unknown}
use Rattle.numbers.proofs.Chain.{chain_stops, chain_goes, answers_refused, answers_accepted, scratch_refused, scratch_accepted}

pub number_some : (r : Refusal) → refusal_number r ≡ 0 → ⊥
number_some Shape e = omega (arith, e)
number_some Length e = omega (arith, e)
number_some Level e = omega (arith, e)
number_some SingleCell e = omega (arith, e)
number_some Kernel e = omega (arith, e)
number_some Weight e = omega (arith, e)
number_some Origin e = omega (arith, e)
number_some Axis e = omega (arith, e)
number_some Constant e = omega (arith, e)
number_some Pads e = omega (arith, e)
number_some Reach e = omega (arith, e)
number_some Sum e = omega (arith, e)
number_some Mark e = omega (arith, e)
number_some Count e = omega (arith, e)
number_some Step e = omega (arith, e)
number_some Unknown e = omega (arith, e)

-- the first part of a chain refuses, or it goes on
module _ (js ks : Judged) (p : Every (λ j. T (ltb 0 j.1)) js) where
  pub refused : (r : Refusal) → refusal_number r ≡ refusal_of js → refusal_number r ≡ refusal_of (js ++ ks)
  refused r e = chain_stops js ks p e (number_some r)

  pub goes_on : {q : ℕ} → 0 ≡ refusal_of js → q ≡ refusal_of ks → q ≡ refusal_of (js ++ ks)
  goes_on e h = chain_goes js ks p e refl h

-- what a refused call and an accepted one leave in a lent grid
module _ {A : Type 0} (js : Judged) (levels held : List A) where
  pub keeps : (r : Refusal) → refusal_number r ≡ refusal_of js → Answers js levels held (refusal_number r) held
  keeps r e = answers_refused js levels held (refusal_number r) e (number_some r)

  pub fills : {left : List A} → 0 ≡ refusal_of js → left ≡ levels → Answers js levels held 0 left
  fills e q = answers_accepted js levels held 0 e refl q

-- and in scratch grids besides
module _ {A : Type 0} (zero : A) (js : Judged) (levels held : List A) (scratch : List (List A)) where
  pub scratch_keeps : (r : Refusal) → refusal_number r ≡ refusal_of js → ScratchAnswers zero js levels held scratch (refusal_number r) held scratch
  scratch_keeps r e = scratch_refused zero js levels held scratch (refusal_number r) e (number_some r)

  pub scratch_fills : {left : List A} {scratch' : List (List A)} → 0 ≡ refusal_of js → left ≡ levels → scratch' ≡ map (λ s. replicate (length s) zero) scratch
      → ScratchAnswers zero js levels held scratch 0 left scratch'
  scratch_fills e q s = scratch_accepted zero js levels held scratch 0 e refl q s
