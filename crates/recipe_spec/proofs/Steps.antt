-- The bytes of steps: where the bytes of a step stand in a file, and a field that is 0 by its bits.
-- Assumes nothing.
use Prim.Native.Nat.{ℕ, zero, suc, ◌+◌, ◌-◌, ◌*◌, ◌/◌, ◌%◌, ◌^◌, ◌≤◌, ◌<◌}
use native.Mathlib.Nat.{not-suc-le-zero, le_of_suc-le-suc, zero-add}
use native.Mathlib.Omega.{arith}
use mathlib.Core.Path.{◌≡◌, refl, sym, ap, ◌∙◌}
use mathlib.Core.Bool.{cond}
use mathlib.Core.List.{List, [], ◌∷◌}
use borrow.Author.Tests.{ne_eqb}
use lib.Dec.{eqb, ltb, lit<}
use lib.IntN.{ℤ, pos, negsuc, nat_abs}
use lib.ListN.{length, get_or, take, replicate, get_or-append, length-append, length-take, get_or-replicate}
use lib.Seq.{get_or-append-add, get_or-take}
use lib.Pow.{pow-lt}
use mir.Syntax.{Width}
use mir.Val.{of_z, bits, hbits, SFits}
use Rattle.numbers.proofs.Stored.{Stored, stored_table}
use Rattle.numbers.proofs.Tabulate.{tabulate_agree}
use Rattle.recipe_spec.specs.declared.Step.{Step}
use Rattle.recipe_spec.specs.Recipes.{no_step, step_bytes, steps_bytes, mark_of, file_of, sixteen}

-- ---- a number is 0 where its bits are
above : (w : Width) → 2 ^ hbits w < 2 ^ bits w
above mir.Syntax.w8 = omega arith
above mir.Syntax.w16 = omega arith
above mir.Syntax.w32 = omega arith
above mir.Syntax.w64 = omega arith
above mir.Syntax.w128 = pow-lt {i = 127} {j = 128} (lit< tt)

pub zero_bits : (w : Width) (z : ℤ) → SFits w z → eqb (of_z w z) 0 ≡ eqb (nat_abs z) 0
zero_bits w (pos n) f = refl
zero_bits w (negsuc n) f = ne_eqb (2 ^ bits w - suc n) 0 (λ e. some e (above w) f.sfits) ∙ sym (ne_eqb (suc n) 0 more)
  where
    some : 2 ^ bits w - suc n ≡ 0 → 2 ^ hbits w < 2 ^ bits w → n < 2 ^ hbits w → ⊥
    some e h l = omega arith

    more : suc n ≡ 0 → ⊥
    more e = omega arith

-- ---- byte r of step q
steps_byte : (ss : List Step) (q r : ℕ) → q < length ss → r < 7 → get_or (steps_bytes ss) (7 * q + r) 0 ≡ get_or (step_bytes (get_or ss q no_step)) r 0
steps_byte [] q r h l = absurd (not-suc-le-zero h)
steps_byte (s ∷ ss) zero r h l = ap (λ i. get_or (steps_bytes (s ∷ ss)) i 0) (zero-add r) ∙ get_or-append (step_bytes s) (steps_bytes ss) 0 r l
steps_byte (s ∷ ss) (suc q) r h l =
    ap (λ i. get_or (steps_bytes (s ∷ ss)) i 0) next
    ∙ get_or-append-add (step_bytes s) (steps_bytes ss) (7 * q + r) 0
    ∙ steps_byte ss q r (le_of_suc-le-suc h) l
  where
    next : 7 * suc q + r ≡ 7 + (7 * q + r)
    next = omega arith

steps_length : (ss : List Step) → length (steps_bytes ss) ≡ 7 * length ss
steps_length [] = refl
steps_length (s ∷ ss) = let e = steps_length ss in omega (arith, length-append (step_bytes s) (steps_bytes ss))

module _ (count : ℕ) (steps : List Step) where
  pub file-mark : (i : ℕ) → i < 6 → get_or (file_of count steps) i 0 ≡ get_or (mark_of count) i 0
  unfolding file_of
  file-mark i h = get_or-append (mark_of count) (steps_bytes (take count steps)) 0 i h

  pub file-length : count ≤ length steps → length (file_of count steps) ≡ 6 + 7 * count
  unfolding file_of
  file-length h = omega (arith, length-append (mark_of count) (steps_bytes (take count steps)), steps_length (take count steps), length-take count steps)

  pub file-step : (q r : ℕ) → q < count → count ≤ length steps → r < 7 → get_or (file_of count steps) (6 + 7 * q + r) 0 ≡ get_or (step_bytes (get_or steps q no_step)) r 0
  unfolding file_of
  file-step q r h l b =
      ap (λ i. get_or (file_of count steps) i 0) place
      ∙ get_or-append-add (mark_of count) (steps_bytes (take count steps)) (7 * q + r) 0
      ∙ steps_byte (take count steps) q r (omega (arith, length-take count steps)) b
      ∙ ap (λ s. get_or (step_bytes s) r 0) (get_or-take count steps q no_step h)
    where
      place : 6 + 7 * q + r ≡ 6 + (7 * q + r)
      place = omega arith

  -- the same from the place in the file
  pub file_place : (i : ℕ) → 6 ≤ i → i < 6 + 7 * count → count ≤ length steps → get_or (file_of count steps) i 0 ≡ get_or (step_bytes (get_or steps ((i - 6) / 7) no_step)) ((i - 6) % 7) 0
  file_place i h l b =
      ap (λ k. get_or (file_of count steps) k 0) place
      ∙ file-step ((i - 6) / 7) ((i - 6) % 7) (omega arith) b (omega arith)
    where
      place : i ≡ 6 + 7 * ((i - 6) / 7) + (i - 6) % 7
      place = omega arith

-- ---- steps stored from the front into many that are all 0
pub sixteen_stored : (count k : ℕ) (g : ℕ → Step) (l : List Step) → k ≡ count → Stored no_step (λ j. ltb j k) g (replicate 16 no_step) l → l ≡ sixteen count g
sixteen_stored count k g l e S =
    stored_table no_step g (λ j. ltb j k) S
    ∙ tabulate_agree _ _ 0 16 (λ j b. ap (cond (ltb (0 + j) k) (g (0 + j))) (get_or-replicate 16 (0 + j) no_step no_step (below j b)) ∙ ap (λ n. cond (ltb (0 + j) n) (g (0 + j)) no_step) e)
  where
    below : (j : ℕ) → j < 16 → 0 + j < 16
    below j b = omega arith
