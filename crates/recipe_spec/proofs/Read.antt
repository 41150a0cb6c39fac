-- What the reader hands over, answer by answer, and that a file that it accepts is the file of that.
-- Assumes nothing.
use Prim.Native.Nat.{ℕ, zero, suc, ◌+◌, ◌-◌, ◌*◌, ◌/◌, ◌%◌, ◌≤◌, ◌<◌}
use native.Mathlib.Nat.{add-zero}
use native.Mathlib.Omega.{arith}
use mathlib.Core.Path.{◌≡◌, refl, sym, ap, ◌∙◌}
use mathlib.Core.Bool.{Bool, true, false, cond}
use mathlib.Core.List.{List}
use borrow.Author.Tests.{lt-ltb, ltb-true, ltb-false}
use lib.Dec.{ltb}
use lib.ListN.{length, get_or, take}
use lib.Seq.{ext_get_or}
use mir.Syntax.{w8, w16}
use mir.Val.{Fits}
use mir.Facts.{of_z-to_z}
use Rattle.numbers.specs.Lists.{any_of}
use Rattle.numbers.specs.Refusal.{refusal_of}
use Rattle.numbers.proofs.Chain.{judged-all}
use Rattle.numbers.proofs.Tabulate.{length-tabulate, get_d_tabulate}
use Rattle.numbers.proofs.Tests.{cond_yes}
use Rattle.recipe_spec.specs.Recipes.{no_step, step_bytes, mark_of, file_of, step_at, sixteen, steps_of, bad_mark, bad_step_count, bad_step, file_judged, Handed, read_of}
use Rattle.recipe_spec.specs.Back.{Reads}
use Rattle.recipe_spec.proofs.Judge.{mark_is, count_is}
use Rattle.recipe_spec.proofs.Steps.{file-mark, file-length, file_place}

-- ---- the four answers
abbrev none : ℕ → Handed
none n = record { number = n; count = 0; steps = sixteen 0 (λ k. no_step) }

module _ (f : List ℕ) where
  pub read_13 : bad_mark f ≡ true → none 13 ≡ read_of f
  read_13 a = rw a refl

  module _ (a : bad_mark f ≡ false) where
    pub read_14 : bad_step_count (get_or f 5 0) (length f) ≡ true → none 14 ≡ read_of f
    read_14 b = rw (a, b) refl

    module _ (b : bad_step_count (get_or f 5 0) (length f) ≡ false) where
      pub read_15 : any_of bad_step (take (get_or f 5 0) (steps_of f)) ≡ true → none 15 ≡ read_of f
      read_15 e = rw (a, b, e) refl

      pub read_0 : any_of bad_step (take (get_or f 5 0) (steps_of f)) ≡ false → record { number = 0; count = get_or f 5 0; steps = steps_of f } ≡ read_of f
      read_0 e = rw (a, b, e) refl

-- ---- the file of what was read
high : (a b : ℕ) → b < 256 → (a * 256 + b) / 256 ≡ a
high a b h = omega arith

low : (a b : ℕ) → b < 256 → (a * 256 + b) % 256 ≡ b
low a b h = omega arith

past : (r : ℕ) → suc (suc (suc (suc (suc (suc (suc r)))))) < 7 → ⊥
past r h = omega arith

past-mark : (r : ℕ) → suc (suc (suc (suc (suc (suc r))))) < 6 → ⊥
past-mark r h = omega arith

module _ (f : List ℕ) (g : (k : ℕ) → Fits w8 (get_or f k 0)) where
  both : (at : ℕ) → Fits w16 (get_or f (at + 5) 0 * 256 + get_or f (at + 6) 0)
  both at = omega (arith, g (at + 5), g (at + 6))

  -- the bytes of the step at a place are the bytes there
  step_back : (at r : ℕ) → r < 7 → get_or (step_bytes (step_at f at)) r 0 ≡ get_or f (at + r) 0
  step_back at zero h = ap (λ k. get_or f k 0) (sym (add-zero at))
  step_back at (suc zero) h = refl
  step_back at (suc (suc zero)) h = refl
  step_back at (suc (suc (suc zero))) h = of_z-to_z (g (at + 3))
  step_back at (suc (suc (suc (suc zero)))) h = refl
  step_back at (suc (suc (suc (suc (suc zero))))) h = ap (λ n. n / 256) (of_z-to_z (both at)) ∙ high (get_or f (at + 5) 0) (get_or f (at + 6) 0) (g (at + 6)).fits
  step_back at (suc (suc (suc (suc (suc (suc zero)))))) h = ap (λ n. n % 256) (of_z-to_z (both at)) ∙ low (get_or f (at + 5) 0) (get_or f (at + 6) 0) (g (at + 6)).fits
  step_back at (suc (suc (suc (suc (suc (suc (suc r))))))) h = absurd (past r h)

  module _ (a : bad_mark f ≡ false) (b : bad_step_count (get_or f 5 0) (length f) ≡ false) where
    mark-back : (i : ℕ) → i < 6 → get_or f i 0 ≡ get_or (mark_of (get_or f 5 0)) i 0
    mark-back zero h = (mark_is f a).1
    mark-back (suc zero) h = (mark_is f a).2
    mark-back (suc (suc zero)) h = (mark_is f a).3
    mark-back (suc (suc (suc zero))) h = (mark_is f a).4
    mark-back (suc (suc (suc (suc zero)))) h = (mark_is f a).5
    mark-back (suc (suc (suc (suc (suc zero))))) h = refl
    mark-back (suc (suc (suc (suc (suc (suc i)))))) h = absurd (past-mark i h)

    many : length (steps_of f) ≡ 16
    many = length-tabulate (λ k. cond (ltb k (get_or f 5 0)) (step_at f (6 + 7 * k)) no_step) 0 16

    step-read : (q : ℕ) → q < get_or f 5 0 → get_or (steps_of f) q no_step ≡ step_at f (6 + 7 * q)
    step-read q h =
        get_d_tabulate (λ k. cond (ltb k (get_or f 5 0)) (step_at f (6 + 7 * k)) no_step) 16 q no_step (omega (arith, (count_is (get_or f 5 0) (length f) b).1))
        ∙ cond_yes (ltb q (get_or f 5 0)) (step_at f (6 + 7 * q)) no_step (lt-ltb q (get_or f 5 0) h)

    pub file-back : f ≡ file_of (get_or f 5 0) (steps_of f)
    file-back = ext_get_or 0 f (file_of (get_or f 5 0) (steps_of f)) (c.2 ∙ sym (file-length (get_or f 5 0) (steps_of f) enough)) each
      where
        c : (1 ≤ get_or f 5 0) × (get_or f 5 0 ≤ 16) × (length f ≡ 6 + 7 * get_or f 5 0)
        c = count_is (get_or f 5 0) (length f) b

        enough : get_or f 5 0 ≤ length (steps_of f)
        enough = omega (arith, many, c.1)

        place : (i : ℕ) → 6 ≤ i → 6 + 7 * ((i - 6) / 7) + (i - 6) % 7 ≡ i
        place i h = omega arith

        at : (i : ℕ) → 6 ≤ i → i < length f → get_or f i 0 ≡ get_or (file_of (get_or f 5 0) (steps_of f)) i 0
        at i h l =
            ap (λ k. get_or f k 0) (sym (place i h))
            ∙ sym (step_back (6 + 7 * ((i - 6) / 7)) ((i - 6) % 7) (omega arith))
            ∙ ap (λ s. get_or (step_bytes s) ((i - 6) % 7) 0) (sym (step-read ((i - 6) / 7) (omega (arith, c.2))))
            ∙ sym (file_place (get_or f 5 0) (steps_of f) i h (omega (arith, c.2)) enough)

        each : (i : ℕ) → i < length f → get_or f i 0 ≡ get_or (file_of (get_or f 5 0) (steps_of f)) i 0
        each i l = go (ltb i 6) refl
          where
            go : (t : Bool) → ltb i 6 ≡ t → get_or f i 0 ≡ get_or (file_of (get_or f 5 0) (steps_of f)) i 0
            go true e = let h = ltb-true i 6 e in mark-back i h ∙ sym (file-mark (get_or f 5 0) (steps_of f) i h)
            go false e = at i (ltb-false i 6 e) l

  accepted : refusal_of (file_judged f) ≡ 0 → f ≡ file_of (get_or f 5 0) (steps_of f)
  accepted e = let j = judged-all (file_judged f) (tt, (tt, (tt, tt))) e in file-back j.0 j.1.0

  pub accepted-file : refusal_of (file_judged f) ≡ 0 → f ≡ file_of (read_of f).count (read_of f).steps
  accepted-file e = rw e (accepted e)

  pub reads : {h : Handed} → h ≡ read_of f → Reads f h
  reads {h} e = record { hands = e; file = λ z. rw e (accepted-file (sym (ap (λ (x : Handed). x.number) e) ∙ z)) }
