-- The numbers of a recipe give its steps back, and the numbers that were read from a file give the file back.
-- Assumes nothing.
use Prim.Native.Nat.{ℕ, zero, suc, ◌+◌, ◌*◌, ◌/◌, ◌%◌, ◌≤◌, ◌<◌, zero-le}
use native.Mathlib.Nat.{add-zero}
use native.Mathlib.Omega.{arith}
use mathlib.Core.Path.{◌≡◌, refl, sym, ap, ◌∙◌}
use mathlib.Core.Bool.{Bool, true, false, cond}
use mathlib.Core.List.{List, [], ◌∷◌}
use borrow.Author.Tests.{ltb-true, ltb-false, le-ltb}
use lib.Dec.{eqb, ltb, lit<}
use lib.IntN.{ℤ, pos, negsuc}
use lib.ListN.{length, get_or, drop, get_or-eq_default}
use lib.Signed.{mag}
use mir.Syntax.{w8, w16}
use mir.Val.{SFits, Fits}
use mir.Facts.{sfits_to_z, sfits_lit}
use Rattle.numbers.specs.Lists.{Every}
use Rattle.numbers.specs.Ranges.{outside_z}
use Rattle.numbers.specs.Refusal.{refusal_of}
use Rattle.numbers.proofs.Any.{any_never, every_at, every_get_d}
use Rattle.numbers.proofs.Chain.{chain_goes}
use Rattle.numbers.proofs.Tabulate.{tabulate_unique, every_table, length-tabulate}
use Rattle.numbers.proofs.Tests.{cond_ind, cond_no, or_no}
use Rattle.codes.specs.Codes.{coded}
use Rattle.recipe_spec.specs.declared.Step.{Step}
use Rattle.recipe_spec.specs.Recipes.{no_step, file_of, step_at, steps_of, recipe_judged, file_judged, read_of}
use Rattle.recipe_spec.proofs.Written.{read-accepted, read_written}
use Rattle.recipe_fields.specs.Fields.{step_fields, steps_fields, recipe_fields, bad_byte, bad_signed8, bad_signed16, byte_of, signed8_of, signed16_of}
use Rattle.recipe_fields.specs.Fields.{step_from, steps_from, bad_field, bad_fields, numbers_judged}
use Rattle.recipe_fields.specs.Back.{Held}
use Rattle.recipe_fields.proofs.Places.{steps_field, steps_length}
use Rattle.recipe_fields.proofs.Judge.{places, unheld}

-- ---- a number that its field holds
byte_held : (n : ℕ) → n < 256 → bad_byte (pos n) ≡ false
unfolding bad_byte
byte_held n h = or_no (ltb n 0) (ltb 255 n) (le-ltb n 0 zero-le) (le-ltb 255 n (omega arith))

within : (k : ℕ) (z : ℤ) → mag z ≤ k → outside_z (negsuc k) (pos k) z ≡ false
within k (pos n) h = le-ltb k n h
within k (negsuc n) h = or_no (ltb k n) false (le-ltb k n h) refl

signed8_held : (z : ℤ) → SFits w8 z → bad_signed8 z ≡ false
unfolding bad_signed8
signed8_held z f = within 127 z (omega (arith, f.sfits))

signed16_held : (z : ℤ) → SFits w16 z → bad_signed16 z ≡ false
unfolding bad_signed16
signed16_held z f = within 32767 z (omega (arith, f.sfits))

byte_back : (n : ℕ) → n < 256 → byte_of (pos n) ≡ n
unfolding byte_of
byte_back n h = cond_no (bad_byte (pos n)) 0 n (byte_held n h)

signed8_back : (z : ℤ) → SFits w8 z → signed8_of z ≡ z
unfolding signed8_of
signed8_back z f = cond_no (bad_signed8 z) (pos 0) z (signed8_held z f)

signed16_back : (z : ℤ) → SFits w16 z → signed16_of z ≡ z
unfolding signed16_of
signed16_back z f = cond_no (bad_signed16 z) (pos 0) z (signed16_held z f)

-- ---- the step whose six numbers stand at a place
step_back : (s : Step) (f : List ℤ) (at : ℕ) → Held s → ((r : ℕ) → r < 6 → get_or f (at + r) (pos 0) ≡ get_or (step_fields s) r (pos 0)) → step_from f at ≡ s
step_back s f at t h =
    (λ i. record { kind = k i; axis = a i; length = l i; origin = o i; border = b i; constant = c i })
  where
    k : byte_of (get_or f at (pos 0)) ≡ s.kind
    k = ap (λ j. byte_of (get_or f j (pos 0))) (sym (add-zero at)) ∙ ap byte_of (h 0 (lit< tt)) ∙ byte_back s.kind t.0

    a : byte_of (get_or f (at + 1) (pos 0)) ≡ s.axis
    a = ap byte_of (h 1 (lit< tt)) ∙ byte_back s.axis t.1

    l : byte_of (get_or f (at + 2) (pos 0)) ≡ s.length
    l = ap byte_of (h 2 (lit< tt)) ∙ byte_back s.length t.2

    o : signed8_of (get_or f (at + 3) (pos 0)) ≡ s.origin
    o = ap signed8_of (h 3 (lit< tt)) ∙ signed8_back s.origin t.3

    b : byte_of (get_or f (at + 4) (pos 0)) ≡ s.border
    b = ap byte_of (h 4 (lit< tt)) ∙ byte_back s.border t.4

    c : signed16_of (get_or f (at + 5) (pos 0)) ≡ s.constant
    c = ap signed16_of (h 5 (lit< tt)) ∙ signed16_back s.constant t.5

past : (r : ℕ) → suc (suc (suc (suc (suc (suc r))))) < 6 → ⊥
past r h = omega arith

field_held : (s : Step) → Held s → (r : ℕ) → r < 6 → bad_field r (get_or (step_fields s) r (pos 0)) ≡ false
unfolding bad_field
field_held s t zero h = byte_held s.kind t.0
field_held s t (suc zero) h = byte_held s.axis t.1
field_held s t (suc (suc zero)) h = byte_held s.length t.2
field_held s t (suc (suc (suc zero))) h = signed8_held s.origin t.3
field_held s t (suc (suc (suc (suc zero)))) h = byte_held s.border t.4
field_held s t (suc (suc (suc (suc (suc zero))))) h = signed16_held s.constant t.5
field_held s t (suc (suc (suc (suc (suc (suc r)))))) h = absurd (past r h)

zero_held : (r : ℕ) → bad_field r (pos 0) ≡ false
unfolding bad_field
zero_held r =
    cond_ind (eqb r 3) (bad_signed8 (pos 0)) (cond (eqb r 5) (bad_signed16 (pos 0)) (bad_byte (pos 0))) (λ t. t ≡ false) (λ _. signed8_held (pos 0) (sfits_lit tt))
    (λ _. cond_ind (eqb r 5) (bad_signed16 (pos 0)) (bad_byte (pos 0)) (λ t. t ≡ false) (λ _. signed16_held (pos 0) (sfits_lit tt)) (λ _. byte_held 0 (lit< tt)))

-- ---- a recipe
module _ (count : ℕ) (steps : List Step) (e : length steps ≡ 16) (t : Every Held steps) where
  behind : drop 1 (recipe_fields count steps) ≡ steps_fields steps
  unfolding recipe_fields
  behind = refl

  step_there : (k : ℕ) → k < 16 → step_from (steps_fields steps) (6 * k) ≡ get_or steps k no_step
  step_there k b =
      step_back (get_or steps k no_step) (steps_fields steps) (6 * k) (every_at Held steps no_step t k (omega arith)) (λ r h. steps_field steps k r (omega arith) h)

  pub steps_back : steps_from (drop 1 (recipe_fields count steps)) ≡ steps
  steps_back = ap steps_from behind ∙ sym (tabulate_unique no_step (λ k. step_from (steps_fields steps) (6 * k)) steps 16 e (λ k b. sym (step_there k b)))

  number_held : (k : ℕ) → unheld (steps_fields steps) k ≡ false
  number_held k = go (ltb k 96) refl
    where
      place : k ≡ 6 * (k / 6) + k % 6
      place = omega arith

      inside : k < 96 → get_or (steps_fields steps) k (pos 0) ≡ get_or (step_fields (get_or steps (k / 6) no_step)) (k % 6) (pos 0)
      inside h = ap (λ j. get_or (steps_fields steps) j (pos 0)) place ∙ steps_field steps (k / 6) (k % 6) (omega arith) (omega arith)

      go : (b : Bool) → ltb k 96 ≡ b → unheld (steps_fields steps) k ≡ false
      go true q =
          let h = ltb-true k 96 q in
          ap (bad_field (k % 6)) (inside h) ∙ field_held (get_or steps (k / 6) no_step) (every_at Held steps no_step t (k / 6) (omega arith)) (k % 6) (omega arith)
      go false q = ap (bad_field (k % 6)) (get_or-eq_default (steps_fields steps) (pos 0) (omega (arith, steps_length steps, ltb-false k 96 q))) ∙ zero_held (k % 6)

  pub none-bad : bad_fields (drop 1 (recipe_fields count steps)) ≡ false
  unfolding bad_fields
  none-bad = ap bad_fields behind ∙ any_never (unheld (steps_fields steps)) places number_held

-- ---- a file
module _ (f : List ℕ) (g : Every (λ b. b < 256) f) (z : refusal_of (file_judged f) ≡ 0) where
  byte : (k : ℕ) → get_or f k 0 < 256
  byte k = every_get_d (λ b. b < 256) f 0 (lit< tt) g k

  step_held : (k : ℕ) → Held (step_at f (6 + 7 * k))
  step_held k =
      let at = 6 + 7 * k in
      let w : Fits w16 (get_or f (at + 5) 0 * 256 + get_or f (at + 6) 0) = omega (arith, byte (at + 5), byte (at + 6)) in
      (byte at, byte (at + 1), byte (at + 2), sfits_to_z (record { fits = byte (at + 3) }), byte (at + 4), sfits_to_z w)

  none_held : Held no_step
  none_held = (lit< tt, lit< tt, lit< tt, sfits_lit tt, lit< tt, sfits_lit tt)

  steps_held : Every Held (steps_of f)
  steps_held =
      every_table Held (λ k. cond (ltb k (get_or f 5 0)) (step_at f (6 + 7 * k)) no_step) 0 16
      (λ k. cond_ind (ltb k (get_or f 5 0)) (step_at f (6 + 7 * k)) no_step Held (λ _. step_held k) (λ _. none_held))

  read_steps : (read_of f).steps ≡ steps_of f
  read_steps = rw z refl

  sixteen-read : length (read_of f).steps ≡ 16
  sixteen-read = ap length read_steps ∙ length-tabulate (λ k. cond (ltb k (get_or f 5 0)) (step_at f (6 + 7 * k)) no_step) 0 16

  read_held : Every Held (read_of f).steps
  read_held = rw read_steps steps_held

  again : steps_from (drop 1 (recipe_fields (read_of f).count (read_of f).steps)) ≡ (read_of f).steps
  again = steps_back (read_of f).count (read_of f).steps sixteen-read read_held

  pub fields_accepted : refusal_of (numbers_judged (read_of f).count (drop 1 (recipe_fields (read_of f).count (read_of f).steps)) (length f)) ≡ 0
  unfolding coded
  fields_accepted =
      let n = (read_of f).count in
      let s = (read_of f).steps in
      let l = drop 1 (recipe_fields n s) in
      let e = sym (read-accepted f z) ∙ ap (λ (q : List Step). refusal_of (recipe_judged n q (length f))) (sym again) in
      sym (chain_goes (recipe_judged n (steps_from l) (length f)) ((bad_fields l, 100) ∷ []) (tt, (tt, tt)) {r = 0} e refl (sym (cond_no (bad_fields l) 100 0 (none-bad n s sixteen-read read_held))))

  pub fields_written : file_of (read_of f).count (steps_from (drop 1 (recipe_fields (read_of f).count (read_of f).steps))) ≡ f
  fields_written = ap (file_of (read_of f).count) again ∙ read_written f g z
