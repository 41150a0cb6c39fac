-- The test of whether a place is in the middle, axis by axis.
-- Assumes nothing.
use mathlib.Core.Path.{◌≡◌, refl, sym, ap, ◌∙◌}
use mathlib.Core.Bool.{Bool, true, false, not, ◌&&◌}
use mathlib.Core.List.{List}
use Prim.Native.Nat.{ℕ, suc, ◌+◌, ◌-◌, ◌/◌, ◌%◌, ◌≤◌, ◌<◌}
use native.Mathlib.Omega.{arith}
use borrow.Author.Tests.{le-leb, lt-leb}
use lib.Dec.{ltb}
use lib.ListN.{length, get_or}
use Rattle.array_spec.specs.Grid.{cell_count, length_of, stride_of, coordinate}
use Rattle.array_spec.proofs.Strides.{coordinate_digit}
use Rattle.pad_spec.specs.Pads.{in_middle, all_from}
use Rattle.pad_spec.specs.Frame.{Framed}
use Rattle.pad_spec.proofs.Room.{padded-full}

-- ---- one axis, from the coordinate as it is computed
module _ {ns lefts ps : List ℕ} (F : Framed ns lefts ps) {a k s m : ℕ} (h : a < length ns) (b : k < cell_count ps) (e : s ≡ stride_of ps a) (f : m ≡ length_of ps a) where
  read-coordinate : k / s % m ≡ coordinate ps k a
  read-coordinate = (λ j. k / e j % f j) ∙ sym (coordinate_digit ps a k (padded-full F) (omega (arith, F.axes)) b)

  pub middle-before : k / s % m < get_or lefts a 0 → false ≡ in_middle ns lefts (coordinate ps k) a
  middle-before l = sym (ap (λ t. t && ltb (coordinate ps k a) (get_or lefts a 0 + length_of ns a)) (lt-leb (get_or lefts a 0) (coordinate ps k a) (omega (arith, read-coordinate))))

  pub middle-after : {n : ℕ} → n ≡ length_of ns a → get_or lefts a 0 ≤ k / s % m → ltb (k / s % m) (get_or lefts a 0 + n) ≡ in_middle ns lefts (coordinate ps k) a
  middle-after {n} g l =
      (λ j. ltb (read-coordinate j) (get_or lefts a 0 + g j))
      ∙ sym (ap (λ t. t && ltb (coordinate ps k a) (get_or lefts a 0 + length_of ns a)) (le-leb (get_or lefts a 0) (coordinate ps k a) (omega (arith, read-coordinate))))

-- ---- one axis after the other: t holds of a, .. below N
module _ (t : ℕ → Bool) (N a : ℕ) {r : Bool} (e : r ≡ all_from t a (N - a)) where
  step : a < N → r ≡ t a && all_from t (a + 1) (N - (a + 1))
  step h =
      let m : N - a ≡ suc (N - (a + 1)) = omega arith in
      let n : suc a ≡ a + 1 = omega arith in
      e ∙ ap (all_from t a) m ∙ ap (λ (x : ℕ). t a && all_from t x (N - (a + 1))) n

  pub all_stops : a < N → not (t a) ≡ true → false ≡ r
  all_stops h q = sym (step h ∙ ap (λ u. u && all_from t (a + 1) (N - (a + 1))) (no (t a) q))
    where
      no : (u : Bool) → not u ≡ true → u ≡ false
      no true p = sym p
      no false p = refl

  pub all_goes : a < N → not (t a) ≡ false → r ≡ all_from t (a + 1) (N - (a + 1))
  all_goes h q = step h ∙ ap (λ u. u && all_from t (a + 1) (N - (a + 1))) (yes (t a) q)
    where
      yes : (u : Bool) → not u ≡ false → u ≡ true
      yes true p = refl
      yes false p = sym p

  pub all_ends : N ≤ a → true ≡ r
  all_ends h = let m : N - a ≡ 0 = omega arith in sym (e ∙ ap (all_from t a) m)
