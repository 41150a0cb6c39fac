-- The loops that add to counts: f j z is what turn j adds at place z. What is held and what is still to come make up the whole.
-- Assumes nothing.
use mathlib.Core.Path.{◌≡◌, refl, ap, ◌∙◌}
use mathlib.Core.Bool.{Bool, true, false}
use mathlib.Core.List.{List}
use Prim.Native.Nat.{ℕ, ◌+◌, ◌≤◌, ◌<◌}
use native.Mathlib.Omega.{arith}
use borrow.Author.Tests.{le-ltb}
use lib.Dec.{ltb}
use mir.Syntax.{w8}
use mir.Val.{Fits, bool_byte}
use lib.ListN.{length, get_or, set}
use Rattle.numbers.proofs.Tabulate.{length-tabulate, get_d_tabulate, tabulate_unique}
use Rattle.numbers.proofs.Stored.{Stored, front-more}
use Rattle.numbers.proofs.Tests.{cond_no}
use Rattle.median_spec.specs.Around.{up_to, total, one}
use Rattle.median_spec.specs.ByRows.{Room, added}
use Rattle.median_spec.proofs.Totals.{total-none, total-more}

-- ---- one addition
pub length-added : (g : ℕ → ℕ) (c : List ℕ) → length (added g c) ≡ length c
length-added g c = length-tabulate (λ z. get_or c z 0 + g z) 0 (length c)

pub get_d_added : (g : ℕ → ℕ) (c : List ℕ) (z : ℕ) → z < length c → get_or (added g c) z 0 ≡ get_or c z 0 + g z
get_d_added g c z h = get_d_tabulate (λ z. get_or c z 0 + g z) (length c) z 0 h

pub added_agree : (g h : ℕ → ℕ) (c : List ℕ) → ((z : ℕ) → z < length c → g z ≡ h z) → added g c ≡ added h c
added_agree g h c e = tabulate_unique 0 (λ z. get_or c z 0 + h z) (added g c) (length c) (length-added g c) (λ z b. get_d_added g c z b ∙ ap (λ (t : ℕ). get_or c z 0 + t) (e z b))

-- ---- the loop that adds a row: the cells below i are done
abbrev pub plus : List ℕ → List Bool → ℕ → ℕ
plus c row z = get_or c z 0 + one (get_or row z false)

byte_one : (t : Bool) → bool_byte t ≡ one t
byte_one true = refl
byte_one false = refl

module _ (row : List Bool) {c₀ c : List ℕ} {i : ℕ} (S : Stored 0 (λ k. ltb k i) (plus c₀ row) c₀ c) (b : i < length c₀) where
  pub added_held : get_or c i 0 ≡ get_or c₀ i 0
  added_held = S.cells i b ∙ cond_no (ltb i i) (plus c₀ row i) (get_or c₀ i 0) (le-ltb i i (omega arith))

  pub count_fits : Room (λ z. one (get_or row z false)) c₀ → Fits w8 (get_or c i 0 + bool_byte (get_or row i false))
  count_fits R = record { fits = omega (arith, R i b, added_held, byte_one (get_or row i false)) }

  pub added_more : Stored 0 (λ k. ltb k (i + 1)) (plus c₀ row) c₀ (set c i (get_or c i 0 + bool_byte (get_or row i false)))
  added_more = front-more 0 (plus c₀ row) _ b S (λ j. added_held j + byte_one (get_or row i false) j)

-- ---- the turns lo to hi − 1, of which those below j are done
pub record Adding (f : ℕ → ℕ → ℕ) (lo hi : ℕ) (c₀ : List ℕ) (j : ℕ) (c : List ℕ) : Type 0 where
  pub kept : length c ≡ length c₀
  pub sums : (z : ℕ) → z < length c₀ → get_or c z 0 + total (λ j. f j z) (up_to j hi) ≡ get_or c₀ z 0 + total (λ j. f j z) (up_to lo hi)

pub adding_none : (f : ℕ → ℕ → ℕ) (lo hi : ℕ) (c₀ : List ℕ) → Adding f lo hi c₀ lo c₀
adding_none f lo hi c₀ = record { kept = refl; sums = λ z b. refl }

module _ {f : ℕ → ℕ → ℕ} {lo hi : ℕ} {c₀ : List ℕ} {j : ℕ} {c : List ℕ} (S : Adding f lo hi c₀ j c) where
  step : j < hi → (z : ℕ) → total (λ j. f j z) (up_to j hi) ≡ f j z + total (λ j. f j z) (up_to (j + 1) hi)
  step h z = total-more (λ j. f j z) j hi h

  pub adding_room : j < hi → Room (λ z. total (λ j. f j z) (up_to lo hi)) c₀ → Room (f j) c
  adding_room h R z b = let b₀ : z < length c₀ = omega (arith, S.kept) in omega (arith, S.sums z b₀, step h z, R z b₀)

  pub adding_more : {c' : List ℕ} → j < hi → c' ≡ added (f j) c → Adding f lo hi c₀ (j + 1) c'
  adding_more {c'} h e = record { kept = ap length e ∙ length-added (f j) c ∙ S.kept; sums = λ z b. sum z b }
    where
      sum : (z : ℕ) → z < length c₀ → get_or c' z 0 + total (λ j. f j z) (up_to (j + 1) hi) ≡ get_or c₀ z 0 + total (λ j. f j z) (up_to lo hi)
      sum z b =
          let d : get_or c' z 0 ≡ get_or c z 0 + f j z = ap (λ (s : List ℕ). get_or s z 0) e ∙ get_d_added (f j) c z (omega (arith, S.kept)) in
          omega (arith, S.sums z b, step h z)

  pub adding_all : hi ≤ j → c ≡ added (λ z. total (λ j. f j z) (up_to lo hi)) c₀
  adding_all h = tabulate_unique 0 (λ z. get_or c₀ z 0 + total (λ j. f j z) (up_to lo hi)) c (length c₀) S.kept (λ z b. let n = total-none (λ j. f j z) j hi h in omega (arith, S.sums z b))
