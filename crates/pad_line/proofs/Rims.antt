-- A line while the places before and after its middle are filled, over any element and border: from place 0 up to the middle, then from its end on.
-- Assumes nothing.
use mathlib.Core.Path.{◌≡◌, refl, sym, ap, subst, ◌∙◌}
use mathlib.Core.Bool.{Bool, true, false, cond}
use mathlib.Core.List.{List, ◌++◌}
use Prim.Native.Nat.{ℕ, ◌+◌, ◌-◌, ◌≤◌, ◌<◌}
use native.Mathlib.Omega.{arith}
use borrow.Author.Tests.{ltb-false}
use lib.Dec.{ltb}
use lib.ListN.{length, get_or, take, drop, set, length-take, length-drop}
use lib.Seq.{get_or-take, get_or-drop, drop_at, drop-append-add, drop-drop}
use Rattle.numbers.specs.Lists.{tabulate}
use Rattle.numbers.proofs.Stored.{Stored, front-none, front-more, front-part, front_held}
use Rattle.numbers.proofs.Tabulate.{length-tabulate}
use Rattle.border.specs.Border.{Border, constant, along, cell_before, cell_after}
use Rattle.border.specs.declared.CellBorder.{CellBorder}
use Rattle.pad_line.specs.Line.{padded_at, padded_line, pad_middle}
use Rattle.pad_line.proofs.Padded.{padded-inside, padded-before, padded-after, constant_before, constant_after}

-- the lane that stands in the middle of a line
abbrev pub middle : {A : Type 0} → ℕ → ℕ → List A → List A
middle left n l = take n (drop left l)

pub length-middle : {A : Type 0} (left n : ℕ) (l : List A) → left + n ≤ length l → length (middle left n l) ≡ n
length-middle left n l h = simp (length-take, length-drop) (omega arith)

get_d_middle : {A : Type 0} (d : A) (left n : ℕ) (l : List A) (i : ℕ) → i < n → get_or l (left + i) d ≡ get_or (middle left n l) i d
get_d_middle d left n l i h = sym (get_or-take n (drop left l) i d h ∙ get_or-drop left l i d)

-- the level that belongs at a place
abbrev pub level_at : {A : Type 0} → A → Border A → ℕ → ℕ → List A → ℕ → A
level_at d b left n l k = padded_at d b left (middle left n l) k

-- l is l₀ with the places below k filled
pub record Filled {A : Type 0} (d : A) (b : Border A) (left n : ℕ) (l₀ l : List A) (k : ℕ) : Type 0 where
  pub stored : Stored d (λ p. ltb p k) (level_at d b left n l₀) l₀ l

pub filled_none : {A : Type 0} (d : A) (b : Border A) (left n : ℕ) (l : List A) → Filled d b left n l l 0
filled_none d b left n l = record { stored = front-none d (level_at d b left n l) l }

filled_more : {A : Type 0} {d : A} {b : Border A} {left n : ℕ} {l₀ l : List A} {k : ℕ} (v : A)
    → k < length l₀ → Filled d b left n l₀ l k → v ≡ level_at d b left n l₀ k → Filled d b left n l₀ (set l k v) (k + 1)
filled_more {d = d} {b} {left} {n} {l₀} v h F e = record { stored = front-more d (level_at d b left n l₀) v h F.stored e }

-- ---- the cell of the lane that belongs at a place of either rim
module _ {A : Type 0} (d : A) (m : CellBorder) (left n : ℕ) (l : List A) (room : left + n ≤ length l) (k : ℕ) where
  pub level_before : k < left → cell_before m n (left - k) < n → get_or l (left + cell_before m n (left - k)) d ≡ level_at d (along m) left n l k
  level_before b h =
      get_d_middle d left n l (cell_before m n (left - k)) h
      ∙ ap (λ (j : ℕ). get_or (middle left n l) (cell_before m j (left - k)) d) (sym (length-middle left n l room))
      ∙ sym (padded-before d left (middle left n l) m k b)

  pub level-after : left + n ≤ k → cell_after m n (k + 1 - (left + n)) < n → get_or l (left + cell_after m n (k + 1 - (left + n))) d ≡ level_at d (along m) left n l k
  level-after b h =
      get_d_middle d left n l (cell_after m n (k + 1 - (left + n))) h
      ∙ ap (λ (j : ℕ). get_or (middle left n l) (cell_after m j (k + 1 - (left + j))) d) (sym (length-middle left n l room))
      ∙ sym (padded-after d left (middle left n l) m k (omega (arith, length-middle left n l room)))

-- ---- one place more of either rim, under a constant
module _ {A : Type 0} {d c : A} {left n : ℕ} {l₀ l : List A} {k : ℕ} (F : Filled d (constant c) left n l₀ l k) (room : left + n ≤ length l₀) where
  pub before_constant : (v : A) → k < left → v ≡ c → Filled d (constant c) left n l₀ (set l k v) (k + 1)
  before_constant v b q = filled_more v (omega arith) F (q ∙ constant_before d left (middle left n l₀) c k b)

  pub after_constant : (v : A) → left + n ≤ k → k < length l₀ → v ≡ c → Filled d (constant c) left n l₀ (set l k v) (k + 1)
  after_constant v b f q = filled_more v f F (q ∙ constant_after d left (middle left n l₀) c k (omega (arith, length-middle left n l₀ room)))

-- ---- the left rim is filled
module _ {A : Type 0} {d : A} {b : Border A} {left n : ℕ} {l₀ l₁ : List A} {p : ℕ} (E : Filled d b left n l₀ l₁ p) (end : p ≡ left) (room : left + n ≤ length l₀) where
  F : Filled d b left n l₀ l₁ left
  F = subst (λ (j : ℕ). Filled d b left n l₀ l₁ j) end E

  rim : List A
  rim = tabulate (level_at d b left n l₀) 0 left

  length_rim : length rim ≡ left
  unfolding rim
  length_rim = length-tabulate (level_at d b left n l₀) 0 left

  split : l₁ ≡ rim ++ drop left l₀
  unfolding rim
  split = front-part d (level_at d b left n l₀) (omega arith) F.stored

  -- the middle is what it was
  pub same_middle : middle left n l₁ ≡ middle left n l₀
  same_middle = ap (middle left n) split ∙ ap (take n) (drop_at rim (drop left l₀) left length_rim)

  -- the places up to the middle's end hold what belongs there
  pub filled-middle : Filled d b left n l₁ l₁ (left + n)
  filled-middle = record { stored = front_held d (level_at d b left n l₁) (left + n) l₁ (λ k h. at k h (ltb k left) refl) }
    where
      long : left + n ≤ length l₁
      long = omega (arith, F.stored.kept)

      at : (k : ℕ) → k < left + n → (t : Bool) → ltb k left ≡ t → get_or l₁ k d ≡ level_at d b left n l₁ k
      at k h true e =
          F.stored.cells k (omega arith) ∙ ap (λ t. cond t (level_at d b left n l₀ k) (get_or l₀ k d)) e
          ∙ ap (λ (s : List A). padded_at d b left s k) (sym same_middle)
      at k h false e =
          let p : k ≡ left + (k - left) = omega (arith, ltb-false k left e) in
          let i : k - left < n = omega (arith, ltb-false k left e) in
          ap (λ (j : ℕ). get_or l₁ j d) p ∙ get_d_middle d left n l₁ (k - left) i
          ∙ sym (ap (level_at d b left n l₁) p ∙ padded-inside d left (middle left n l₁) b (k - left) (omega (arith, length-middle left n l₁ long)))

  -- both rims are filled
  pub filled-all : (right : ℕ) {l₂ : List A} {k : ℕ} → left + n + right ≤ length l₀ → k ≡ left + n + right → Filled d b left n l₁ l₂ k → l₂ ≡ pad_middle d b left n right l₀
  unfolding padded_line
  filled-all right {l₂} {k} h e G =
      front-part d (level_at d b left n l₁) (omega (arith, F.stored.kept)) G.stored
      ∙ (λ j. tabulate (padded_at d b left (same_middle j)) 0 (total j) ++ rest j)
    where
      total : k ≡ left + length (middle left n l₀) + right
      total = omega (arith, length-middle left n l₀ room)

      past : k ≡ length rim + (n + right)
      past = omega (arith, length_rim)

      whole : left + (n + right) ≡ left + n + right
      whole = omega arith

      rest : drop k l₁ ≡ drop (left + n + right) l₀
      rest =
          (λ j. drop (past j) (split j)) ∙ drop-append-add rim (drop left l₀) (n + right) ∙ drop-drop (n + right) left l₀
          ∙ ap (λ (m : ℕ). drop m l₀) whole
