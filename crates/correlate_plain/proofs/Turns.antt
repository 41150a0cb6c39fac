-- One turn of a loop that adds terms along a row, on the machine: whichever cells and weights it reads, the terms, their sum and what the row then holds fit 64 bits;
-- and where they are those that are meant, the row has one cell more. Assumes nothing.
use Prim.Native.Nat.{ℕ, ◌+◌, ◌^◌, ◌<◌}
use mathlib.Core.Path.{◌≡◌, sym, ap, subst, ◌∙◌}
use mathlib.Core.List.{List}
use native.Mathlib.Nat.{add_assoc, add-zero}
use native.Mathlib.Omega.{arith}
use lib.IntN.{ℤ, pos, ◌+ℤ◌, ◌*ℤ◌, +ℤ_idl}
use lib.ListN.{get_or, set}
use mir.Syntax.{w64}
use mir.Val.{SFits}
use Rattle.numbers.proofs.Size.{Size, size_add, size_le, member_sized, tested_sized, fits_size}
use Rattle.correlate_spec.proofs.Along.{Pass, pass_more, pass_old}
use Rattle.correlate_spec.proofs.Sizes.{size_cell}
use Rattle.correlate_spec.specs.Sizes.{LineSumNeeds}
use Rattle.correlate_spec.specs.Weighed.{summed, whole_ops, cell_term, plain_to}
use Rattle.correlate_spec.proofs.Computed.{read, Computed, computed_level, computed_read, computed}
use Rattle.correlate_spec.proofs.Terms.{cell_size, weight_size}
use Rattle.correlate_plain.specs.Added.{plus, three_terms, four_terms, Passed}

-- ---- the terms of one, of three and of four weights: cell a times weight k, whichever they are
module _ {w s : List ℤ} {n : ℕ} (W : LineSumNeeds w s n) where
  abbrev meant : ℕ → ℕ → ℤ
  meant a k = get_or s a (pos 0) *ℤ get_or w k (pos 0)

  one_size : (a k : ℕ) → Size (meant a k) (2 ^ 54)
  one_size a k = size_le (size_cell (2 ^ 38) 65535 w s (cell_size W) (weight_size W) a k) (omega arith)

  pub term_size : (a k : ℕ) → Size (meant a k) (2 ^ 56)
  term_size a k = size_le (one_size a k) (omega arith)

  two_size : (a b k l : ℕ) → Size (meant a k +ℤ meant b l) (2 ^ 55)
  two_size a b k l = size_le (size_add (one_size a k) (one_size b l)) (omega arith)

  pub three_size : (a b c k l m : ℕ) → Size (meant a k +ℤ meant b l +ℤ meant c m) (2 ^ 56)
  three_size a b c k l m = size_le (size_add (two_size a b k l) (one_size c m)) (omega arith)

  pub four_size : (a b c d k l m n : ℕ) → Size (meant a k +ℤ meant b l +ℤ meant c m +ℤ meant d n) (2 ^ 56)
  four_size a b c d k l m n = size_le (size_add (size_add (two_size a b k l) (one_size c m)) (one_size d n)) (omega arith)

  pub cell-read : (a : ℕ) → read (get_or s a (pos 0)) ≡ get_or s a (pos 0)
  cell-read a = computed_read (computed_level (cell_size W a) (omega arith))

  -- x is cell a and v weight k, as the machine holds them
  pub one : (a k : ℕ) {x v : ℤ} → x ≡ get_or s a (pos 0) → v ≡ get_or w k (pos 0) → Computed (x *ℤ read v) (meant a k)
  one a k {x} {v} ex ev = record { fits = subst (SFits w64) (sym is) (fits_size (one_size a k) (omega arith)); is = is }
    where
      held : read v ≡ get_or w k (pos 0)
      held = ap read ev ∙ computed_read (computed_level (weight_size W k) (omega arith))

      is : x *ℤ read v ≡ meant a k
      is = (λ t. ex t *ℤ held t)

  module _ (a b k l : ℕ) {x y u v : ℤ} (ex : x ≡ get_or s a (pos 0)) (ey : y ≡ get_or s b (pos 0)) (eu : u ≡ get_or w k (pos 0)) (ev : v ≡ get_or w l (pos 0)) where
    pub two : Computed (read (x *ℤ read u) +ℤ read (y *ℤ read v)) (meant a k +ℤ meant b l)
    two = computed ◌+ℤ◌ (one a k ex eu) (one b l ey ev) (two_size a b k l) (omega arith)

    module _ (c m : ℕ) {z q : ℤ} (ez : z ≡ get_or s c (pos 0)) (eq : q ≡ get_or w m (pos 0)) where
      pub three : Computed (read (read (x *ℤ read u) +ℤ read (y *ℤ read v)) +ℤ read (z *ℤ read q)) (meant a k +ℤ meant b l +ℤ meant c m)
      three = computed ◌+ℤ◌ two (one c m ez eq) (three_size a b c k l m) (omega arith)

      pub four : (d n : ℕ) {y₃ v₃ : ℤ} → y₃ ≡ get_or s d (pos 0) → v₃ ≡ get_or w n (pos 0)
          → Computed (read (read (read (x *ℤ read u) +ℤ read (y *ℤ read v)) +ℤ read (z *ℤ read q)) +ℤ read (y₃ *ℤ read v₃)) (meant a k +ℤ meant b l +ℤ meant c m +ℤ meant d n)
      four d n ed en = computed ◌+ℤ◌ three (one d n ed en) (four_size a b c d k l m n) (omega arith)

-- the three and the four terms of cell i, at the places where the code reads them
pub three-places : (w s : List ℤ) (i j : ℕ)
    → get_or s (i + j) (pos 0) *ℤ get_or w j (pos 0) +ℤ get_or s (i + j + 1) (pos 0) *ℤ get_or w (j + 1) (pos 0) +ℤ get_or s (i + j + 2) (pos 0) *ℤ get_or w (j + 2) (pos 0) ≡ three_terms w s i j
three-places w s i j t =
    get_or s (i + j) (pos 0) *ℤ get_or w j (pos 0) +ℤ get_or s (add_assoc i j 1 t) (pos 0) *ℤ get_or w (j + 1) (pos 0)
    +ℤ get_or s (add_assoc i j 2 t) (pos 0) *ℤ get_or w (j + 2) (pos 0)

pub four-places : (w s : List ℤ) (i j : ℕ)
    → get_or s (i + j) (pos 0) *ℤ get_or w j (pos 0) +ℤ get_or s (i + j + 1) (pos 0) *ℤ get_or w (j + 1) (pos 0) +ℤ get_or s (i + j + 2) (pos 0) *ℤ get_or w (j + 2) (pos 0)
    +ℤ get_or s (i + j + 3) (pos 0) *ℤ get_or w (j + 3) (pos 0) ≡ four_terms w s i j
four-places w s i j t = three-places w s i j t +ℤ get_or s (add_assoc i j 3 t) (pos 0) *ℤ get_or w (j + 3) (pos 0)

-- the sums of the first one and of the first three weights, where the code reads them
pub first_one : (w s : List ℤ) (i : ℕ) → get_or s i (pos 0) *ℤ get_or w 0 (pos 0) ≡ plain_to whole_ops w s 1 i
unfolding summed
first_one w s i = let t = cell_term whole_ops w s i 0 in ap (λ k. get_or s k (pos 0) *ℤ get_or w 0 (pos 0)) (sym (add-zero i)) ∙ sym (+ℤ_idl t)

pub first_three : (w s : List ℤ) (i : ℕ)
    → get_or s i (pos 0) *ℤ get_or w 0 (pos 0) +ℤ get_or s (i + 1) (pos 0) *ℤ get_or w 1 (pos 0) +ℤ get_or s (i + 2) (pos 0) *ℤ get_or w 2 (pos 0) ≡ plain_to whole_ops w s 3 i
unfolding summed
first_three w s i = ap (λ (x : ℤ). x +ℤ get_or s (i + 1) (pos 0) *ℤ get_or w 1 (pos 0) +ℤ get_or s (i + 2) (pos 0) *ℤ get_or w 2 (pos 0)) (first_one w s i)

-- a cell by another name of its place
pub cell_at : (s : List ℤ) (a b : ℕ) {x : ℤ} → x ≡ get_or s a (pos 0) → a ≡ b → x ≡ get_or s b (pos 0)
cell_at s a b e p = e ∙ ap (λ (k : ℕ). get_or s k (pos 0)) p

-- ---- added to what the row holds: x is what the machine makes of a number z of at most 2^56
module _ {w s out₀ : List ℤ} (A : Passed w s out₀) (f : ℕ → ℤ) {out : List ℤ} {n i : ℕ} (P : Pass (pos 0) (plus out₀ f) out₀ n i out) (b : i < n) where
  small : Size (get_or out i (pos 0)) (2 ^ 62)
  small = subst (λ (y : ℤ). Size y (2 ^ 62)) (sym (pass_old P b)) (member_sized (2 ^ 62) out₀ (tested_sized (2 ^ 62) out₀ A.small) i)

  pub added : {x z : ℤ} → Computed x z → Size z (2 ^ 56) → Computed (read (get_or out i (pos 0)) +ℤ read x) (get_or out i (pos 0) +ℤ z)
  added c h = computed ◌+ℤ◌ (computed_level small (omega arith)) c (size_add small h) (omega arith)

  pub added_more : {x z : ℤ} → Computed x z → Size z (2 ^ 56) → z ≡ f i → Pass (pos 0) (plus out₀ f) out₀ n (i + 1) (set out i (read (read (get_or out i (pos 0)) +ℤ read x)))
  added_more c h e = pass_more P b (computed_read (added c h) ∙ (λ t. pass_old P b t +ℤ e t))
