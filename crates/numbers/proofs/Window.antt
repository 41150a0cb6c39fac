-- The window of a line: inside it is the part itself, past the end it is empty; its length, its members, its level at a place, and the cells that
-- enter and leave it as it moves on.
-- Assumes nothing.
use mathlib.Core.Path.{◌≡◌, sym, ap, ◌∙◌}
use mathlib.Core.Bool.{Bool, true, false, cond}
use mathlib.Core.List.{List, [], ◌∷◌, ◌++◌}
use Prim.Native.Nat.{ℕ, suc, ◌+◌, ◌-◌, ◌≤◌, ◌<◌, zero-le}
use native.Mathlib.Numerals.{add-one}
use native.Mathlib.Omega.{arith}
use borrow.Author.Tests.{le-leb, lt-leb}
use lib.Dec.{leb}
use lib.ListN.{length, get_or, take, drop, length-append, length-take, length-drop}
use lib.Seq.{get_or-take, get_or-drop, take-append-le, drop-append-le, take-suc, take-length}
use Rattle.numbers.specs.Lists.{any_of, Every}
use Rattle.numbers.specs.Windows.{window_of}
use Rattle.numbers.proofs.Any.{any_none, none_any, every_drop, every_take}
use Rattle.numbers.proofs.Index.{drop-next}
use Rattle.numbers.proofs.Tests.{cond_yes, cond_no}

module _ {A : Type 0} (s : List A) (i len : ℕ) where
  pub window_in : i + len ≤ length s → window_of s i len ≡ take len (drop i s)
  unfolding window_of
  window_in h = cond_yes _ (take len (drop i s)) [] (le-leb (i + len) (length s) h)

  -- the same as a part from i to i + len
  pub window-part : i + len ≤ length s → take (i + len - i) (drop i s) ≡ window_of s i len
  window-part h = let e : i + len - i ≡ len = omega arith in ap (λ (m : ℕ). take m (drop i s)) e ∙ sym (window_in h)

  pub window_out : length s < i + len → window_of s i len ≡ []
  unfolding window_of
  window_out h = cond_no _ (take len (drop i s)) [] (lt-leb (i + len) (length s) h)

  pub length-window : i + len ≤ length s → length (window_of s i len) ≡ len
  length-window h = ap length (window_in h) ∙ simp (length-take, length-drop) (omega arith)

  pub get_d_window : (j : ℕ) (d : A) → i + len ≤ length s → j < len → get_or (window_of s i len) j d ≡ get_or s (i + j) d
  get_d_window j d h b = ap (λ w. get_or w j d) (window_in h) ∙ get_or-take len (drop i s) j d b ∙ get_or-drop i s j d

  -- wherever the window lies
  pub length-window_le : length (window_of s i len) ≤ len
  unfolding window_of
  length-window_le = go (leb (i + len) (length s))
    where
      go : (t : Bool) → length (cond t (take len (drop i s)) []) ≤ len
      go true = omega (arith, length-take len (drop i s))
      go false = zero-le

  pub every_window : (P : A → Type 0) → Every P s → Every P (window_of s i len)
  unfolding window_of
  every_window P h = go (leb (i + len) (length s))
    where
      go : (t : Bool) → Every P (cond t (take len (drop i s)) [])
      go true = every_take P (drop i s) len (every_drop P s i h)
      go false = tt

  pub any_window : (t : A → Bool) → any_of t s ≡ false → any_of t (window_of s i len) ≡ false
  any_window t e = none_any t (window_of s i len) (every_window (λ x. t x ≡ false) (any_none t s e))

-- the window of every cell
pub window-whole : {A : Type 0} (s : List A) → window_of s 0 (length s) ≡ s
window-whole s = window_in s 0 (length s) (omega arith) ∙ take-length s

-- one cell more: it enters at the end; seen from the next window it is the cell at the front that leaves
module _ {A : Type 0} (s : List A) (i len : ℕ) (d : A) (h : i + len < length s) where
  longer : window_of s i (len + 1) ≡ take (suc len) (drop i s)
  longer = window_in s i (len + 1) (omega arith) ∙ ap (λ m. take m (drop i s)) (add-one len)

  pub window_enters : window_of s i (len + 1) ≡ window_of s i len ++ (get_or s (i + len) d ∷ [])
  window_enters =
      longer ∙ take-suc (drop i s) len d (omega (arith, length-drop i s))
      ∙ (λ t. sym (window_in s i len (omega arith)) t ++ (get_or-drop i s len d t ∷ []))

  pub window_leaves : window_of s i (len + 1) ≡ get_or s i d ∷ window_of s (i + 1) len
  window_leaves =
      longer ∙ ap (take (suc len)) (drop-next s i d (omega arith)) ∙ ap (λ r. get_or s i d ∷ r) (sym (window_in s (i + 1) len (omega arith)))

-- a window inside the first of two lists
pub window-append : {A : Type 0} (s t : List A) (i len : ℕ) → i + len ≤ length s → window_of (s ++ t) i len ≡ window_of s i len
window-append s t i len h =
    window_in (s ++ t) i len (omega (arith, length-append s t))
    ∙ ap (take len) (drop-append-le i s t (omega arith))
    ∙ take-append-le len (drop i s) t (omega (arith, length-drop i s))
    ∙ sym (window_in s i len h)
