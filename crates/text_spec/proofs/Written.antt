-- A number written at the front of a list of at least 20 places: after a minus, or the digits alone.
-- Assumes nothing.
use Prim.Native.Nat.{ℕ, suc, ◌+◌, ◌-◌, ◌≤◌}
use native.Mathlib.Numerals.{add-one}
use native.Mathlib.Omega.{arith}
use mathlib.Core.Path.{◌≡◌, sym, ap, ◌∙◌}
use mathlib.Core.List.{List, [], ◌∷◌, ◌++◌, append-nil}
use borrow.Author.Tests.{le-ltb}
use borrow.Rule.Slice.PartMut.{put_mid, post_of, same_len_mid}
use lib.IntN.{ℤ, pos, negsuc, nat_abs}
use lib.ListN.{length, take, drop, set, length-set, length-drop}
use lib.Seq.{drop-length}
use lib.Signed.{mag}
use Rattle.text_spec.specs.Writing.{places_of, decimal_text, signed_text, written_in, written_count}
use Rattle.text_spec.proofs.Digits.{digits_length}
use lib.Seq.{take_all}

-- a slice from n on has all that is left
pub all_from : (n : ℕ) (t : List ℕ) → take (length t - n) (drop n t) ≡ drop n t
all_from n t = take_all (length t - n) (drop n t) (omega (arith, length-drop n t))

-- a minus in front, and the part after it
abbrev pub minused : List ℕ → List ℕ
minused l = set l 0 45

abbrev pub after : List ℕ → List ℕ
after l = take (length (minused l) - 1) (drop 1 (minused l))

pub after-length : (l : List ℕ) → 20 ≤ length l → 19 ≤ length (after l)
after-length l h = rw (all_from 1 (minused l)) (omega (arith, length-drop 1 (minused l), length-set l 0 45))

pub joined_length : (l m : List ℕ) → length m ≡ length (after l) → length (put_mid 1 (length (minused l) - 1) (minused l) m) ≡ length l
joined_length l m e = same_len_mid 1 (length (minused l) - 1) (minused l) m e ∙ length-set l 0 45

beyond-none : (x : ℕ) (xs : List ℕ) → post_of 1 (length (x ∷ xs) - 1) (x ∷ xs) ≡ []
beyond-none x xs = ap (λ n. drop n xs) (one_less (length xs)) ∙ drop-length xs
  where
    one_less : (n : ℕ) → suc n - 1 ≡ n
    one_less n = omega arith

joined : (l m t : List ℕ) (k : ℕ) → 20 ≤ length l → m ≡ t ++ drop k (after l)
    → put_mid 1 (length (minused l) - 1) (minused l) m ≡ 45 ∷ (t ++ drop (suc k) l)
joined [] m t k h e = absurd (none h)
  where
    none : 20 ≤ 0 → ⊥
    none p = omega arith
joined (x ∷ xs) m t k h e =
    ap (λ s. 45 ∷ s)
    (ap (λ s. m ++ s) (beyond-none 45 xs) ∙ append-nil m ∙ e ∙ ap (λ s. t ++ drop k s) (all_from 1 (45 ∷ xs)))

module _ (z : ℤ) (l m : List ℕ) (n r : ℕ) (h : 20 ≤ length l) (p : n ≡ nat_abs z) (q : r ≡ places_of 18 n) where
  pub written_below : z ≡ negsuc (mag z) → m ≡ decimal_text n ++ drop (places_of 18 n) (after l)
      → (r + 1 ≡ written_count (signed_text z) l) × (put_mid 1 (length (minused l) - 1) (minused l) m ≡ written_in (signed_text z) l)
  written_below e f =
      rw (e, le-ltb (length l) 20 h) (
        q',
        joined l m (decimal_text n) (places_of 18 n) h f ∙ ap (λ k. 45 ∷ (decimal_text k ++ drop (suc (places_of 18 k)) l)) size
            ∙ ap (λ k. 45 ∷ (decimal_text (suc (mag z)) ++ drop (suc k) l)) (sym (digits_length 10 (places_of 18 (suc (mag z))) (suc (mag z)))),
      )
    where
      size : n ≡ suc (mag z)
      size = p ∙ ap nat_abs e

      q' : r + 1 ≡ suc (length (decimal_text (suc (mag z))))
      q' = add-one r ∙ ap suc (q ∙ ap (places_of 18) size ∙ sym (digits_length 10 (places_of 18 (suc (mag z))) (suc (mag z))))

  pub written_on : z ≡ pos (mag z) → m ≡ decimal_text n ++ drop (places_of 18 n) l
      → (r ≡ written_count (signed_text z) l) × (m ≡ written_in (signed_text z) l)
  written_on e f =
      rw (e, le-ltb (length l) 20 h) (
        q ∙ ap (places_of 18) size ∙ sym places,
        f ∙ ap (λ k. decimal_text k ++ drop (places_of 18 k) l) size ∙ ap (λ k. decimal_text (mag z) ++ drop k l) (sym places),
      )
    where
      size : n ≡ mag z
      size = p ∙ ap nat_abs e

      places : length (decimal_text (mag z)) ≡ places_of 18 (mag z)
      places = digits_length 10 (places_of 18 (mag z)) (mag z)
