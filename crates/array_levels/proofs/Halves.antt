-- A list in three parts: two of as many members, and the rest.
-- Assumes nothing.
use Rattle.std.proofs.Common.{◌≡◌, ℕ, ◌+◌, ◌-◌, ◌/◌, Bool, ◌||◌, List, length, take, drop, sym, ap, ◌∙◌, arith, length-drop, take-append-drop, length-take, length-take-le, take_all, drop-drop}
use Rattle.numbers.specs.Lists.{any_of}
use Rattle.numbers.proofs.Any.{any_append}
use Rattle.numbers.proofs.Tests.{or_assoc}

module _ {A : Type 0} (t : A → Bool) (s : List A) (h : ℕ) where
  any_split : any_of t s ≡ any_of t (take h s) || any_of t (drop h s)
  any_split = ap (any_of t) (sym (take-append-drop h s)) ∙ any_append t (take h s) (drop h s)

-- half of the members, cut, and as many after them
module _ {A : Type 0} (s : List A) where
  pub length-half : length (take (length s / 2) s) ≡ length s / 2
  length-half = length-take-le (length s / 2) s (omega arith)

  pub length_other : length (take (length s / 2 + length s / 2 - length s / 2) (drop (length s / 2) s)) ≡ length (take (length s / 2) s)
  length_other = simp (length-take, length-drop) (omega arith)

-- a member that passes a test is in one of the halves, or in what is left
module _ {A : Type 0} (t : A → Bool) (s : List A) where
  pub any_halves : let h = length s / 2 in (any_of t (take h s) || any_of t (take (h + h - h) (drop h s))) || any_of t (take (length s - (h + h)) (drop (h + h) s)) ≡ any_of t s
  any_halves =
      let h = length s / 2 in
      or_assoc (any_of t (take h s)) (any_of t (take (h + h - h) (drop h s))) (any_of t (take (length s - (h + h)) (drop (h + h) s)))
      ∙ ap (λ b. any_of t (take h s) || (any_of t (take (h + h - h) (drop h s)) || b)) (ap (any_of t) (take_all (length s - (h + h)) (drop (h + h) s) (omega (arith, length-drop (h + h) s)) ∙ rest h))
      ∙ ap (λ b. any_of t (take h s) || b) (sym (any_split t (drop h s) (h + h - h)))
      ∙ sym (any_split t s h)
    where
      twice : (h : ℕ) → h + h ≡ h + (h + h - h)
      twice h = omega arith

      rest : (h : ℕ) → drop (h + h) s ≡ drop (h + h - h) (drop h s)
      rest h = ap (λ n. drop n s) (twice h) ∙ sym (drop-drop (h + h - h) h s)
