-- The first of two in a total order, and of several: which it is depends neither on their order nor on how they are joined.
-- Assumes nothing.
use mathlib.Core.Path.{◌≡◌, refl, sym, ap, ◌∙◌}
use mathlib.Core.Bool.{Bool, cond}
use lib.Dec.{T}
use Rattle.numbers.proofs.Tests.{cond_ind}
use Rattle.numbers.specs.Order.{Total}

abbrev pub lesser : {A : Type 0} → (A → A → Bool) → A → A → A
lesser le a b = cond (le a b) a b

module _ {A : Type 0} (le : A → A → Bool) (O : Total le) where
  -- ---- at or before both, and after whatever is: this fixes it
  pub lesser-left : (a b : A) → T (le (lesser le a b) a)
  lesser-left a b = cond_ind (le a b) a b (λ y. T (le y a)) (λ t. O.itself a) (λ t. O.other a b t)

  pub lesser-right : (a b : A) → T (le (lesser le a b) b)
  lesser-right a b = cond_ind (le a b) a b (λ y. T (le y b)) (λ t. t) (λ t. O.itself b)

  lesser-after : (w a b : A) → T (le w a) → T (le w b) → T (le w (lesser le a b))
  lesser-after w a b h k = cond_ind (le a b) a b (λ y. T (le w y)) (λ t. h) (λ t. k)

  -- ---- the laws of joining
  pub lesser_itself : (a : A) → lesser le a a ≡ a
  lesser_itself a = cond_ind (le a a) a a (λ y. y ≡ a) (λ t. refl) (λ t. refl)

  pub lesser_comm : (a b : A) → lesser le a b ≡ lesser le b a
  lesser_comm a b =
      O.same (lesser le a b) (lesser le b a)
      (lesser-after _ b a (lesser-right a b) (lesser-left a b)) (lesser-after _ a b (lesser-right b a) (lesser-left b a))

  pub lesser_assoc : (a b c : A) → lesser le (lesser le a b) c ≡ lesser le a (lesser le b c)
  lesser_assoc a b c = let p = lesser le a b in let q = lesser le b c in
      O.same (lesser le p c) (lesser le a q)
      (lesser-after _ a q (O.chain _ _ _ (lesser-left p c) (lesser-left a b)) (lesser-after _ b c (O.chain _ _ _ (lesser-left p c) (lesser-right a b)) (lesser-right p c)))
      (lesser-after _ p c (lesser-after _ a b (lesser-left a q) (O.chain _ _ _ (lesser-right a q) (lesser-left b c))) (O.chain _ _ _ (lesser-right a q) (lesser-right b c)))

  -- two pairs, joined member by member or pair by pair
  pub lesser_crossed : (a b x y : A) → lesser le (lesser le a x) (lesser le b y) ≡ lesser le (lesser le a b) (lesser le x y)
  lesser_crossed a b x y =
      lesser_assoc a x (lesser le b y)
      ∙ ap (lesser le a) (sym (lesser_assoc x b y) ∙ ap (λ v. lesser le v y) (lesser_comm x b) ∙ lesser_assoc b x y)
      ∙ sym (lesser_assoc a b (lesser le x y))
