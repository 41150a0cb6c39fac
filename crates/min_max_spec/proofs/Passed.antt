-- What an accepted call has passed; a call's number is the same wherever it stands; the accepted calls are those of the list that would be accepted first.
-- Assumes nothing.
use mathlib.Core.Path.{◌≡◌, refl, sym, ap, ◌∙◌}
use mathlib.Core.Bool.{Bool, true, false, not, ◌&&◌, ◌||◌, cond}
use mathlib.Core.Logic.{◌⊎◌, inl, inr}
use mathlib.Core.List.{List, [], ◌∷◌, map}
use Prim.Native.Nat.{ℕ, zero, suc}
use borrow.Author.Tests.{eqb-true}
use lib.Dec.{eqb}
use lib.IntN.{ℤ, pos}
use lib.ListN.{length, get_or}
use Rattle.numbers.specs.Lists.{tabulate, Every, any_of}
use Rattle.numbers.specs.Order.{extreme_from, extreme}
use Rattle.numbers.specs.Ranges.{outside}
use Rattle.numbers.proofs.Tabulate.{length-tabulate}
use Rattle.numbers.proofs.Tests.{or_false}
use Rattle.array_spec.specs.Conditions.{bad_level, bad_axis}
use Rattle.array_spec.specs.Grid.{coordinate}
use Rattle.array_spec.proofs.Judged.{PassedGrid, grid_passed}
use Rattle.border.specs.Border.{Border, constant, along, inside, extended_lane}
use Rattle.border.specs.Modes.{bad_constant_by}
use Rattle.window_spec.specs.Origin.{bad_origin}
use Rattle.border.specs.Reach.{bad_pad}
use Rattle.min_max_spec.specs.Call.{Call, window, alone, axis_length, window_judged, number_of}
use Rattle.window_spec.specs.Window.{left_pad, right_pad}
use Rattle.min_max_spec.specs.Run.{lane_level, answer_of, after, run, numbers, accepted}

-- ---- tests
pub true_or_false : (t : Bool) → (t ≡ true) ⊎ (t ≡ false)
true_or_false true = inl refl
true_or_false false = inr refl

-- an accepted call has passed each test
pub record Passed (cells : List ℤ) (c : Call) : Type 0 where
  pub grid : PassedGrid bad_level c.shape cells (length c.out ∷ [])
  pub size : outside 1 65 c.size ≡ false
  pub origin : (not (alone c) && bad_origin c.size c.origin) ≡ false
  pub axis : bad_axis c.shape c.axis ≡ false
  pub level : bad_constant_by bad_level c.border ≡ false
  pub pads : (not (alone c) && (bad_pad c.border (axis_length c) (left_pad c.size c.origin) || bad_pad c.border (axis_length c) (right_pad c.size c.origin))) ≡ false

pub passed : (cells : List ℤ) (c : Call) → number_of cells c ≡ 0 → Passed cells c
unfolding number_of
passed cells c e =
    let p = grid_passed bad_level c.shape cells (length c.out ∷ []) (window_judged c) (tt, (tt, (tt, (tt, (tt, tt))))) e in
    record { grid = p.0; size = p.1.0; origin = p.1.1.0; axis = p.1.1.1.0; level = p.1.1.1.1.0; pads = p.1.1.1.1.1.0 }

-- ---- what an accepted call fills is a grid of the same length, with levels in range
pub length_answer : (le : ℤ → ℤ → Bool) (cells : List ℤ) (c : Call) → length (answer_of le cells c) ≡ length cells
unfolding answer_of
length_answer le cells c = length-tabulate _ 0 (length cells)

any_tabulate : {A : Type 0} (t : A → Bool) (f : ℕ → A) (m n : ℕ) → ((k : ℕ) → t (f k) ≡ false) → any_of t (tabulate f m n) ≡ false
unfolding tabulate
any_tabulate t f m zero h = refl
any_tabulate t f m (suc n) h = (λ i. h m i || any_tabulate t f (suc m) n h i)

any_get_d : {A : Type 0} (t : A → Bool) (l : List A) (k : ℕ) (d : A) → t d ≡ false → any_of t l ≡ false → t (get_or l k d) ≡ false
any_get_d t [] k d h e = h
any_get_d t (x ∷ l) zero d h e = (or_false (t x) (any_of t l) e).0
any_get_d t (x ∷ l) (suc k) d h e = any_get_d t l k d h (or_false (t x) (any_of t l) e).1

cond_in : {A : Type 0} (t : A → Bool) (b : Bool) (x y : A) → t x ≡ false → t y ≡ false → t (cond b x y) ≡ false
cond_in t true x y h k = h
cond_in t false x y h k = k

from_in : (t : ℤ → Bool) (le : ℤ → ℤ → Bool) (m : ℤ) (zs : List ℤ) (f : ℤ → ℤ) → t m ≡ false → ((z : ℤ) → t (f z) ≡ false) → t (extreme_from le m (map f zs)) ≡ false
from_in t le m [] f h k = h
from_in t le m (z ∷ zs) f h k = from_in t le (cond (le m (f z)) m (f z)) zs f (cond_in t (le m (f z)) m (f z) h (k z)) k

extreme_in : (t : ℤ → Bool) (le : ℤ → ℤ → Bool) (zs : List ℤ) (f : ℤ → ℤ) → t (pos 0) ≡ false → ((z : ℤ) → t (f z) ≡ false) → t (extreme le (pos 0) (map f zs)) ≡ false
extreme_in t le [] f h k = h
extreme_in t le (z ∷ zs) f h k = from_in t le (f z) zs f (k z) k

lane_in : (b : Border ℤ) (n : ℕ) (h : ℕ → ℤ) (z : ℤ) → bad_constant_by bad_level b ≡ false → ((i : ℕ) → bad_level (h i) ≡ false) → bad_level (extended_lane b n h z) ≡ false
unfolding extended_lane
lane_in (constant v) n h z e f = cond_in bad_level (inside n z) (h _) v (f _) e
lane_in (along m) n h z e f = f _

zero_in : bad_level (pos 0) ≡ false
unfolding bad_level
zero_in = refl

pub answer_in : (le : ℤ → ℤ → Bool) (cells : List ℤ) (c : Call) → bad_constant_by bad_level c.border ≡ false → any_of bad_level cells ≡ false → any_of bad_level (answer_of le cells c) ≡ false
unfolding answer_of
answer_in le cells c e h =
    any_tabulate bad_level _ 0 (length cells)
    (λ k. extreme_in bad_level le (window c (pos (coordinate c.shape k c.axis))) (lane_level cells c k) zero_in
    (λ z. lane_in c.border (axis_length c) _ z e (λ i. any_get_d bad_level cells _ (pos 0) zero_in h)))

-- ---- the number depends on how many cells there are and on whether a level is out of range
number_same : (l l' : List ℤ) (c : Call) → length l ≡ length l' → any_of bad_level l ≡ any_of bad_level l' → number_of l c ≡ number_of l' c
unfolding number_of
number_same l l' c e h = simp (e, h)

pub after_yes : (le : ℤ → ℤ → Bool) (cells : List ℤ) (c : Call) → eqb (number_of cells c) 0 ≡ true → after le cells c ≡ answer_of le cells c
unfolding after
after_yes le cells c t = ap (λ b. cond b (answer_of le cells c) cells) t

pub after_no : (le : ℤ → ℤ → Bool) (cells : List ℤ) (c : Call) → eqb (number_of cells c) 0 ≡ false → after le cells c ≡ cells
unfolding after
after_no le cells c t = ap (λ b. cond b (answer_of le cells c) cells) t

-- what every call leaves as it was
pub record Alike (l l' : List ℤ) : Type 0 where
  pub size : length l ≡ length l'
  pub range : any_of bad_level l ≡ any_of bad_level l'

pub alike_number : {l l' : List ℤ} → Alike l l' → (c : Call) → number_of l c ≡ number_of l' c
alike_number {l} {l'} r c = number_same l l' c r.size r.range

pub alike_after : (le : ℤ → ℤ → Bool) (cells : List ℤ) (c : Call) → Alike (after le cells c) cells
alike_after le cells c = go (true_or_false (eqb (number_of cells c) 0))
  where
    go : (eqb (number_of cells c) 0 ≡ true) ⊎ (eqb (number_of cells c) 0 ≡ false) → Alike (after le cells c) cells
    go (inl t) =
        let P = passed cells c (eqb-true (number_of cells c) 0 t) in
        record {
          size = ap length (after_yes le cells c t) ∙ length_answer le cells c;
          range = ap (any_of bad_level) (after_yes le cells c t) ∙ answer_in le cells c P.level P.grid.levels ∙ sym P.grid.levels;
        }
    go (inr t) = record { size = ap length (after_no le cells c t); range = ap (any_of bad_level) (after_no le cells c t) }

map_ext : {A B : Type 0} (f g : A → B) (l : List A) → ((x : A) → f x ≡ g x) → map f l ≡ map g l
map_ext f g [] h = refl
map_ext f g (x ∷ l) h = (λ i. h x i ∷ map_ext f g l h i)

pub same_numbers : (le : ℤ → ℤ → Bool) (cells : List ℤ) (calls : List Call) → numbers le cells calls ≡ map (number_of cells) calls
unfolding numbers
same_numbers le cells [] = refl
same_numbers le cells (c ∷ cs) =
    ap (λ l. number_of cells c ∷ l) (same_numbers le (after le cells c) cs ∙ map_ext (number_of (after le cells c)) (number_of cells) cs (alike_number (alike_after le cells c)))

pub same_length : (le : ℤ → ℤ → Bool) (cells : List ℤ) (calls : List Call) → length (run le cells calls) ≡ length cells
unfolding run
same_length le cells [] = refl
same_length le cells (c ∷ cs) = same_length le (after le cells c) cs ∙ (alike_after le cells c).size

-- ---- the calls of a list that would be accepted as its first, and the grid that they leave one after the other
abbrev pub kept : List ℤ → List Call → List Call
kept cells [] = []
kept cells (c ∷ cs) = cond (eqb (number_of cells c) 0) (c ∷ kept cells cs) (kept cells cs)

abbrev pub fill : (ℤ → ℤ → Bool) → List ℤ → List Call → List ℤ
fill le cells [] = cells
fill le cells (c ∷ cs) = fill le (answer_of le cells c) cs

kept_ext : (l l' : List ℤ) (calls : List Call) → Alike l l' → kept l calls ≡ kept l' calls
kept_ext l l' [] r = refl
kept_ext l l' (c ∷ cs) r = (λ i. cond (eqb (alike_number r c i) 0) (c ∷ kept_ext l l' cs r i) (kept_ext l l' cs r i))

pub accepted-kept : (le : ℤ → ℤ → Bool) (cells : List ℤ) (calls : List Call) → accepted le cells calls ≡ kept cells calls
unfolding accepted
accepted-kept le cells [] = refl
accepted-kept le cells (c ∷ cs) =
    ap (λ l. cond (eqb (number_of cells c) 0) (c ∷ l) l) (accepted-kept le (after le cells c) cs ∙ kept_ext (after le cells c) cells cs (alike_after le cells c))

pub run-fill : (le : ℤ → ℤ → Bool) (cells : List ℤ) (calls : List Call) → run le cells calls ≡ fill le cells (kept cells calls)
unfolding run
run-fill le cells [] = refl
run-fill le cells (c ∷ cs) =
    run-fill le (after le cells c) cs ∙ ap (fill le (after le cells c)) (kept_ext (after le cells c) cells cs (alike_after le cells c)) ∙ go (eqb (number_of cells c) 0) refl
  where
    go : (t : Bool) → eqb (number_of cells c) 0 ≡ t → fill le (after le cells c) (kept cells cs) ≡ fill le cells (cond t (c ∷ kept cells cs) (kept cells cs))
    go true t = ap (λ l. fill le l (kept cells cs)) (after_yes le cells c t)
    go false t = ap (λ l. fill le l (kept cells cs)) (after_no le cells c t)

pub kept_passed : (cells : List ℤ) (calls : List Call) → Every (Passed cells) (kept cells calls)
kept_passed cells [] = tt
kept_passed cells (c ∷ cs) = go (eqb (number_of cells c) 0) refl (kept_passed cells cs)
  where
    go : (t : Bool) → eqb (number_of cells c) 0 ≡ t → Every (Passed cells) (kept cells cs) → Every (Passed cells) (cond t (c ∷ kept cells cs) (kept cells cs))
    go true t h = (passed cells c (eqb-true (number_of cells c) 0 t), h)
    go false t h = h
