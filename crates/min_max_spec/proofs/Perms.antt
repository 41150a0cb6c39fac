-- Two lists of calls that differ only in order.
-- Assumes nothing.
use mathlib.Core.Path.{◌≡◌, refl, sym, ap, subst, subst₂, ◌∙◌, fun_ext}
use mathlib.Core.Bool.{Bool, true, false, cond}
use mathlib.Core.Logic.{∥∥₁_elim}
use mathlib.Core.List.Perm
use mathlib.Core.List.Permᴰ
use mathlib.Core.List.{List, [], ◌∷◌, map, zip, zip_with, Perm, is_set, Permᴰ}
use Prim.Native.Nat.{ℕ, suc, ◌≤◌, ◌<◌}
use native.Mathlib.Omega.{arith}
use lib.Dec.{eqb}
use lib.IntN.{ℤ, pos, ℤ_set}
use lib.ListN.{length, get_or}
use lib.Seq.{ext_get_or}
use Rattle.numbers.specs.Lists.{Every}
use Rattle.numbers.specs.Order.{Total}
use Rattle.array_spec.specs.Conditions.{bad_level}
use Rattle.array_spec.specs.Grid.{cell_count, coordinate, level_at}
use Rattle.array_spec.proofs.Places.{Positive, Within, coordinate_within, place_coordinate}
use Rattle.array_spec.proofs.Shapes.{shape-accepted}
use Rattle.array_spec.proofs.Judged.{PassedGrid, grid_passed}
use Rattle.border.specs.Border.{Border, extended_grid, extended_grid_by}
use Rattle.min_max_spec.specs.Call.{Call, number_of, grid_number, InWindow}
use Rattle.min_max_spec.specs.Run.{answer_of, run, accepted}
use Rattle.min_max_spec.specs.Order.{Point, cell_at, times_swept, border_on, Sweeps, InBox, Extremum, OrderFor}
use Rattle.min_max_spec.proofs.Passed.{Passed, length_answer, kept, fill, accepted-kept, run-fill, kept_passed, same_numbers, same_length}
use Rattle.min_max_spec.proofs.Levels.{Takes, grid_ext}
use Rattle.min_max_spec.proofs.Calls.{OnGrid, on_axis_lem, all_on_grid, own_borders, border_shared, no_one, Reach}
use Rattle.min_max_spec.proofs.Box.{extremum_same, core, lowest}

every_perm : {A : Type 0} (P : A → Type 0) {l l' : List A} → Permᴰ l l' → Every P l → Every P l'
every_perm P Permᴰ.nil h = tt
every_perm P (Permᴰ.cons e d) h = (subst P e h.0, every_perm P d h.1)
every_perm P (Permᴰ.swap e₁ e₂) h = (subst P e₂ h.1.0, (subst P e₁ h.0, h.1.1))
every_perm P (Permᴰ.trans d₁ d₂) h = every_perm P d₂ (every_perm P d₁ h)

two_tests : (s t : Bool) (n : ℕ) → cond s (suc (cond t (suc n) n)) (cond t (suc n) n) ≡ cond t (suc (cond s (suc n) n)) (cond s (suc n) n)
two_tests true true n = refl
two_tests true false n = refl
two_tests false true n = refl
two_tests false false n = refl

swept_perm : (b : ℕ) {l l' : List Call} → Permᴰ l l' → times_swept b l ≡ times_swept b l'
swept_perm b Permᴰ.nil = refl
swept_perm b (Permᴰ.cons e d) = (λ i. cond (eqb (e i).axis b) (suc (swept_perm b d i)) (swept_perm b d i))
swept_perm b (Permᴰ.swap {a = x} {b = y} {l = l} e₁ e₂) =
    two_tests (eqb x.axis b) (eqb y.axis b) (times_swept b l)
    ∙ (λ i. cond (eqb (e₂ i).axis b) (suc (cond (eqb (e₁ i).axis b) (suc (times_swept b l)) (times_swept b l))) (cond (eqb (e₁ i).axis b) (suc (times_swept b l)) (times_swept b l)))
swept_perm b (Permᴰ.trans d₁ d₂) = swept_perm b d₁ ∙ swept_perm b d₂

keep_one : {A : Type 0} (t : Bool) {a b : A} {k k' : List A} → a ≡ b → Permᴰ k k' → Permᴰ (cond t (a ∷ k) k) (cond t (b ∷ k') k')
keep_one true e d = Permᴰ.cons e d
keep_one false e d = d

keep_two : {A : Type 0} (s t : Bool) {a b a' b' : A} (k : List A) → a ≡ b' → b ≡ a'
    → Permᴰ (cond s (a ∷ cond t (b ∷ k) k) (cond t (b ∷ k) k)) (cond t (a' ∷ cond s (b' ∷ k) k) (cond s (b' ∷ k) k))
keep_two true true k e₁ e₂ = Permᴰ.swap e₁ e₂
keep_two true false k e₁ e₂ = Permᴰ.cons e₁ (Permᴰ.refl k)
keep_two false true k e₁ e₂ = Permᴰ.cons e₂ (Permᴰ.refl k)
keep_two false false k e₁ e₂ = Permᴰ.refl k

kept_perm : (cells : List ℤ) {l l' : List Call} → Permᴰ l l' → Permᴰ (kept cells l) (kept cells l')
kept_perm cells Permᴰ.nil = Permᴰ.nil
kept_perm cells (Permᴰ.cons {a = a} {b = b} {l₁ = l₁} {l₂ = l₂} e d) =
    subst (λ (n : ℕ). Permᴰ (cond (eqb (number_of cells a) 0) (a ∷ kept cells l₁) (kept cells l₁)) (cond (eqb n 0) (b ∷ kept cells l₂) (kept cells l₂))) (ap (number_of cells) e)
    (keep_one (eqb (number_of cells a) 0) e (kept_perm cells d))
kept_perm cells (Permᴰ.swap {a = a} {b = b} {a' = a'} {b' = b'} {l = l} e₁ e₂) =
    subst₂ (λ (m n : ℕ). Permᴰ (cond (eqb (number_of cells a) 0) (a ∷ cond (eqb (number_of cells b) 0) (b ∷ kept cells l) (kept cells l))
    (cond (eqb (number_of cells b) 0) (b ∷ kept cells l) (kept cells l)))
    (cond (eqb n 0) (a' ∷ cond (eqb m 0) (b' ∷ kept cells l) (kept cells l)) (cond (eqb m 0) (b' ∷ kept cells l) (kept cells l))))
    (ap (number_of cells) e₁) (ap (number_of cells) e₂) (keep_two (eqb (number_of cells a) 0) (eqb (number_of cells b) 0) (kept cells l) e₁ e₂)
kept_perm cells (Permᴰ.trans d₁ d₂) = Permᴰ.trans (kept_perm cells d₁) (kept_perm cells d₂)

zip-map : {A B : Type 0} (f : A → B) (l : List A) → zip l (map f l) ≡ map (λ x. (x, f x)) l
unfolding zip zip_with
zip-map f [] = refl
zip-map f (x ∷ l) = ap (λ r. (x, f x) ∷ r) (zip-map f l)

-- a point that a list reaches is reached in any other order
reach_perm : (ns : List ℕ) {l l' : List Call} → Permᴰ l l' → (p q : Point) → Reach ns l p q → Reach ns l' p q
reach_perm ns d p q r = record {
  box = every_perm (λ c. InWindow c (p c.axis) (q c.axis)) d r.box;
  fixed = λ b h e. r.fixed b h (swept_perm b d ∙ e);
}

length-fill : (le : ℤ → ℤ → Bool) (cells : List ℤ) (calls : List Call) → length (fill le cells calls) ≡ length cells
length-fill le cells [] = refl
length-fill le cells (c ∷ cs) = length-fill le (answer_of le cells c) cs ∙ length_answer le cells c

on_axes : (ns : List ℕ) (cells : List ℤ) (calls : List Call) → Every (Passed cells) calls → Every (λ c. c.shape ≡ ns) calls → Every (λ c. c.axis < length ns) calls
on_axes ns cells [] P e = tt
on_axes ns cells (c ∷ cs) P e = (on_axis_lem ns cells c P.0 e.0, on_axes ns cells cs P.1 e.1)

-- accepted calls of one grid, at most one to an axis, each with its axis's border
passed_on_grid : (ns : List ℕ) (cells : List ℤ) (calls : List Call) → Every (Passed cells) calls → Every (λ c. c.shape ≡ ns) calls → ((b : ℕ) → b < length ns → times_swept b calls ≤ 1)
    → Every (OnGrid ns (border_on calls)) calls
passed_on_grid ns cells calls P e most = all_on_grid ns (border_on calls) cells calls P e (own_borders (length ns) calls (on_axes ns cells calls P e) most)

module _ (le : ℤ → ℤ → Bool) (O : Total le) where
  -- two orders of such calls leave each cell the same level, and so the same grid
  module _ (ns : List ℕ) (cells : List ℤ) (e : length cells ≡ cell_count ns) {l l' : List Call} (d : Permᴰ l l')
      (P : Every (Passed cells) l) (named : Every (λ c. c.shape ≡ ns) l) (most : (b : ℕ) → b < length ns → times_swept b l ≤ 1) where
    same_level : (p : ℕ → ℕ) → Within ns p → level_at (pos 0) ns (fill le cells l) p ≡ level_at (pos 0) ns (fill le cells l') p
    same_level p W =
        let G = passed_on_grid ns cells l P named most in
        let here : Point = λ b. pos (p b) in
        extremum_same le O (Takes (border_on l) ns cells) (Reach ns l here) (Reach ns l' here)
        (level_at (pos 0) ns (fill le cells l) p) (level_at (pos 0) ns (fill le cells l') p)
        (reach_perm ns d here) (reach_perm ns (Permᴰ.symm d) here)
        (core le O ns (border_on l) l cells e G most p W)
        (core le O ns (border_on l) l' cells e (every_perm (OnGrid ns (border_on l)) d G) (λ c m. subst (λ (n : ℕ). n ≤ 1) (swept_perm c d) (most c m)) p W)

    same_fill : Positive ns → fill le cells l ≡ fill le cells l'
    same_fill full =
        ext_get_or (pos 0) (fill le cells l) (fill le cells l') (length-fill le cells l ∙ sym (length-fill le cells l'))
        (λ k h.
        let b : k < cell_count ns = omega (arith, length-fill le cells l) in
        subst (λ (j : ℕ). get_or (fill le cells l) j (pos 0) ≡ get_or (fill le cells l') j (pos 0)) (place_coordinate ns k full b)
        (same_level (coordinate ns k) (coordinate_within ns k full b)))

  -- what the statement supposes, of the calls that would be accepted first
  module _ (ns : List ℕ) (cells : List ℤ) (calls : List Call) (S : Sweeps le ns cells calls) where
    abbrev all : List Call
    all = kept cells calls

    grid : PassedGrid bad_level ns cells []
    unfolding grid_number
    grid = (grid_passed bad_level ns cells [] [] tt S.grid).0

    count : length cells ≡ cell_count ns
    count = grid.count

    full : Positive ns
    full = (shape-accepted ns grid.shape).full

    named : Every (λ c. c.shape ≡ ns) all
    named = subst (Every (λ c. c.shape ≡ ns)) (accepted-kept le cells calls) S.named

    once : (b : ℕ) → b < length ns → times_swept b all ≡ 1
    once b h = ap (times_swept b) (sym (accepted-kept le cells calls)) ∙ S.once b h

    most : (b : ℕ) → b < length ns → times_swept b all ≤ 1
    most b h = omega (arith, once b h)

    -- each cell is the least of what the accepted calls reach
    reached : (k : ℕ) → k < cell_count ns
        → Extremum le (extended_grid_by (pos 0) (border_on all) ns cells) (Reach ns all (cell_at ns k)) (level_at (pos 0) ns (fill le cells all) (coordinate ns k))
    reached k l =
        let W = coordinate_within ns k full l in
        let G = passed_on_grid ns cells all (kept_passed cells calls) named most in
        lowest le O ns (border_on all) all cells G (coordinate ns k) W (level_at (pos 0) ns (fill le cells all) (coordinate ns k))
        (core le O ns (border_on all) all cells count G most (coordinate ns k) W)

    -- and these are the points of its box, since each axis is swept
    box : (k : ℕ) → k < length cells
        → Extremum le (extended_grid_by (pos 0) (border_on (accepted le cells calls)) ns cells) (InBox (accepted le cells calls) (cell_at ns k)) (get_or (run le cells calls) k (pos 0))
    box k l =
        let b : k < cell_count ns = omega (arith, count) in
        let r = reached k b in
        let v_is : level_at (pos 0) ns (fill le cells all) (coordinate ns k) ≡ get_or (run le cells calls) k (pos 0) =
        (λ j. get_or (sym (run-fill le cells calls) j) (place_coordinate ns k full b j) (pos 0)) in
        subst₂ (λ (cs : List Call) (v : ℤ). Extremum le (extended_grid_by (pos 0) (border_on cs) ns cells) (InBox cs (cell_at ns k)) v) (sym (accepted-kept le cells calls)) v_is
        (record {
          bound = λ q h. r.bound q (record { box = h; fixed = λ x m z. absurd (no_one (sym (once x m) ∙ z)) });
          occurs = (r.occurs.0, r.occurs.1.box, r.occurs.2);
        })

    one-box : (border : Border ℤ) → Every (λ c. c.border ≡ border) (accepted le cells calls) → (k : ℕ) → k < length cells
        → Extremum le (extended_grid (pos 0) border ns cells) (InBox (accepted le cells calls) (cell_at ns k)) (get_or (run le cells calls) k (pos 0))
    one-box border h k l =
        subst (λ (level : Point → ℤ). Extremum le level (InBox (accepted le cells calls) (cell_at ns k)) (get_or (run le cells calls) k (pos 0)))
        (fun_ext (λ q. grid_ext (border_on (accepted le cells calls)) (λ _. border) ns cells q (λ a m. border_shared border (accepted le cells calls) h a (omega (arith, S.once a m)))))
        (box k l)

    same_grid : {calls' : List Call} → Permᴰ calls calls' → run le cells calls ≡ run le cells calls'
    same_grid {calls'} d =
        run-fill le cells calls ∙ same_fill ns cells count (kept_perm cells d) (kept_passed cells calls) named most full ∙ sym (run-fill le cells calls')

  pub order_for : OrderFor le
  order_for = record {
    same_numbers = same_numbers le;
    same_length = same_length le;
    box = box;
    one_border = λ ns border cells calls S. one-box ns cells calls S border;
    same_grid = λ ns cells l l' d S. ∥∥₁_elim d (is_set ℤ_set (run le cells l) (run le cells l')) (λ x. same_grid ns cells l S x);
    each_number = λ cells l l' d.
        subst₂ Perm
        (sym (ap (zip l) (same_numbers le cells l) ∙ zip-map (number_of cells) l)) (sym (ap (zip l') (same_numbers le cells l') ∙ zip-map (number_of cells) l'))
        (Perm.map (λ c. (c, number_of cells c)) d);
  }
