-- Accepted calls of one grid, at most one to an axis: what each of them has, how often an axis is swept, each call's border, and the points that the windows reach.
-- Assumes nothing.
use mathlib.Core.Path.{◌≡◌, refl, sym, ap, subst, subst₂, ◌∙◌}
use mathlib.Core.Bool.{Bool, true, false, cond}
use mathlib.Core.List.{List, [], ◌∷◌}
use Prim.Native.Nat.{ℕ, suc, ◌≤◌, ◌<◌}
use native.Mathlib.Omega.{arith}
use borrow.Author.Tests.{ltb-true, ltb-false, eqb-false, eq-eqb, ne_eqb, not-false}
use lib.Dec.{ltb, eqb}
use lib.IntN.{ℤ, pos}
use lib.ListN.{length}
use Rattle.numbers.specs.Lists.{Every}
use Rattle.numbers.proofs.Tests.{or_false}
use Rattle.array_spec.specs.Grid.{length_of, moved}
use Rattle.border.specs.Border.{Border}
use Rattle.min_max_spec.specs.Call.{Call, InWindow}
use Rattle.min_max_spec.specs.Order.{Point, times_swept, border_on, InBox}
use Rattle.min_max_spec.proofs.Passed.{Passed}
use Rattle.min_max_spec.proofs.Windows.{Lands, lands, own_cell}
use Rattle.min_max_spec.proofs.Sweep.{moved_other}

-- what the induction needs of an accepted call; bs is a border for each axis
pub record OnGrid (ns : List ℕ) (bs : ℕ → Border ℤ) (c : Call) : Type 0 where
  pub named : c.shape ≡ ns
  pub own : c.border ≡ bs c.axis
  pub on : c.axis < length ns
  pub some : 0 < c.size
  pub reads : (i : ℕ) → i < length_of ns c.axis → (z : ℤ) → InWindow c (pos i) z → Lands (bs c.axis) (length_of ns c.axis) z
  pub holds : (i : ℤ) → InWindow c i i

pub on_axis_lem : (ns : List ℕ) (cells : List ℤ) (c : Call) → Passed cells c → c.shape ≡ ns → c.axis < length ns
on_axis_lem ns cells c P e = subst (λ s. c.axis < length s) e (ltb-true c.axis (length c.shape) (not-false (ltb c.axis (length c.shape)) P.axis))

pub on_grid : (ns : List ℕ) (bs : ℕ → Border ℤ) (cells : List ℤ) (c : Call) → Passed cells c → c.shape ≡ ns → c.border ≡ bs c.axis → OnGrid ns bs c
on_grid ns bs cells c P e f = record {
  named = e;
  own = f;
  on = on_axis_lem ns cells c P e;
  some = omega (arith, ltb-false c.size 1 (or_false (ltb c.size 1) (ltb 65 c.size) P.size).0);
  reads = subst₂ (λ s b. (i : ℕ) → i < length_of s c.axis → (z : ℤ) → InWindow c (pos i) z → Lands b (length_of s c.axis) z) e f (lands cells c P);
  holds = own_cell cells c P;
}

pub all_on_grid : (ns : List ℕ) (bs : ℕ → Border ℤ) (cells : List ℤ) (calls : List Call) → Every (Passed cells) calls → Every (λ c. c.shape ≡ ns) calls → Every (λ c. c.border ≡ bs c.axis) calls
    → Every (OnGrid ns bs) calls
all_on_grid ns bs cells [] P e f = tt
all_on_grid ns bs cells (c ∷ cs) P e f = (on_grid ns bs cells c P.0 e.0 f.0, all_on_grid ns bs cells cs P.1 e.1 f.1)

-- ---- how often an axis is swept
pub swept_here : (c : Call) (cs : List Call) → times_swept c.axis (c ∷ cs) ≡ suc (times_swept c.axis cs)
swept_here c cs = ap (λ t. cond t (suc (times_swept c.axis cs)) (times_swept c.axis cs)) (eq-eqb c.axis c.axis refl)

pub swept_other : (c : Call) (cs : List Call) (b : ℕ) → eqb c.axis b ≡ false → times_swept b (c ∷ cs) ≡ times_swept b cs
swept_other c cs b e = ap (λ t. cond t (suc (times_swept b cs)) (times_swept b cs)) e

pub swept_rest : (c : Call) (cs : List Call) (b : ℕ) → times_swept b (c ∷ cs) ≤ 1 → times_swept b cs ≤ 1
swept_rest c cs b h = go (eqb c.axis b) h
  where
    go : (t : Bool) → cond t (suc (times_swept b cs)) (times_swept b cs) ≤ 1 → times_swept b cs ≤ 1
    go true l = omega arith
    go false l = l

pub eqb_flip : (a b : ℕ) → eqb b a ≡ false → eqb a b ≡ false
eqb_flip a b e = ne_eqb a b (λ q. eqb-false b a e (sym q))

pub no_one : {n : ℕ} → suc n ≡ 0 → ⊥
no_one e = omega arith

pub swept_none : (c : Call) (cs : List Call) (b : ℕ) → times_swept b (c ∷ cs) ≡ 0 → (eqb c.axis b ≡ false) × (times_swept b cs ≡ 0)
swept_none c cs b h = go (eqb c.axis b) refl h
  where
    go : (t : Bool) → eqb c.axis b ≡ t → cond t (suc (times_swept b cs)) (times_swept b cs) ≡ 0 → (eqb c.axis b ≡ false) × (times_swept b cs ≡ 0)
    go true t l = absurd (no_one l)
    go false t l = (t, l)

-- ---- each call's border is that of its axis
own_later : (c : Call) (cs ds : List Call) → times_swept c.axis ds ≡ 0 → Every (λ d. d.border ≡ border_on cs d.axis) ds → Every (λ d. d.border ≡ border_on (c ∷ cs) d.axis) ds
own_later c cs [] e h = tt
own_later c cs (d ∷ ds) e h =
    let s = swept_none d ds c.axis e in
    (h.0 ∙ sym (ap (λ t. cond t c.border (border_on cs d.axis)) (eqb_flip c.axis d.axis s.0)), own_later c cs ds s.1 h.1)

pub own_borders : (n : ℕ) (calls : List Call) → Every (λ c. c.axis < n) calls → ((b : ℕ) → b < n → times_swept b calls ≤ 1) → Every (λ c. c.border ≡ border_on calls c.axis) calls
own_borders n [] on most = tt
own_borders n (c ∷ cs) on most =
    let e : times_swept c.axis cs ≡ 0 = omega (arith, swept_here c cs, most c.axis on.0) in
    (sym (ap (λ t. cond t c.border (border_on cs c.axis)) (eq-eqb c.axis c.axis refl)), own_later c cs cs e (own_borders n cs on.1 (λ b l. swept_rest c cs b (most b l))))

pub border_shared : (border : Border ℤ) (calls : List Call) → Every (λ c. c.border ≡ border) calls → (a : ℕ) → 0 < times_swept a calls → border_on calls a ≡ border
border_shared border [] h a l = absurd (no l)
  where
    no : 0 < 0 → ⊥
    no l = omega arith
border_shared border (c ∷ cs) h a l = go (eqb c.axis a) l (border_shared border cs h.1 a)
  where
    go : (t : Bool) → 0 < cond t (suc (times_swept a cs)) (times_swept a cs) → (0 < times_swept a cs → border_on cs a ≡ border) → cond t c.border (border_on cs a) ≡ border
    go true l ih = h.0
    go false l ih = ih l

-- ---- the coordinates that the windows of these calls reach, on their axes; on every other axis the cell's own
pub record Reach (ns : List ℕ) (calls : List Call) (p q : Point) : Type 0 where
  pub box : InBox calls p q
  pub fixed : (b : ℕ) → b < length ns → times_swept b calls ≡ 0 → q b ≡ p b

pub box-moved : (cs : List Call) (a : ℕ) (z : ℤ) (p q : Point) → times_swept a cs ≡ 0 → InBox cs p q → InBox cs p (moved a z q)
box-moved [] a z p q e h = tt
box-moved (c ∷ cs) a z p q e h =
    let s = swept_none c cs a e in
    (subst (InWindow c (p c.axis)) (sym (moved_other a c.axis z q s.0)) h.0, box-moved cs a z p q s.1 h.1)
