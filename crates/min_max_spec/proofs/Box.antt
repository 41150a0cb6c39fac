-- After a list of accepted calls, at most one to an axis, each cell is the least of the levels that the points of what the windows reach can take.
-- The extension of the half-swept grid is not a sweep of the extension, point by point: one cell 0 under constant 0 and constant 4, swept along axis 0, reads 4 beside it on axis 1,
-- where the least over the window of axis 0 is the corner's 0. So `Takes` lets a corner have the constant of every axis that it leaves; `core` is about these levels, and `lowest` chooses at the end.
-- Assumes nothing.
use mathlib.Core.Path.{◌≡◌, refl, sym, ap, subst, subst₂, ◌∙◌, fun_ext}
use mathlib.Core.Bool.{Bool, true, false, cond}
use mathlib.Core.Logic.{◌⊎◌, inl, inr}
use mathlib.Core.List.{List, [], ◌∷◌}
use Prim.Native.Nat.{ℕ, suc, ◌≤◌, ◌<◌}
use native.Mathlib.Omega.{arith}
use borrow.Author.Tests.{eqb-true, ne_eqb}
use lib.Dec.{T, eqb}
use lib.IntN.{ℤ, pos}
use lib.ListN.{length, get_or}
use Rattle.numbers.specs.Lists.{Every}
use Rattle.numbers.specs.Order.{Total}
use Rattle.array_spec.specs.Grid.{cell_count, length_of, place_of, moved, level_at}
use Rattle.array_spec.proofs.Places.{Within, place_ext}
use Rattle.border.specs.Border.{Border, cell_under, extended_grid_by}
use Rattle.min_max_spec.specs.Call.{Call, InWindow}
use Rattle.min_max_spec.specs.Run.{answer_of}
use Rattle.min_max_spec.specs.Order.{Point, times_swept, InBox, Extremum}
use Rattle.min_max_spec.proofs.Passed.{length_answer, fill}
use Rattle.min_max_spec.proofs.Windows.{Lands, lands_inside}
use Rattle.min_max_spec.proofs.Sweep.{moved_same, moved_other, lane, answer_bound, answer_occurs}
use Rattle.min_max_spec.proofs.Levels.{Reads, Leaves, reads_lt, lane_reads, lane_leaves, either, reads_inside, under_inside, not_both}
use Rattle.min_max_spec.proofs.Levels.{AllRead, cells_under, Takes, outside_on, at-cell, grid_reads, grid_one, grid_takes}
use Rattle.min_max_spec.proofs.Calls.{OnGrid, swept_here, swept_other, swept_rest, eqb_flip, swept_none, Reach, box-moved}

-- v is the least of the levels that the points of a part can take
pub record ExtremumOf (le : ℤ → ℤ → Bool) (Level : Point → ℤ → Type 0) (Part : Point → Type 0) (v : ℤ) : Type 0 where
  pub bound : (q : Point) (u : ℤ) → Part q → Level q u → T (le v u)
  pub occurs : (q : Point) × Part q × Level q v

pub extremum_same : (le : ℤ → ℤ → Bool) → Total le → (Level : Point → ℤ → Type 0) (Part Part' : Point → Type 0) (v v' : ℤ) → ((q : Point) → Part q → Part' q) → ((q : Point) → Part' q → Part q)
    → ExtremumOf le Level Part v → ExtremumOf le Level Part' v' → v ≡ v'
extremum_same le O Level Part Part' v v' f g L L' =
    let o = L.occurs in
    let o' = L'.occurs in
    O.same v v' (L.bound o'.0 v' (g o'.0 o'.1) o'.2) (L'.bound o.0 v (f o.0 o.1) o.2)

module _ (ns : List ℕ) (bs : ℕ → Border ℤ) (p : ℕ → ℕ) (W : Within ns p) where
  abbrev self : Point
  self b = pos (p b)

  self_reads : AllRead bs ns self
  self_reads b l = reads_inside (bs b) (length_of ns b) (p b) (W b l)

  -- every window holds its own cell: the cell itself, and the cell moved along one axis of a point of the box
  self-box : (calls : List Call) → Every (OnGrid ns bs) calls → InBox calls self self
  self-box [] G = tt
  self-box (c ∷ cs) G = (G.0.holds (self c.axis), self-box cs G.1)

  moved-box : (calls : List Call) → Every (OnGrid ns bs) calls → (q : Point) (b : ℕ) → InBox calls self q → InBox calls self (moved b (q b) self)
  moved-box [] G q b h = tt
  moved-box (c ∷ cs) G q b h = (go (eqb c.axis b) refl, moved-box cs G.1 q b h.1)
    where
      go : (t : Bool) → eqb c.axis b ≡ t → InWindow c (self c.axis) (cond t (q b) (self c.axis))
      go true t = subst (λ x. InWindow c (self c.axis) (q x)) (eqb-true c.axis b t) h.0
      go false t = G.0.holds (self c.axis)

  found : (calls : List Call) → Every (OnGrid ns bs) calls → (q : Point) → InBox calls self q → (b : ℕ) → (times_swept b calls ≡ 0) ⊎ Lands (bs b) (length_of ns b) (q b)
  found [] G q h b = inl refl
  found (c ∷ cs) G q h b = go (eqb c.axis b) refl (found cs G.1 q h.1 b)
    where
      go : (t : Bool) → eqb c.axis b ≡ t → (times_swept b cs ≡ 0) ⊎ Lands (bs b) (length_of ns b) (q b)
          → (cond t (suc (times_swept b cs)) (times_swept b cs) ≡ 0) ⊎ Lands (bs b) (length_of ns b) (q b)
      go true t r = inr (subst (λ x. Lands (bs x) (length_of ns x) (q x)) (eqb-true c.axis b t) (G.0.reads (p c.axis) (W c.axis G.0.on) (q c.axis) h.0))
      go false t r = r

  reach_lands : (calls : List Call) → Every (OnGrid ns bs) calls → (q : Point) → Reach ns calls self q → (b : ℕ) → b < length ns → Lands (bs b) (length_of ns b) (q b)
  reach_lands calls G q r b l = go (found calls G q r.box b)
    where
      go : (times_swept b calls ≡ 0) ⊎ Lands (bs b) (length_of ns b) (q b) → Lands (bs b) (length_of ns b) (q b)
      go (inl e) = subst (Lands (bs b) (length_of ns b)) (sym (r.fixed b l e)) (lands_inside (bs b) (length_of ns b) (p b) (W b l))
      go (inr h) = h

module _ (le : ℤ → ℤ → Bool) (O : Total le) (ns : List ℕ) (bs : ℕ → Border ℤ) where
  module _ (c : Call) (cs : List Call) (cells : List ℤ) (e : length cells ≡ cell_count ns) (G : OnGrid ns bs c) (Gs : Every (OnGrid ns bs) cs)
      (most : times_swept c.axis (c ∷ cs) ≤ 1) (p : ℕ → ℕ) (W : Within ns p) where
    none : times_swept c.axis cs ≡ 0
    none = omega (arith, swept_here c cs)

    abbrev here : Point
    here b = pos (p b)

    abbrev n : ℕ
    n = length_of ns c.axis

    -- a point whose coordinates all read a cell, the cell's own on the call's axis
    module _ (y : Point) (h : AllRead bs ns y) (at : y c.axis ≡ here c.axis) where
      abbrev κ : ℕ → ℕ
      κ = cells_under bs ns y

      within : Within ns κ
      within b l = reads_lt (bs b) (length_of ns b) (y b) (h b l)

      at-axis : κ c.axis ≡ p c.axis
      at-axis = ap (cell_under (bs c.axis) n) at ∙ under_inside (bs c.axis) n (p c.axis) (W c.axis G.on)

      abbrev through : ℤ → ℤ
      through = lane le O ns c G.named G.on G.some cells e κ within

      moved-cells : (z : ℤ) → place_of ns (moved c.axis (cell_under (bs c.axis) n z) κ) ≡ place_of ns (cells_under bs ns (moved c.axis z y))
      moved-cells z = place_ext ns _ _ (λ b l. go b (eqb b c.axis) refl)
        where
          go : (b : ℕ) (t : Bool) → eqb b c.axis ≡ t → cond t (cell_under (bs c.axis) n z) (κ b) ≡ cell_under (bs b) (length_of ns b) (cond t z (y b))
          go b true t = ap (λ x. cell_under (bs x) (length_of ns x) z) (sym (eqb-true b c.axis t))
          go b false t = refl

      through_reads : (z : ℤ) → Reads (bs c.axis) n z → through z ≡ level_at (pos 0) ns cells (cells_under bs ns (moved c.axis z y))
      through_reads z r =
          lane_reads c.border n (λ i. level_at (pos 0) ns cells (moved c.axis i κ)) z (subst (λ b. Reads b n z) (sym G.own) r)
          ∙ ap (λ b. level_at (pos 0) ns cells (moved c.axis (cell_under b n z) κ)) G.own
          ∙ ap (λ x. get_or cells x (pos 0)) (moved-cells z)

      through_leaves : (z u : ℤ) → Leaves (bs c.axis) n z u → through z ≡ u
      through_leaves z u o = lane_leaves c.border n (λ i. level_at (pos 0) ns cells (moved c.axis i κ)) z u (subst (λ b. Leaves b n z u) (sym G.own) o)

      -- the swept level comes before every level that the point takes when it is moved in the window
      level_bound : (z u : ℤ) → InWindow c (here c.axis) z → Takes bs ns cells (moved c.axis z y) u → T (le (level_at (pos 0) ns (answer_of le cells c) κ) u)
      level_bound z u w t =
          subst (λ x. T (le (level_at (pos 0) ns (answer_of le cells c) κ) x)) (same t)
          (answer_bound le O ns c G.named G.on G.some cells e κ within z (subst (λ x. InWindow c (pos x) z) (sym at-axis) w))
        where
          same_on : (b : ℕ) → b < length ns → (t : Bool) → eqb b c.axis ≡ t → Leaves (bs b) (length_of ns b) (cond t z (y b)) u → through z ≡ u
          same_on b l true t o = through_leaves z u (subst (λ x. Leaves (bs x) (length_of ns x) z u) (eqb-true b c.axis t) o)
          same_on b l false t o = absurd (not_both (bs b) (length_of ns b) (y b) u (h b l) o)

          same : Takes bs ns cells (moved c.axis z y) u → through z ≡ u
          same (outside_on b l o) = same_on b l (eqb b c.axis) refl o
          same (at-cell r f) = through_reads z (subst (Reads (bs c.axis) n) (moved_same c.axis z y) (r c.axis G.on)) ∙ sym f

      -- and it is one of them
      level_occurs : (z : ℤ) × InWindow c (here c.axis) z × Takes bs ns cells (moved c.axis z y) (level_at (pos 0) ns (answer_of le cells c) κ)
      level_occurs =
          let s = answer_occurs le O ns c G.named G.on G.some cells e κ within in
          let w = subst (λ x. InWindow c (pos x) s.0) at-axis s.1 in
          (s.0, w, go s.0 s.2 (either (bs c.axis) n s.0 (G.reads (p c.axis) (W c.axis G.on) s.0 w)))
        where
          all : (z : ℤ) → Reads (bs c.axis) n z → (b : ℕ) → b < length ns → (t : Bool) → eqb b c.axis ≡ t → Reads (bs b) (length_of ns b) (cond t z (y b))
          all z r b l true t = subst (λ x. Reads (bs x) (length_of ns x) z) (sym (eqb-true b c.axis t)) r
          all z r b l false t = h b l

          go : (z : ℤ) → level_at (pos 0) ns (answer_of le cells c) κ ≡ through z → Reads (bs c.axis) n z ⊎ ((u : ℤ) × Leaves (bs c.axis) n z u)
              → Takes bs ns cells (moved c.axis z y) (level_at (pos 0) ns (answer_of le cells c) κ)
          go z f (inl r) = at-cell (λ b l. all z r b l (eqb b c.axis) refl) (f ∙ through_reads z r)
          go z f (inr o) =
              outside_on c.axis G.on
              (subst₂ (Leaves (bs c.axis) n) (sym (moved_same c.axis z y)) (sym (f ∙ through_leaves z o.0 o.1)) o.1)

    -- the cell itself is reached
    stays : Reach ns cs here here
    stays = record { box = self-box ns bs p W cs Gs; fixed = λ b l h. refl }

    -- a point that the whole list reaches, drawn back onto the cell's own coordinate
    back : (q : Point) → Reach ns (c ∷ cs) here q → Reach ns cs here (moved c.axis (here c.axis) q)
    back q r = record {
      box = box-moved cs c.axis (here c.axis) here q none r.box.1;
      fixed = λ b l h. go b l h (eqb b c.axis) refl;
    }
      where
        go : (b : ℕ) → b < length ns → times_swept b cs ≡ 0 → (t : Bool) → eqb b c.axis ≡ t → cond t (here c.axis) (q b) ≡ here b
        go b l h true t = ap here (sym (eqb-true b c.axis t))
        go b l h false t = r.fixed b l (swept_other c cs b (eqb_flip c.axis b t) ∙ h)

    -- a point that the rest reaches, moved within the window or left where it is
    forth : (q : Point) (z : ℤ) → Reach ns cs here q → InWindow c (here c.axis) z → Reach ns (c ∷ cs) here (moved c.axis z q)
    forth q z r w = record {
      box = (subst (InWindow c (here c.axis)) (sym (moved_same c.axis z q)) w, box-moved cs c.axis z here q none r.box);
      fixed = λ b l h. let s = swept_none c cs b h in moved_other c.axis b z q (eqb_flip b c.axis s.0) ∙ r.fixed b l s.1;
    }

    kept_there : (q : Point) → Reach ns cs here q → Reach ns (c ∷ cs) here q
    kept_there q r = record {
      box = (subst (InWindow c (here c.axis)) (sym (r.fixed c.axis G.on none)) (G.holds (here c.axis)), r.box);
      fixed = λ b l h. r.fixed b l (swept_none c cs b h).1;
    }

    restored : (q : Point) (z : ℤ) → moved c.axis (q c.axis) (moved c.axis z q) ≡ q
    restored q z = fun_ext (λ b. go b (eqb b c.axis) refl)
      where
        go : (b : ℕ) (t : Bool) → eqb b c.axis ≡ t → cond t (q c.axis) (cond t z (q b)) ≡ q b
        go b true t = ap q (sym (eqb-true b c.axis t))
        go b false t = refl

    one_more_lem : (v : ℤ) → ExtremumOf le (Takes bs ns (answer_of le cells c)) (Reach ns cs here) v → ExtremumOf le (Takes bs ns cells) (Reach ns (c ∷ cs) here) v
    one_more_lem v L = record { bound = low; occurs = there L.occurs.0 L.occurs.1 L.occurs.2 }
      where
        -- by way of a point of the rest whose coordinates all read, moved to z
        by_way : (y : Point) (h : AllRead bs ns y) (at : y c.axis ≡ here c.axis) → Reach ns cs here y → (z u : ℤ) → InWindow c (here c.axis) z → Takes bs ns cells (moved c.axis z y) u
            → T (le v u)
        by_way y h at s z u w t =
            O.chain v (level_at (pos 0) ns (answer_of le cells c) (cells_under bs ns y)) u
            (L.bound y (level_at (pos 0) ns (answer_of le cells c) (cells_under bs ns y)) s (at-cell h refl)) (level_bound y h at z u w t)

        low_on : (q : Point) (u : ℤ) → Reach ns (c ∷ cs) here q → (b : ℕ) → b < length ns → Leaves (bs b) (length_of ns b) (q b) u → (t : Bool) → eqb b c.axis ≡ t → T (le v u)
        low_on q u r b l o true t =
            by_way here (self_reads ns bs p W) refl stays (q c.axis) u r.box.0
            (outside_on c.axis G.on
            (subst (λ x. Leaves (bs c.axis) n x u) (sym (moved_same c.axis (q c.axis) here)) (subst (λ x. Leaves (bs x) (length_of ns x) (q x) u) (eqb-true b c.axis t) o)))
        low_on q u r b l o false t =
            L.bound (moved c.axis (here c.axis) q) u (back q r)
            (outside_on b l (subst (λ x. Leaves (bs b) (length_of ns b) x u) (sym (moved_other c.axis b (here c.axis) q t)) o))

        drawn : (q : Point) → AllRead bs ns q → (b : ℕ) → b < length ns → (t : Bool) → eqb b c.axis ≡ t → Reads (bs b) (length_of ns b) (cond t (here c.axis) (q b))
        drawn q h b l true t = subst (λ x. Reads (bs b) (length_of ns b) (here x)) (eqb-true b c.axis t) (self_reads ns bs p W b l)
        drawn q h b l false t = h b l

        low : (q : Point) (u : ℤ) → Reach ns (c ∷ cs) here q → Takes bs ns cells q u → T (le v u)
        low q u r (outside_on b l o) = low_on q u r b l o (eqb b c.axis) refl
        low q u r (at-cell h f) =
            by_way (moved c.axis (here c.axis) q) (λ b l. drawn q h b l (eqb b c.axis) refl) (moved_same c.axis (here c.axis) q) (back q r) (q c.axis) u r.box.0
            (subst (λ x. Takes bs ns cells x u) (sym (restored q (here c.axis))) (at-cell h f))

        there : (q : Point) → Reach ns cs here q → Takes bs ns (answer_of le cells c) q v → (x : Point) × Reach ns (c ∷ cs) here x × Takes bs ns cells x v
        there q r (outside_on b l o) = (q, kept_there q r, outside_on b l o)
        there q r (at-cell h f) =
            let s = level_occurs q h (r.fixed c.axis G.on none) in
            (moved c.axis s.0 q, forth q s.0 r s.1, subst (Takes bs ns cells (moved c.axis s.0 q)) (sym f) s.2)

  -- the core: every list of calls, at most one to an axis
  pub core : (calls : List Call) (cells : List ℤ) → length cells ≡ cell_count ns → Every (OnGrid ns bs) calls → ((b : ℕ) → b < length ns → times_swept b calls ≤ 1) → (p : ℕ → ℕ) → Within ns p
      → ExtremumOf le (Takes bs ns cells) (Reach ns calls (λ b. pos (p b))) (level_at (pos 0) ns (fill le cells calls) p)
  core [] cells e G most p W = record {
    bound = low;
    occurs = ((λ b. pos (p b)), record { box = tt; fixed = λ b l h. refl }, at-cell (self_reads ns bs p W) (sym (level_is (λ b. pos (p b)) (λ b l. refl))));
  }
    where
      level_is : (q : Point) → ((b : ℕ) → b < length ns → q b ≡ pos (p b)) → level_at (pos 0) ns cells (cells_under bs ns q) ≡ level_at (pos 0) ns cells p
      level_is q h = ap (λ x. get_or cells x (pos 0)) (place_ext ns (cells_under bs ns q) p (λ b l. ap (cell_under (bs b) (length_of ns b)) (h b l) ∙ under_inside (bs b) (length_of ns b) (p b) (W b l)))

      low : (q : Point) (u : ℤ) → Reach ns [] (λ b. pos (p b)) q → Takes bs ns cells q u → T (le (level_at (pos 0) ns cells p) u)
      low q u r (outside_on b l o) = absurd (not_both (bs b) (length_of ns b) (pos (p b)) u (self_reads ns bs p W b l) (subst (λ x. Leaves (bs b) (length_of ns b) x u) (r.fixed b l refl) o))
      low q u r (at-cell h f) = subst (λ x. T (le (level_at (pos 0) ns cells p) x)) (sym (f ∙ level_is q (λ b l. r.fixed b l refl))) (O.itself (level_at (pos 0) ns cells p))
  core (c ∷ cs) cells e G most p W =
      one_more_lem c cs cells e G.0 G.1 (most c.axis G.0.on) p W (level_at (pos 0) ns (fill le (answer_of le cells c) cs) p)
      (core cs (answer_of le cells c) (length_answer le cells c ∙ e) G.1 (λ b l. swept_rest c cs b (most b l)) p W)

  -- from the levels that points can take to those of the extended grid: a constant occurs at a point that is outside along its axis alone
  pub lowest : (calls : List Call) (cells : List ℤ) → Every (OnGrid ns bs) calls → (p : ℕ → ℕ) → Within ns p → (v : ℤ)
      → ExtremumOf le (Takes bs ns cells) (Reach ns calls (λ b. pos (p b))) v → Extremum le (extended_grid_by (pos 0) bs ns cells) (Reach ns calls (λ b. pos (p b))) v
  lowest calls cells G p W v L = record {
    bound = λ q r. L.bound q (extended_grid_by (pos 0) bs ns cells q) r (grid_takes bs ns cells q (reach_lands ns bs p W calls G q r));
    occurs = there L.occurs.0 L.occurs.1 L.occurs.2;
  }
    where
      here : Point
      here b = pos (p b)

      along_one : (q : Point) (b : ℕ) → Reach ns calls here q → Reach ns calls here (moved b (q b) here)
      along_one q b r = record { box = moved-box ns bs p W calls G q b r.box; fixed = λ x l h. go x l h (eqb x b) refl }
        where
          go : (x : ℕ) → x < length ns → times_swept x calls ≡ 0 → (t : Bool) → eqb x b ≡ t → cond t (q b) (here x) ≡ here x
          go x l h true t = ap q (sym (eqb-true x b t)) ∙ r.fixed x l h
          go x l h false t = refl

      there : (q : Point) → Reach ns calls here q → Takes bs ns cells q v → (x : Point) × Reach ns calls here x × (v ≡ extended_grid_by (pos 0) bs ns cells x)
      there q r (at-cell h f) = (q, r, f ∙ sym (grid_reads bs ns cells q h))
      there q r (outside_on b l o) = (
        moved b (q b) here,
        along_one q b r,
        sym (grid_one bs ns cells (moved b (q b) here) v b l (subst (λ x. Leaves (bs b) (length_of ns b) x v) (sym (moved_same b (q b) here)) o)
            (λ x m f. subst (Reads (bs x) (length_of ns x)) (sym (moved_other b x (q b) here (ne_eqb x b f))) (self_reads ns bs p W x m))),
      )
