-- What the machine has left of an accepted text and one line feed more: its lengths and its levels at the front of what was lent.
-- Assumes nothing.
use Prim.Native.Nat.{ℕ, ◌≤◌}
use native.Mathlib.Omega.{arith}
use mathlib.Core.Path.{◌≡◌, sym, ap, ◌∙◌}
use mathlib.Core.Bool.{false, ◌||◌}
use mathlib.Core.List.{List, [], ◌∷◌, ◌++◌}
use borrow.Author.Tests.{le-ltb, ltb-false}
use lib.Dec.{ltb}
use lib.IntN.{ℤ}
use lib.ListN.{length, take, drop, length-append}
use lib.Seq.{take_at, length-take-le}
use Rattle.numbers.specs.Limits.{most_cells}
use Rattle.numbers.specs.Refusal.{refusal_of}
use Rattle.numbers.proofs.Tests.{or_false, or_no}
use Rattle.array_spec.specs.Grid.{cell_count}
use Rattle.grid_text_spec.specs.declared.TextShape.{TextShape}
use Rattle.grid_text_spec.specs.declared.TextState.{TextState}
use Rattle.grid_text_spec.specs.Words.{text_words, axis_count, text_lengths, text_levels, words_judged, text_judged}
use Rattle.grid_text_spec.specs.Machine.{Machine, machine, start_state, fed, finish_of}
use Rattle.grid_text_spec.proofs.Lexed.{text_number, words_closed}
use Rattle.grid_text_spec.proofs.Grids.{text_grid, lengths_count, levels_count, no_more}
use Rattle.grid_text_spec.proofs.Shaped.{cells_whole}

-- where no lent length is too short
pub room_is : (axes cells ls vs os es : ℕ) → ltb ls axes || (ltb vs cells || (ltb os cells || ltb es cells)) ≡ false → (axes ≤ ls) × (cells ≤ vs) × (cells ≤ os) × (cells ≤ es)
room_is axes cells ls vs os es e =
    let a = or_false (ltb ls axes) (ltb vs cells || (ltb os cells || ltb es cells)) e in
    let b = or_false (ltb vs cells) (ltb os cells || ltb es cells) a.1 in
    let d = or_false (ltb os cells) (ltb es cells) b.1 in
    (ltb-false ls axes a.0, ltb-false vs cells b.0, ltb-false os cells d.0, ltb-false es cells d.1)

module _ (t l : List ℕ) (v : List ℤ) (s : TextState) (l' : List ℕ) (v' : List ℤ) (e : machine s l' v' ≡ fed (machine start_state l v) (t ++ 10 ∷ [])) where
  pub number-fed : finish_of s ≡ refusal_of (text_judged t)
  number-fed = ap (λ (m : Machine). finish_of m.state) e ∙ text_number l v (t ++ 10 ∷ []) ∙ ap (λ ws. refusal_of (words_judged ws)) (words_closed t)

  module _ (a : 3 ≤ length l) (b : most_cells ≤ length v) (z : refusal_of (text_judged t) ≡ 0) where
    axes_fed : s.shape.axes ≡ axis_count (text_words t)
    axes_fed = ap (λ (m : Machine). m.state.shape.axes) e ∙ ap (λ (x : TextShape). x.axes) (text_grid l v t a b z).2

    pub cells-fed : s.shape.cells ≡ cell_count (text_lengths (text_words t))
    cells-fed = ap (λ (m : Machine). m.state.shape.cells) e ∙ ap (λ (x : TextShape). x.cells) (text_grid l v t a b z).2 ∙ cells_whole (text_words t) z

    lengths_held : l' ≡ text_lengths (text_words t) ++ drop (axis_count (text_words t)) l
    lengths_held = ap (λ (m : Machine). m.lengths) e ∙ (text_grid l v t a b z).0

    levels_held_lem : v' ≡ text_levels (text_words t) ++ drop (cell_count (text_lengths (text_words t))) v
    levels_held_lem = ap (λ (m : Machine). m.levels) e ∙ (text_grid l v t a b z).1

    pub lengths_fed : take s.shape.axes l' ≡ text_lengths (text_words t)
    lengths_fed = (λ i. take (axes_fed i) (lengths_held i)) ∙ take_at (text_lengths (text_words t)) (drop (axis_count (text_words t)) l) (axis_count (text_words t)) (lengths_count (text_words t) z)

    pub levels-fed : take s.shape.cells v' ≡ text_levels (text_words t)
    levels-fed =
        (λ i. take (cells-fed i) (levels_held_lem i))
        ∙ take_at (text_levels (text_words t)) (drop (cell_count (text_lengths (text_words t))) v) (cell_count (text_lengths (text_words t))) (levels_count (text_words t) z)

    -- what is lent has room
    axes_there : s.shape.axes ≤ length l'
    axes_there =
        omega (arith, axes_fed, ap length lengths_held, length-append (text_lengths (text_words t)) (drop (axis_count (text_words t)) l), lengths_count (text_words t) z)

    cells_there : s.shape.cells ≤ length v'
    cells_there =
        omega (arith, cells-fed, ap length levels_held_lem, length-append (text_levels (text_words t)) (drop (cell_count (text_lengths (text_words t))) v), levels_count (text_words t) z)

    cells_within : (o : List ℤ) → most_cells ≤ length o → s.shape.cells ≤ length o
    cells_within o h = omega (arith, cells-fed, no_more (text_words t) z)

    pub room_there : (out second : List ℤ) → most_cells ≤ length out → most_cells ≤ length second
        → ltb (length l') s.shape.axes || (ltb (length v') s.shape.cells || (ltb (length out) s.shape.cells || ltb (length second) s.shape.cells)) ≡ false
    room_there out second c d =
        or_no (ltb (length l') s.shape.axes) _ (le-ltb (length l') s.shape.axes axes_there)
        (or_no (ltb (length v') s.shape.cells) _ (le-ltb (length v') s.shape.cells cells_there)
        (or_no (ltb (length out) s.shape.cells) _ (le-ltb (length out) s.shape.cells (cells_within out c)) (le-ltb (length second) s.shape.cells (cells_within second d))))

    pub lent_count : (o : List ℤ) → most_cells ≤ length o → length (take s.shape.cells o) ≡ cell_count (text_lengths (text_words t))
    lent_count o h = length-take-le s.shape.cells o (cells_within o h) ∙ cells-fed
