-- From the first row of a grid to the next, in the padded one: a padded row on, and at the end of a plane over the pads of the second axis too.
-- Assumes nothing.
use mathlib.Core.Path.{◌≡◌, refl, sym, ap, ◌∙◌}
use mathlib.Core.List.{List}
use Prim.Native.Nat.{ℕ, zero, suc, ◌+◌, ◌-◌, ◌*◌, ◌/◌, ◌%◌, ◌≤◌, ◌<◌}
use native.Mathlib.Nat.{add-zero, add-mul, mod-lt, mod-le, zero-div, zero-mod}
use native.Mathlib.Omega.{arith}
use lib.ListN.{length, get_or}
use Rattle.array_spec.specs.Grid.{cell_count}
use Rattle.lanes.proofs.Next.{digits_within, digits_past}
use Rattle.pad_spec.specs.Frame.{Framed, target_of, row_length}
use Rattle.pad_spec.proofs.Room.{grid_accepted}
use Rattle.pad_middle.specs.RowStarts.{RowStarts}
use Rattle.pad_middle.specs.declared.middle.RowStart.{RowStart}
use Rattle.pad_middle.proofs.RowPlace.{with_one, row_one, row_two, row_three, axis_some, axis_room, row_small}
use Rattle.pad_middle.proofs.Targets.{target_lt}

-- ---- the first row
module _ (ns lefts ps : List ℕ) (F : Framed ns lefts ps) where
  pub first_one : length ns ≡ 1 → RowStarts ns lefts ps 0 (record { place = get_or lefts 0 0; offset = 0 })
  first_one e = record { place = λ h. row_one lefts 0 ns ps e F h; offset = λ t. sym (zero-mod (get_or ns 1 0)) }

  pub first_two : length ns ≡ 2 → RowStarts ns lefts ps 0 (record { place = get_or lefts 0 0 * get_or ps 1 0 + get_or lefts 1 0; offset = 0 })
  first_two e = record { place = λ h. (λ j. sym (add-zero (get_or lefts 0 0)) j * get_or ps 1 0 + get_or lefts 1 0) ∙ row_two lefts 0 ns ps e F h; offset = λ t. sym (zero-mod (get_or ns 1 0)) }

  pub first_three : length ns ≡ 3 → RowStarts ns lefts ps 0 (record { place = (get_or lefts 0 0 * get_or ps 1 0 + get_or lefts 1 0) * get_or ps 2 0 + get_or lefts 2 0; offset = 0 })
  first_three e = record { place = λ h. (λ j. (x j * get_or ps 1 0 + y j) * get_or ps 2 0 + get_or lefts 2 0) ∙ row_three lefts 0 ns ps e F h; offset = λ t. sym (zero-mod (get_or ns 1 0)) }
    where
      x : get_or lefts 0 0 ≡ get_or lefts 0 0 + 0 / get_or ns 1 0
      x = omega (arith, zero-div (get_or ns 1 0))

      y : get_or lefts 1 0 ≡ get_or lefts 1 0 + 0 % get_or ns 1 0
      y = omega (arith, zero-mod (get_or ns 1 0))

-- ---- a step, multiplied out
step_on : (b r z : ℕ) → b * r + z + r ≡ (b + 1) * r + z
step_on b r z = omega (arith, add-mul b 1 r)

step-over : (x y q p r z m : ℕ) → y + 1 ≡ m → m ≤ p → (x * p + (q + y)) * r + z + (p - m + 1) * r ≡ ((x + 1) * p + q) * r + z
step-over x y q p r z m e h =
    let s : x * p + (q + y) + (p - m + 1) ≡ (x + 1) * p + q = omega (arith, add-mul x 1 p) in
    omega (arith, add-mul (x * p + (q + y)) (p - m + 1) r, ap (λ w. w * r) s)

-- a grid of one axis has one row
one_row : (row : ℕ) (ns : List ℕ) → length ns ≡ 1 → (row + 1) * row_length ns < cell_count ns → ⊥
one_row row ns e = with_one (λ s. (row + 1) * row_length s < cell_count s → ⊥) (λ n h. omega (arith, add-mul row 1 n)) ns e

-- ---- the next row
module _ (ns lefts ps : List ℕ) (F : Framed ns lefts ps) (row : ℕ) {t : RowStart} (T : RowStarts ns lefts ps row t) (h : row * row_length ns < cell_count ns) where
  pub place_small : t.place < 32768
  place_small = omega (arith, T.place h, target_lt ns lefts ps F (row * row_length ns) h, F.small)

  pub next_few : length ns < 3 → RowStarts ns lefts ps (row + 1) (record { place = t.place + get_or ps (length ns - 1) 0; offset = 0 })
  next_few b = record { place = λ g. go (length ns) refl (grid_accepted F).some b g; offset = λ e. absurd (omega arith) }
    where
      go : (k : ℕ) → length ns ≡ k → 1 ≤ k → k < 3 → (row + 1) * row_length ns < cell_count ns → t.place + get_or ps (k - 1) 0 ≡ target_of ns lefts ps ((row + 1) * row_length ns)
      go zero e s c g = absurd (omega arith)
      go (suc zero) e s c g = absurd (one_row row ns e g)
      go (suc (suc zero)) e s c g =
          ap (λ x. x + get_or ps 1 0) (T.place h ∙ sym (row_two lefts row ns ps e F h))
          ∙ step_on (get_or lefts 0 0 + row) (get_or ps 1 0) (get_or lefts 1 0)
          ∙ (λ j. on j * get_or ps 1 0 + get_or lefts 1 0)
          ∙ row_two lefts (row + 1) ns ps e F g
        where
          on : get_or lefts 0 0 + row + 1 ≡ get_or lefts 0 0 + (row + 1)
          on = omega arith
      go (suc (suc (suc k))) e s c g = absurd (omega arith)

  module _ (e : length ns ≡ 3) where
    pub offset_small : t.offset ≤ 8192
    offset_small = omega (arith, T.offset e, mod-le row (get_or ns 1 0), row_small ns lefts ps F row h)

    some : 0 < get_or ns 1 0
    some = axis_some ns lefts ps F 1 (omega arith)

    -- the place on the first two axes of a row x planes and y rows on
    abbrev second : ℕ → ℕ → ℕ
    second x y = (get_or lefts 0 0 + x) * get_or ps 1 0 + (get_or lefts 1 0 + y)

    here : t.place ≡ second (row / get_or ns 1 0) (row % get_or ns 1 0) * get_or ps 2 0 + get_or lefts 2 0
    here = T.place h ∙ sym (row_three lefts row ns ps e F h)

    pub next_within : (t.offset + 1 ≡ get_or ns 1 0 → ⊥) → RowStarts ns lefts ps (row + 1) (record { place = t.place + get_or ps 2 0; offset = t.offset + 1 })
    next_within b = record {
      place = λ g.
          ap (λ x. x + get_or ps 2 0) here
          ∙ step_on (second (row / get_or ns 1 0) (row % get_or ns 1 0)) (get_or ps 2 0) (get_or lefts 2 0)
          ∙ ap (λ x. x * get_or ps 2 0 + get_or lefts 2 0) on
          ∙ row_three lefts (row + 1) ns ps e F g;
      offset = λ u. omega (arith, T.offset e, d.1);
    }
      where
        d : ((row + 1) / get_or ns 1 0 ≡ row / get_or ns 1 0) × ((row + 1) % get_or ns 1 0 ≡ row % get_or ns 1 0 + 1)
        d = digits_within (get_or ns 1 0) row some (omega (arith, mod-lt row some, T.offset e))

        on : second (row / get_or ns 1 0) (row % get_or ns 1 0) + 1 ≡ second ((row + 1) / get_or ns 1 0) ((row + 1) % get_or ns 1 0)
        on = omega (arith, ap (λ x. (get_or lefts 0 0 + x) * get_or ps 1 0) d.0, d.1)

    pub next_past : t.offset + 1 ≡ get_or ns 1 0 → RowStarts ns lefts ps (row + 1) (record { place = t.place + (get_or ps 1 0 - get_or ns 1 0 + 1) * get_or ps 2 0; offset = 0 })
    next_past b = record {
      place = λ g.
          ap (λ x. x + (get_or ps 1 0 - get_or ns 1 0 + 1) * get_or ps 2 0) here
          ∙ step-over (get_or lefts 0 0 + row / get_or ns 1 0) (row % get_or ns 1 0) (get_or lefts 1 0) (get_or ps 1 0) (get_or ps 2 0) (get_or lefts 2 0) (get_or ns 1 0) last
          (axis_room ns lefts ps F 1 (omega arith))
          ∙ (λ j. (x j * get_or ps 1 0 + y j) * get_or ps 2 0 + get_or lefts 2 0)
          ∙ row_three lefts (row + 1) ns ps e F g;
      offset = λ u. sym d.1;
    }
      where
        last : row % get_or ns 1 0 + 1 ≡ get_or ns 1 0
        last = omega (arith, T.offset e)

        d : ((row + 1) / get_or ns 1 0 ≡ row / get_or ns 1 0 + 1) × ((row + 1) % get_or ns 1 0 ≡ 0)
        d = digits_past (get_or ns 1 0) row some last

        x : get_or lefts 0 0 + row / get_or ns 1 0 + 1 ≡ get_or lefts 0 0 + (row + 1) / get_or ns 1 0
        x = omega (arith, d.0)

        y : get_or lefts 1 0 ≡ get_or lefts 1 0 + (row + 1) % get_or ns 1 0
        y = omega (arith, d.1)
