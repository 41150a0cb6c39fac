-- Worked rows of this crate's definitions. Each holds by computing.
--   padded            4 2 7 1 with a cell on either side under Reflect: document 01's T4
--   leasts len n      the least of each of n windows of len cells of it
--   greatests len n   the greatest of each
--   full              an array of 65 pairs, the pair at place k with death k
--   MinMaxRingRows       the rows
use Rattle.std.specs.Prelude.{ℕ, ◌≡◌, true, false, List, [], ◌∷◌, map, ℤ, pos, replicate}
use Rattle.std.specs.Int.Signed.{le_z}
use Rattle.numbers.specs.Lists.{tabulate}
use Rattle.numbers.specs.Order.{at_least}
use Rattle.numbers.specs.Rows.{wholes}
use Rattle.min_max_ring.specs.declared.Pair.{Pair}
use Rattle.min_max_ring.specs.Extremes.{order_by, extremes, serving, swept_by}
use Rattle.min_max_ring.specs.Ring.{ring_place, items_from}

abbrev pub padded : List ℤ
padded = wholes (4 ∷ 4 ∷ 2 ∷ 7 ∷ 1 ∷ 1 ∷ [])

abbrev pub leasts : ℕ → ℕ → List ℤ
leasts len n = extremes le_z padded len n

abbrev pub greatests : ℕ → ℕ → List ℤ
greatests len n = extremes at_least padded len n

abbrev pub full : List Pair
full = tabulate (λ k. record { val = pos 0; death = k }) 0 65

pub record MinMaxRingRows : Type 0 where
  -- 3 comes before 2 in the order of the greatest, not in that of the least
  pub orders : order_by true (pos 3) (pos 2) ∷ order_by false (pos 3) (pos 2) ∷ [] ≡ true ∷ false ∷ []
  -- T4: windows of 3, then windows of 2 and one of the whole line
  pub least-three : leasts 3 4 ≡ wholes (2 ∷ 2 ∷ 1 ∷ 1 ∷ [])
  pub greatest_three : greatests 3 4 ≡ wholes (4 ∷ 7 ∷ 7 ∷ 7 ∷ [])
  pub least-two : leasts 2 5 ≡ wholes (4 ∷ 2 ∷ 2 ∷ 1 ∷ 1 ∷ [])
  pub greatest_two : greatests 2 5 ≡ wholes (4 ∷ 4 ∷ 7 ∷ 7 ∷ 1 ∷ [])
  pub least-whole : leasts 6 1 ≡ wholes (1 ∷ [])
  pub greatest_whole : greatests 6 1 ≡ wholes (7 ∷ [])
  -- served: windows of 2 and 65, a line of 1,088, a line one short of a window for no output; not windows of 1 and 66,
  -- a line of 1,089, a line two short
  pub served : serving 2 2 1 ∷ serving 65 65 1 ∷ serving 1088 3 1086 ∷ serving 2 3 0 ∷ []
      ≡ true ∷ true ∷ true ∷ true ∷ []
  pub not_served : serving 6 1 6 ∷ serving 66 66 1 ∷ serving 1089 3 1087 ∷ serving 1 3 0 ∷ []
      ≡ false ∷ false ∷ false ∷ false ∷ []
  -- an output for each window is filled, one of another length stays; so does any under windows of 1
  pub swept : swept_by le_z padded 3 (wholes (9 ∷ 9 ∷ 9 ∷ 9 ∷ [])) ≡ wholes (2 ∷ 2 ∷ 1 ∷ 1 ∷ [])
  pub not_swept : swept_by le_z padded 3 (wholes (9 ∷ 9 ∷ 9 ∷ [])) ≡ wholes (9 ∷ 9 ∷ 9 ∷ [])
  pub single : swept_by le_z padded 1 (replicate 6 (pos 9)) ≡ replicate 6 (pos 9)
  -- the ring's last place, its first again, and pairs read round its end
  pub places : map ring_place (0 ∷ 64 ∷ 65 ∷ 129 ∷ []) ≡ 0 ∷ 64 ∷ 0 ∷ 64 ∷ []
  pub round : map (λ p. p.death) (items_from full 63 4) ≡ 63 ∷ 64 ∷ 0 ∷ 1 ∷ []
