-- The origin of a window, and the pads that it gives.
--   bad_origin len origin                 7: origin outside −floor(len/2)..floor((len − 1)/2); at length 0 every origin
--   origin_pads len left right origin     Refused, or the pads: left + origin and right − origin
--   refusal_of_origin o                    the number of the answer o: 0, accepted, or 7
--   OriginAnswers len left right origin o
--                                        what an answer o promises: document 01's number, and the pads where that is 0
use Rattle.std.specs.Prelude.{ℕ, ◌/◌, ◌≡◌, Bool, cond, [], ◌∷◌, ℤ, pos, neg_ℤ, nat_abs, ◌+ℤ◌, ◌-ℤ◌}
use Rattle.std.specs.Int.Signed.{shr_z}
use Rattle.numbers.specs.Ranges.{outside_z}
use Rattle.numbers.specs.Refusal.{refusal_of}
use Rattle.window_spec.specs.declared.Origin.{Origin}
use Rattle.window_spec.specs.declared.Origin.TheVariants.{Pads, Refused}

-- shr_z .. 2 is the half, rounded down
unfoldable pub bad_origin : ℕ → ℤ → Bool
bad_origin len origin = outside_z (neg_ℤ (pos (len / 2))) (shr_z (pos len -ℤ pos 1) 2) origin

-- no sum is negative where the origin is accepted
abbrev pub origin_pads : ℕ → ℕ → ℕ → ℤ → Origin
origin_pads len left right origin = cond (bad_origin len origin) Refused
    (Pads (nat_abs (pos left +ℤ origin)) (nat_abs (pos right -ℤ origin)))

abbrev pub refusal_of_origin : Origin → ℕ
refusal_of_origin (Pads l r) = 0
refusal_of_origin Refused = 7

pub record OriginAnswers (len left right : ℕ) (origin : ℤ) (o : Origin) : Type 0 where
  pub number : refusal_of_origin o ≡ refusal_of ((bad_origin len origin, 7) ∷ [])
  pub pads : o ≡ origin_pads len left right origin
