-- `play_steps` meets its contract: two steps a turn, by way of the second grid. The measure is how many are left.
use Prim.Native.Nat.{◌-◌, ◌%◌, ◌≤◌}
use mathlib.Core.Path.{◌≡◌}
use lib.ListN.{length, take}
use Rattle.recipe_spec.specs.Player.{played}
use Rattle.recipe_play.proofs.steps.play_steps.Given as goal

abbrev pub invariant-loop-k : goal.invariant-loop-k
invariant-loop-k l =
    (l.n ≡ l.count) × (l.k ≤ l.n) × ((l.n - l.k) % 2 ≡ 0) × (length l.second ≡ length l.data)
    × (length l.out ≡ length l.data) × (l.out ≡ played l.shape (take l.k (take l.count l.steps)) l.data)

abbrev pub decreases-loop-k : goal.decreases-loop-k
decreases-loop-k l = l.n - l.k
