-- `four_weights` meets its contract: either call is in the direction that was asked for.
use Prim.Native.Nat.{ℕ}
use mathlib.Core.Path.{◌≡◌, sym, subst}
use mathlib.Core.Bool.{Bool}
use mathlib.Core.List.{List}
use lib.Ieee.{Float}
use Rattle.direction.specs.Direction.{directed}
use Rattle.correlate_line_f64.proofs.Turns.{Weights}
use Rattle.correlate_line_f64.proofs.terms.four_weights.Goals as goal

-- four weights in a direction that has another name
asked : {backward t : Bool} → backward ≡ t → (w : List Float) (j : ℕ) {p q r s : Float} → Weights (directed t w) j p q r s → Weights (directed backward w) j p q r s
asked e w j {p} {q} {r} {s} h = subst (λ b. Weights (directed b w) j p q r s) (sym e) h

pub returns-then-backward : goal.returns-then-backward
returns-then-backward c = asked c.if-backward.true c.args.weights.now c.args.j c.four_toward.ensures

pub returns : goal.returns
returns c = asked c.if-backward.false c.args.weights.now c.args.j c.four_toward-2.ensures
