-- A padded grid from one axis to the next: what one leaves is where the next starts.
-- Assumes nothing.
use mathlib.Core.Path.{◌≡◌, subst}
use mathlib.Core.List.{List}
use Prim.Native.Nat.{ℕ, suc, ◌+◌}
use native.Mathlib.Omega.{arith}
use lib.IntN.{ℤ}
use Rattle.border.specs.declared.PadMode.{PadMode}
use Rattle.pad_spec.specs.Filled.{Filled, Fills}

module _ {mode : PadMode} {ns lefts ps : List ℕ} {out₀ out : List ℤ} where
  pub fills_then : {a : ℕ} {out' : List ℤ} → Fills mode ns lefts ps 0 a out₀ out → Fills mode ns lefts ps a (suc a) out out' → Fills mode ns lefts ps 0 (a + 1) out₀ out'
  fills_then {a} {out'} S T cells A = let e : suc a ≡ a + 1 = omega arith in subst (λ (x : ℕ). Filled mode ns lefts ps cells x out') e (T cells (S cells A))

  pub fills_last : {a b : ℕ} → a ≡ b → Fills mode ns lefts ps 0 a out₀ out → Fills mode ns lefts ps 0 b out₀ out
  fills_last e S cells A = subst (λ (x : ℕ). Filled mode ns lefts ps cells x out) e (S cells A)
