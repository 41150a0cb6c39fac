-- A letter that is none of a table's names no part: what the last arm of a `match` over the letters knows, for a table of any length.
--   Others A ps letter   A, and that the letter is none of ps, as that arm has it: pairs nested to the left
-- Assumes nothing.
use Prim.Native.Nat.{ℕ}
use Prim.Native.Char.{Char, code}
use mathlib.Core.Path.{◌≡◌, refl}
use mathlib.Core.List.{List, [], ◌∷◌}
use borrow.Author.Tests.{ne_eqb}
use Rattle.ndimage_spec.specs.Parts.{nowhere, part, part_in, part_table, part_of}
use Rattle.ndimage_spec.specs.declared.Kind.TheVariants.{Count}
use Rattle.ndimage_spec.specs.declared.Times.TheVariants.{Once}
use Rattle.ndimage_spec.specs.declared.Part.{Part}

abbrev pub Others : Type 0 → List (Char × Part) → ℕ → Type 0
Others A [] letter = A
Others A (p ∷ ps) letter = Others (A × (letter ≡ code p.0 → ⊥)) ps letter

none_in : (A : Type 0) (ps : List (Char × Part)) (letter : ℕ) → Others A ps letter → A × (part_in ps letter ≡ part Count Once nowhere 0)
none_in A [] letter h = (h, refl)
none_in A (p ∷ ps) letter h =
    let r = none_in (A × (letter ≡ code p.0 → ⊥)) ps letter h in
    (r.0.0, rw (ne_eqb letter (code p.0) r.0.1) r.1)

pub part_none : (letter : ℕ) → Others (Unit {0}) part_table letter → part_of letter ≡ part Count Once nowhere 0
unfolding part_of
part_none letter h = (none_in (Unit {0}) part_table letter h).1
