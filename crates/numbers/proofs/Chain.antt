-- The refusal chain, condition by condition, and the two answers of a call that judges first and fills then.
-- Assumes nothing.
use mathlib.Core.Path.{◌≡◌, refl, sym, ◌∙◌}
use mathlib.Core.Bool.{Bool, true, false, cond}
use mathlib.Core.List.{List, [], ◌∷◌, ◌++◌, map}
use Prim.Native.Nat.{ℕ, ◌<◌}
use native.Mathlib.Omega.{arith}
use borrow.Author.Tests.{eq-eqb, ne_eqb, eqb-true, eqb-false}
use lib.Dec.{T, eqb, ltb, ltb→lt}
use lib.ListN.{length, replicate}
use Rattle.numbers.specs.Lists.{Every}
use Rattle.numbers.specs.Refusal.{Judged, refusal_of, Answers, ScratchAnswers}
use Rattle.numbers.proofs.Tests.{cond_yes, cond_no}

-- the first condition holds
pub judged_yes : (t : Bool) (n : ℕ) (js : Judged) → t ≡ true → n ≡ refusal_of ((t, n) ∷ js)
judged_yes t n js e = sym (cond_yes t n (refusal_of js) e)

-- it does not: the others decide
pub judged_no : (t : Bool) (n : ℕ) (js : Judged) {r : ℕ} → t ≡ false → r ≡ refusal_of js → r ≡ refusal_of ((t, n) ∷ js)
judged_no t n js e h = h ∙ sym (cond_no t n (refusal_of js) e)

-- a chain that refuses nothing: no condition holds. At literal numbers the second argument is tt for each.
pub judged-all : (js : Judged) → Every (λ j. T (ltb 0 j.1)) js → refusal_of js ≡ 0 → Every (λ j. j.0 ≡ false) js
judged-all [] p e = tt
judged-all (j ∷ js) p e = go (judged-all js p.1) j.0 refl
  where
    clash : j.1 ≡ 0 → 0 < j.1 → ⊥
    clash q h = omega arith

    go : (refusal_of js ≡ 0 → Every (λ j. j.0 ≡ false) js) → (t : Bool) → j.0 ≡ t → Every (λ j. j.0 ≡ false) (j ∷ js)
    go f true q = absurd (clash (sym (cond_yes j.0 j.1 (refusal_of js) q) ∙ e) (ltb→lt 0 j.1 p.0))
    go f false q = (q, f (sym (cond_no j.0 j.1 (refusal_of js) q) ∙ e))

-- a chain goes on where its first part refuses nothing
pub judged-append : (js ks : Judged) → Every (λ j. T (ltb 0 j.1)) js → refusal_of (js ++ ks) ≡ cond (eqb (refusal_of js) 0) (refusal_of ks) (refusal_of js)
judged-append [] ks p = refl
judged-append (j ∷ js) ks p = go (judged-append js ks p.1) j.0
  where
    clash : j.1 ≡ 0 → 0 < j.1 → ⊥
    clash q h = omega arith

    go : refusal_of (js ++ ks) ≡ cond (eqb (refusal_of js) 0) (refusal_of ks) (refusal_of js) → (t : Bool)
        → cond t j.1 (refusal_of (js ++ ks)) ≡ cond (eqb (cond t j.1 (refusal_of js)) 0) (refusal_of ks) (cond t j.1 (refusal_of js))
    go ih true = sym (cond_no (eqb j.1 0) (refusal_of ks) j.1 (ne_eqb j.1 0 (λ q. clash q (ltb→lt 0 j.1 p.0))))
    go ih false = ih

-- the same from the number of the first part, for a call that judges its first part by itself
module _ (js ks : Judged) (p : Every (λ j. T (ltb 0 j.1)) js) {r : ℕ} (e : r ≡ refusal_of js) where
  pub chain_stops : (r ≡ 0 → ⊥) → r ≡ refusal_of (js ++ ks)
  chain_stops h = e ∙ sym (judged-append js ks p ∙ cond_no (eqb (refusal_of js) 0) (refusal_of ks) (refusal_of js) (ne_eqb (refusal_of js) 0 (λ z. h (e ∙ z))))

  pub chain_goes : {q : ℕ} → r ≡ 0 → q ≡ refusal_of ks → q ≡ refusal_of (js ++ ks)
  chain_goes z h = h ∙ sym (judged-append js ks p ∙ cond_yes (eqb (refusal_of js) 0) (refusal_of ks) (refusal_of js) (eq-eqb (refusal_of js) 0 (sym e ∙ z)))

-- a last condition that never holds where the others do not is not asked about
pub chain_ends : (js : Judged) (t : Bool) (n : ℕ) → Every (λ j. T (ltb 0 j.1)) js → {r : ℕ} → r ≡ refusal_of js → (r ≡ 0 → t ≡ false) → r ≡ refusal_of (js ++ ((t, n) ∷ []))
chain_ends js t n p {r} e h = go (eqb r 0) refl
  where
    go : (u : Bool) → eqb r 0 ≡ u → r ≡ refusal_of (js ++ ((t, n) ∷ []))
    go true q = let z = eqb-true r 0 q in chain_goes js ((t, n) ∷ []) p e z (z ∙ sym (cond_no t n 0 (h z)))
    go false q = chain_stops js ((t, n) ∷ []) p e (eqb-false r 0 q)

module _ {A : Type 0} (js : Judged) (levels held : List A) (r : ℕ) (e : r ≡ refusal_of js) where
  pub answers_refused : (r ≡ 0 → ⊥) → Answers js levels held r held
  answers_refused h = record { number = e; cells = rw (ne_eqb r 0 h) refl }

  pub answers_accepted : {left : List A} → r ≡ 0 → left ≡ levels → Answers js levels held 0 left
  answers_accepted z q = record { number = sym z ∙ e; cells = q }

-- the same of a call that is lent scratch grids besides
module _ {A : Type 0} (zero : A) (js : Judged) (levels held : List A) (scratch : List (List A)) (r : ℕ) (e : r ≡ refusal_of js) where
  pub scratch_refused : (r ≡ 0 → ⊥) → ScratchAnswers zero js levels held scratch r held scratch
  scratch_refused h = record {
    filled = answers_refused js levels held r e h;
    cleared = rw (ne_eqb r 0 h) refl;
  }

  pub scratch_accepted : {left : List A} {scratch' : List (List A)} → r ≡ 0 → left ≡ levels → scratch' ≡ map (λ s. replicate (length s) zero) scratch
      → ScratchAnswers zero js levels held scratch 0 left scratch'
  scratch_accepted z q c = record { filled = answers_accepted js levels held r e z q; cleared = c }
