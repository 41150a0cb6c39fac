-- What a list holds while a loop stores into it: one set of laws for every order in which places are filled.
-- Stored d P f l₀ l says that l is l₀ with f k stored at each place k of which P holds; d stands for what is past the end.
-- Assumes nothing.
use mathlib.Core.Path.{◌≡◌, refl, sym, ap, ◌∙◌}
use mathlib.Core.Bool.{Bool, true, false, ◌||◌, cond}
use mathlib.Core.List.{List, ◌++◌}
use Prim.Native.Nat.{ℕ, ◌+◌, ◌-◌, ◌≤◌, ◌<◌}
use native.Mathlib.Omega.{arith}
use borrow.Author.Tests.{eqb-true, eqb-false, ltb-true, ltb-false, lt-ltb, le-ltb}
use lib.Dec.{eqb, ltb}
use lib.ListN.{length, get_or, set, drop, length-set, length-append, length-drop, get_or-append}
use lib.Seq.{get_or-set_same, get_or-set_other, get_or-drop, get_or-append-add, ext_get_or}
use Rattle.numbers.specs.Lists.{tabulate}
use Rattle.numbers.proofs.Tests.{ltb-more}
use Rattle.numbers.proofs.Tabulate.{tabulate_unique, length-tabulate, get_d_tabulate}

pub record Stored {A : Type 0} (d : A) (P : ℕ → Bool) (f : ℕ → A) (l₀ l : List A) : Type 0 where
  pub kept : length l ≡ length l₀
  pub cells : (k : ℕ) → k < length l₀ → get_or l k d ≡ cond (P k) (f k) (get_or l₀ k d)

module _ {A : Type 0} (d : A) (f : ℕ → A) where
  -- nothing stored yet
  pub stored_none : (P : ℕ → Bool) (l : List A) → ((k : ℕ) → P k ≡ false) → Stored d P f l l
  stored_none P l h = record { kept = refl; cells = λ k b. ap (λ t. cond t (f k) (get_or l k d)) (sym (h k)) }

  -- one store
  pub stored_one : (l : List A) (p : ℕ) (v : A) → p < length l → v ≡ f p → Stored d (λ k. eqb k p) f l (set l p v)
  stored_one l p v h e = record { kept = length-set l p v; cells = λ k b. at k (eqb k p) refl }
    where
      at : (k : ℕ) (t : Bool) → eqb k p ≡ t → get_or (set l p v) k d ≡ cond t (f k) (get_or l k d)
      at k true t = let q : k ≡ p = eqb-true k p t in rw q (get_or-set_same l p v d h ∙ e)
      at k false t = get_or-set_other l p k v d (eqb-false k p t)

  -- one run of stores after another
  pub stored_then : (P Q R : ℕ → Bool) {l₀ l₁ l₂ : List A} → Stored d P f l₀ l₁ → Stored d Q f l₁ l₂ → ((k : ℕ) → R k ≡ Q k || P k) → Stored d R f l₀ l₂
  stored_then P Q R {l₀} {l₁} {l₂} S U h = record {
    kept = U.kept ∙ S.kept;
    cells = λ k b. U.cells k (omega (arith, S.kept)) ∙ ap (cond (Q k) (f k)) (S.cells k b) ∙ both (Q k) (P k) k ∙ ap (λ t. cond t (f k) (get_or l₀ k d)) (sym (h k));
  }
    where
      both : (q p : Bool) (k : ℕ) → cond q (f k) (cond p (f k) (get_or l₀ k d)) ≡ cond (q || p) (f k) (get_or l₀ k d)
      both true p k = refl
      both false p k = refl

  -- everything stored
  pub stored_all : (P : ℕ → Bool) {l₀ l : List A} → ((k : ℕ) → k < length l₀ → P k ≡ true) → Stored d P f l₀ l → l ≡ tabulate f 0 (length l₀)
  stored_all P {l₀} {l} h S = tabulate_unique d f l (length l₀) S.kept (λ k b. S.cells k b ∙ ap (λ t. cond t (f k) (get_or l₀ k d)) (h k b))

  -- the whole as a table, and back
  pub stored_table : (P : ℕ → Bool) {l₀ l : List A} → Stored d P f l₀ l → l ≡ tabulate (λ k. cond (P k) (f k) (get_or l₀ k d)) 0 (length l₀)
  stored_table P {l₀} {l} S = tabulate_unique d (λ k. cond (P k) (f k) (get_or l₀ k d)) l (length l₀) S.kept S.cells

  pub table_stored : (P : ℕ → Bool) (l₀ l : List A) → l ≡ tabulate (λ k. cond (P k) (f k) (get_or l₀ k d)) 0 (length l₀) → Stored d P f l₀ l
  table_stored P l₀ l e = record {
    kept = ap length e ∙ length-tabulate (λ k. cond (P k) (f k) (get_or l₀ k d)) 0 (length l₀);
    cells = λ k b. ap (λ s. get_or s k d) e ∙ get_d_tabulate (λ k. cond (P k) (f k) (get_or l₀ k d)) (length l₀) k d b;
  }

  -- the same levels at the places stored
  pub stored_agree : (P : ℕ → Bool) (g : ℕ → A) {l₀ l : List A} → ((k : ℕ) → P k ≡ true → f k ≡ g k) → Stored d P f l₀ l → Stored d P g l₀ l
  stored_agree P g {l₀} {l} h S = record { kept = S.kept; cells = λ k b. S.cells k b ∙ at k (P k) refl }
    where
      at : (k : ℕ) (t : Bool) → P k ≡ t → cond t (f k) (get_or l₀ k d) ≡ cond t (g k) (get_or l₀ k d)
      at k true e = h k e
      at k false e = refl

  -- ---- from the front: the places below n
  pub front-none : (l : List A) → Stored d (λ k. ltb k 0) f l l
  front-none l = stored_none (λ k. ltb k 0) l (λ k. le-ltb k 0 (omega arith))

  pub front-more : {n : ℕ} {l₀ l : List A} (v : A) → n < length l₀ → Stored d (λ k. ltb k n) f l₀ l → v ≡ f n → Stored d (λ k. ltb k (n + 1)) f l₀ (set l n v)
  front-more {n} {l₀} {l} v b S e =
      stored_then (λ k. ltb k n) (λ k. eqb k n) (λ k. ltb k (n + 1)) S (stored_one l n v (omega (arith, S.kept)) e) (λ k. ltb-more k n)

  pub front-all : {n : ℕ} {l₀ l : List A} → length l₀ ≤ n → Stored d (λ k. ltb k n) f l₀ l → l ≡ tabulate f 0 (length l₀)
  front-all {n} h S = stored_all (λ k. ltb k n) (λ k b. lt-ltb k n (omega arith)) S

  -- what is stored, and past it what was held
  pub front-part : {n : ℕ} {l₀ l : List A} → n ≤ length l₀ → Stored d (λ k. ltb k n) f l₀ l → l ≡ tabulate f 0 n ++ drop n l₀
  front-part {n} {l₀} {l} h S = ext_get_or d l (tabulate f 0 n ++ drop n l₀) (S.kept ∙ sym whole) (λ k b. S.cells k (omega (arith, S.kept)) ∙ at k (ltb k n) refl)
    where
      whole : length (tabulate f 0 n ++ drop n l₀) ≡ length l₀
      whole = simp (length-append, length-tabulate, length-drop) (omega arith)

      at : (k : ℕ) (t : Bool) → ltb k n ≡ t → cond t (f k) (get_or l₀ k d) ≡ get_or (tabulate f 0 n ++ drop n l₀) k d
      at k true e =
          let b : k < n = ltb-true k n e in
          sym (get_or-append (tabulate f 0 n) (drop n l₀) d k (omega (arith, length-tabulate f 0 n)) ∙ get_d_tabulate f n k d b)
      at k false e =
          let q : k ≡ length (tabulate f 0 n) + (k - n) = omega (arith, length-tabulate f 0 n, ltb-false k n e) in
          let r : n + (k - n) ≡ k = omega (arith, ltb-false k n e) in
          sym (ap (λ j. get_or (tabulate f 0 n ++ drop n l₀) j d) q ∙ get_or-append-add (tabulate f 0 n) (drop n l₀) (k - n) d ∙ get_or-drop n l₀ (k - n) d ∙ ap (λ j. get_or l₀ j d) r)

  -- a list whose first n places hold f already
  pub front_held : (n : ℕ) (l : List A) → ((k : ℕ) → k < n → get_or l k d ≡ f k) → Stored d (λ k. ltb k n) f l l
  front_held n l h = record { kept = refl; cells = λ k b. at k (ltb k n) refl }
    where
      at : (k : ℕ) (t : Bool) → ltb k n ≡ t → get_or l k d ≡ cond t (f k) (get_or l k d)
      at k true e = h k (ltb-true k n e)
      at k false e = refl

-- ---- stores over stores: where the later ones agree with what belongs there, and elsewhere nothing new is stored
pub stored_over : {A : Type 0} (d : A) (P Q R : ℕ → Bool) (f g : ℕ → A) {l₀ l₁ l₂ : List A} → Stored d P g l₀ l₁ → Stored d Q f l₁ l₂
    → ((k : ℕ) → k < length l₀ → Q k ≡ true → (R k ≡ true) × (f k ≡ g k)) → ((k : ℕ) → k < length l₀ → Q k ≡ false → R k ≡ P k) → Stored d R g l₀ l₂
stored_over d P Q R f g {l₀} {l₁} {l₂} S U on off = record {
  kept = U.kept ∙ S.kept;
  cells = λ k b. U.cells k (omega (arith, S.kept)) ∙ at k b (Q k) refl;
}
  where
    at : (k : ℕ) → k < length l₀ → (t : Bool) → Q k ≡ t → cond t (f k) (get_or l₁ k d) ≡ cond (R k) (g k) (get_or l₀ k d)
    at k b true e = (on k b e).1 ∙ sym (ap (λ t. cond t (g k) (get_or l₀ k d)) (on k b e).0)
    at k b false e = S.cells k b ∙ sym (ap (λ t. cond t (g k) (get_or l₀ k d)) (off k b e))
