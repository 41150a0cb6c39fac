-- A table read byte by byte: what a byte more does to the words that are left, and what that means for a search and for a place.
-- `between start i l` is what of l stands from start to i.
-- Assumes nothing.
use Prim.Native.Nat.{ℕ, zero, suc, ◌+◌, ◌-◌, ◌≤◌, ◌<◌}
use mathlib.Core.Path.{◌≡◌, refl, sym, ap, ◌∙◌}
use mathlib.Core.Bool.{Bool, true, false, not, ◌&&◌, ◌||◌, cond, true≢false}
use mathlib.Core.List.{List, [], ◌∷◌, ◌++◌}
use native.Mathlib.Omega.{arith}
use native.Mathlib.Nat.{sub_self}
use native.Mathlib.Numerals.{add-one}
use borrow.Author.Tests.{eqb-true}
use lib.Dec.{eqb}
use lib.ListN.{length, get_or, take, drop, length-drop, drop_of_length-le}
use lib.Seq.{drop-cons, take-suc, get_or-drop}
use Rattle.std.specs.Prelude.{Some, None}
use Rattle.words.specs.Words.{word_if, column_from, same_bytes, place_from, place_in}

abbrev pub between : ℕ → ℕ → List ℕ → List ℕ
between start i l = take (i - start) (drop start l)

between_none : (i : ℕ) (l : List ℕ) → between i i l ≡ []
between_none i l = rw (sub_self i) refl

between_more : (start i : ℕ) (l : List ℕ) → start ≤ i → i < length l → between start (i + 1) l ≡ between start i l ++ (get_or l i 0 ∷ [])
between_more start i l h b =
    let e : i + 1 - start ≡ suc (i - start) = omega arith in
    let k : i - start < length (drop start l) = rw (length-drop start l) (omega arith) in
    let s : start + (i - start) ≡ i = omega arith in
    ap (λ n. take n (drop start l)) e ∙ take-suc (drop start l) (i - start) 0 k
    ∙ ap (λ x. between start i l ++ (x ∷ [])) (get_or-drop start l (i - start) 0 ∙ ap (λ n. get_or l n 0) s)

-- the words that are left, once the byte at place i is read
module _ (e o : ℕ) (l : List ℕ) (start i : ℕ) (h : start ≤ i) (b : i < length l) where
  abbrev pub next : ℕ
  next = cond (eqb (get_or l i 0) e || eqb (get_or l i 0) o) (i + 1) start

  abbrev pub left : List (List ℕ)
  left = column_from e o (between next (i + 1) l) (drop (i + 1) l)

  pub next_in : next ≤ i + 1
  next_in = go (eqb (get_or l i 0) e || eqb (get_or l i 0) o)
    where
      go : (t : Bool) → cond t (i + 1) start ≤ i + 1
      go true = omega arith
      go false = omega arith

  pub column_step : column_from e o (between start i l) (drop i l) ≡ word_if (eqb (get_or l i 0) e) (between start i l) left
  unfolding column_from
  column_step =
      ap (column_from e o (between start i l)) (drop-cons l i 0 b ∙ ap (λ n. get_or l i 0 ∷ drop n l) (sym (add-one i)))
      ∙ ap (λ w. word_if (eqb (get_or l i 0) e) (between start i l) (column_from e o w (drop (i + 1) l))) (go (eqb (get_or l i 0) e || eqb (get_or l i 0) o))
    where
      go : (t : Bool) → cond t [] (between start i l ++ (get_or l i 0 ∷ [])) ≡ between (cond t (i + 1) start) (i + 1) l
      go true = sym (between_none (i + 1) l)
      go false = sym (between_more start i l h b)

-- a search: the word that ends here is the token, or it is looked for in what is left
pub place_hit : (n : ℕ) (t : Bool) (w : List ℕ) (ws : List (List ℕ)) (s : List ℕ) → t && same_bytes w s ≡ true
    → place_from n (word_if t w ws) s ≡ Some n
place_hit n true w ws s e = rw e refl
place_hit n false w ws s e = absurd (true≢false (sym e))

pub place_miss : (n : ℕ) (t : Bool) (w : List ℕ) (ws : List (List ℕ)) (s : List ℕ) → t && same_bytes w s ≡ false
    → place_from n (word_if t w ws) s ≡ place_from (cond t (n + 1) n) ws s
place_miss n true w ws s e = rw e refl
place_miss n false w ws s e = refl

-- a place: the word that ends here stands at it, or at one less of what is left
pub at_hit : (k : ℕ) (t : Bool) (w : List ℕ) (ws : List (List ℕ)) → t && eqb k 0 ≡ true → get_or (word_if t w ws) k [] ≡ w
at_hit k true w ws e = rw (eqb-true k 0 e) refl
at_hit k false w ws e = absurd (true≢false (sym e))

pub at_miss : (k : ℕ) (t : Bool) (w : List ℕ) (ws : List (List ℕ)) → t && eqb k 0 ≡ false
    → get_or (word_if t w ws) k [] ≡ get_or ws (cond t (k - 1) k) []
at_miss zero true w ws e = absurd (true≢false e)
at_miss (suc k) true w ws e = let z : suc k - 1 ≡ k = omega arith in rw z refl
at_miss k false w ws e = refl

-- at most one more than before
cond_more : (t : Bool) {n i : ℕ} → n ≤ i → cond t (n + 1) n ≤ i + 1
cond_more true h = omega arith
cond_more false h = omega arith

no_yes : (t : Bool) → not t ≡ true → t ≡ false
no_yes true e = absurd (true≢false (sym e))
no_yes false e = refl

no_no : (t : Bool) → not t ≡ false → t ≡ true
no_no true e = refl
no_no false e = absurd (true≢false e)

-- what a search keeps: the token is looked for in what is left, its word so far from start on, and `place` words are behind
pub record Looking (table token : List ℕ) (place start i : ℕ) : Type 0 where
  pub behind : start ≤ i
  pub counted : place ≤ i
  pub found : place_in (column_from 32 10 [] table) token ≡ place_from place (column_from 32 10 (between start i table) (drop i table)) token

pub looking_none : (table token : List ℕ) → Looking table token 0 0 0
unfolding place_in
looking_none table token = record { behind = omega arith; counted = omega arith; found = refl }

module _ {table token : List ℕ} {place start i : ℕ} (s : Looking table token place start i) where
  pub looking_hit : i < length table → eqb (get_or table i 0) 32 && same_bytes (between start i table) token ≡ true
      → place_in (column_from 32 10 [] table) token ≡ Some place
  looking_hit b e =
      s.found ∙ ap (λ ws. place_from place ws token) (column_step 32 10 table start i s.behind b)
      ∙ place_hit place (eqb (get_or table i 0) 32) (between start i table) (left 32 10 table start i s.behind b) token e

  pub looking_more : i < length table → eqb (get_or table i 0) 32 && same_bytes (between start i table) token ≡ false
      → {p n : ℕ} → p ≡ cond (eqb (get_or table i 0) 32) (place + 1) place → n ≡ cond (eqb (get_or table i 0) 32 || eqb (get_or table i 0) 10) (i + 1) start
      → Looking table token p n (i + 1)
  looking_more b e p n =
      rw (p, n) (record {
        behind = next_in 32 10 table start i s.behind b;
        counted = cond_more (eqb (get_or table i 0) 32) s.counted;
        found =
            s.found ∙ ap (λ ws. place_from place ws token) (column_step 32 10 table start i s.behind b)
            ∙ place_miss place (eqb (get_or table i 0) 32) (between start i table) (left 32 10 table start i s.behind b) token e;
      })

  -- a byte that is no space, and ends no word
  pub looking_on : i < length table → not (eqb (get_or table i 0) 32) ≡ true
      → {n : ℕ} → n ≡ cond (eqb (get_or table i 0) 32 || eqb (get_or table i 0) 10) (i + 1) start → Looking table token place n (i + 1)
  looking_on b e q = let s = no_yes _ e in looking_more b (rw s refl) {p = place} (rw s refl) q

  -- a space, behind which a word begins
  pub looking_end : i < length table → not (eqb (get_or table i 0) 32) ≡ false → eqb (get_or table i 0) 32 && same_bytes (between start i table) token ≡ false
      → {p : ℕ} → p ≡ cond (eqb (get_or table i 0) 32) (place + 1) place → Looking table token p (i + 1) (i + 1)
  looking_end b e m p = looking_more b m p (rw (no_no _ e) refl)

  pub looking_all : length table ≤ i → place_in (column_from 32 10 [] table) token ≡ None
  unfolding column_from
  looking_all b = s.found ∙ ap (λ r. place_from place (column_from 32 10 (between start i table) r) token) (drop_of_length-le table b)

-- what a count keeps: what stands at a place stands at place `k` of what is left
pub record Counting (e o : ℕ) (table : List ℕ) (place k start i : ℕ) : Type 0 where
  pub behind : start ≤ i
  pub same : get_or (column_from e o [] table) place [] ≡ get_or (column_from e o (between start i table) (drop i table)) k []

module _ {e o : ℕ} {table : List ℕ} {place k start i : ℕ} (s : Counting e o table place k start i) where
  pub counting_hit : i < length table → eqb (get_or table i 0) e && eqb k 0 ≡ true → get_or (column_from e o [] table) place [] ≡ between start i table
  counting_hit b h =
      s.same ∙ ap (λ ws. get_or ws k []) (column_step e o table start i s.behind b)
      ∙ at_hit k (eqb (get_or table i 0) e) (between start i table) (left e o table start i s.behind b) h

  pub counting_more : i < length table → eqb (get_or table i 0) e && eqb k 0 ≡ false
      → {p n : ℕ} → p ≡ cond (eqb (get_or table i 0) e) (k - 1) k → n ≡ cond (eqb (get_or table i 0) e || eqb (get_or table i 0) o) (i + 1) start
      → Counting e o table place p n (i + 1)
  counting_more b h p n =
      rw (p, n) (record {
        behind = next_in e o table start i s.behind b;
        same =
            s.same ∙ ap (λ ws. get_or ws k []) (column_step e o table start i s.behind b)
            ∙ at_miss k (eqb (get_or table i 0) e) (between start i table) (left e o table start i s.behind b) h;
      })

  pub counting_all : length table ≤ i → get_or (column_from e o [] table) place [] ≡ []
  unfolding column_from
  counting_all b = s.same ∙ ap (λ r. get_or (column_from e o (between start i table) r) k []) (drop_of_length-le table b)
