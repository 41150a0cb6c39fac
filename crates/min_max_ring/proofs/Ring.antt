-- The ring that a loop over a line keeps in its locals: what it holds of the cells read, and each step that a turn takes with it.
-- Each law is over any total order; the minimum's proof takes it at ≤, the maximum's at ≥.
-- Assumes nothing.
use mathlib.Core.Path.{◌≡◌, refl, sym, ap, ◌∙◌, subst}
use mathlib.Core.Bool.{Bool, true, false}
use mathlib.Core.List.{List, [], ◌∷◌, ◌++◌}
use Prim.Native.Nat.{ℕ, ◌+◌, ◌-◌, ◌%◌, ◌≤◌, ◌<◌}
use native.Mathlib.Nat.{zero-add}
use native.Mathlib.Omega.{arith}
use lib.Dec.{T}
use lib.IntN.{ℤ, pos}
use lib.ListN.{length, get_or, set, length-set}
use lib.Seq.{get_or-set_same, get_or-set_other}
use Rattle.numbers.specs.Order.{Total, extreme}
use Rattle.numbers.specs.Windows.{window_of}
use Rattle.numbers.proofs.Tests.{T_true, T_false}
use Rattle.min_max_ring.specs.declared.Pair.{Pair}
use Rattle.min_max_ring.specs.Ring.{ring_place, no_pair, items_from}
use Rattle.min_max_ring.proofs.Items.{place_mod, length_items, items_turned, items_front, items_back, items_pushed}
use Rattle.min_max_ring.proofs.Chain.{Covered, Open, chain_open, chain_room, chain_some, chain_expired, chain_kept, chain_last-cell, chain_trimmed, chain_answer, chain_alone, chain_replaced, chain_pushed}

abbrev pub pair : ℤ → ℕ → Pair
pair v d = record { val = v; death = d }

-- The count pairs from start on cover the cells from lo up to i, and the first of them is front and death. A window has 2 to 65 cells.
pub record Ring (le : ℤ → ℤ → Bool) (line : List ℤ) (len i lo : ℕ) (ps : List Pair) (start count : ℕ) (front : ℤ) (death : ℕ) : Type 0 where
  pub wide : 1 < len
  pub narrow : len ≤ 65
  pub full : length ps ≡ 65
  pub within : start < 65
  pub low : lo < i
  pub some : 0 < count
  pub head : get_or ps start no_pair ≡ pair front death
  pub covered : Covered le line len i lo (items_from ps start count)

-- Pairs go from the back that do not come before v: count are left of count₀, and last is the level at the back.
pub record Trimming (le : ℤ → ℤ → Bool) (line : List ℤ) (len : ℕ) (v : ℤ) (i lo : ℕ) (ps : List Pair) (start count₀ count : ℕ) (front : ℤ) (death : ℕ) (last : ℤ) : Type 0 where
  pub ring : Ring le line len i lo ps start count₀ front death
  pub few : count₀ < len
  pub fewer : count ≤ count₀
  pub some : 0 < count
  pub back : last ≡ (get_or ps ((start + count - 1) % 65) no_pair).val
  pub opened : Open le line len v i lo (items_from ps start count)

module _ {le : ℤ → ℤ → Bool} (O : Total le) {line : List ℤ} {len : ℕ} where
  -- ---- a ring of one pair
  ring_single : (i lo : ℕ) (ps : List Pair) (s : ℕ) (v : ℤ) (d : ℕ) → 1 < len → len ≤ 65 → length ps ≡ 65 → s < 65 → lo < i → Covered le line len i lo (pair v d ∷ [])
      → Ring le line len i lo (set ps s (pair v d)) s 1 v d
  unfolding items_from
  ring_single i lo ps s v d w t n b l h =
      let e : get_or (set ps s (pair v d)) s no_pair ≡ pair v d = get_or-set_same ps s (pair v d) no_pair (omega arith) in
      record {
        wide = w;
        narrow = t;
        full = length-set ps s (pair v d) ∙ n;
        within = b;
        low = l;
        some = omega arith;
        head = e;
        covered =
            subst (λ (l : List Pair). Covered le line len i lo l)
            (sym (items_front (set ps s (pair v d)) s 1 b (omega arith) ∙ ap (λ (p : Pair). p ∷ []) e)) h;
      }

  -- the first cell
  pub ring_begun : (ps : List Pair) {v : ℤ} → 1 < len → len ≤ 65 → length ps ≡ 65 → v ≡ get_or line 0 (pos 0) → Ring le line len 1 0 (set ps 0 (pair v len)) 0 1 v len
  ring_begun ps {v} w t n is = ring_single 1 0 ps 0 v len w t n (omega arith) (omega arith) (simp zero-add at (chain_alone O line len v 0 is 0 (omega arith) (λ j x y. absurd (omega arith))))

  module _ {i lo : ℕ} {ps : List Pair} {start count : ℕ} {front : ℤ} {death : ℕ} (r : Ring le line len i lo ps start count front death) where
    ring_items : items_from ps start count ≡ pair front death ∷ items_from ps (start + 1) (count - 1)
    ring_items = items_front ps start count r.within r.some ∙ ap (λ (p : Pair). p ∷ items_from ps (start + 1) (count - 1)) r.head

    ring_front : Covered le line len i lo (pair front death ∷ items_from ps (start + 1) (count - 1))
    ring_front = subst (λ (l : List Pair). Covered le line len i lo l) ring_items r.covered

    -- the front is the first of its window
    pub ring_answer : i ≡ lo + len → i ≤ length line → front ≡ extreme le (pos 0) (window_of line lo len)
    ring_answer e b =
        chain_answer O line len lo (pair front death) (items_from ps (start + 1) (count - 1)) (omega arith)
        (subst (λ (k : ℕ). Covered le line len k lo (pair front death ∷ items_from ps (start + 1) (count - 1))) e ring_front)

    -- the cell i comes before the front: it is the only pair
    pub ring_replaced : {v : ℤ} → v ≡ get_or line i (pos 0) → le v front ≡ true → Ring le line len (i + 1) lo (set ps start (pair v (i + len))) start 1 v (i + len)
    ring_replaced {v} is t =
        ring_single (i + 1) lo ps start v (i + len) r.wide r.narrow r.full r.within (omega arith)
        (chain_replaced O line len v i is lo (pair front death) (items_from ps (start + 1) (count - 1)) (omega arith) (T_true t) ring_front)

    -- it does not: the back, which is the cell before it, is looked at first
    pub trim_begun : {v last : ℤ} → i < lo + len → last ≡ get_or line (i - 1) (pos 0) → Trimming le line len v i lo ps start count count front death last
    trim_begun {v} l e = record {
      ring = r;
      few = omega (arith, length_items ps start count, chain_room le line len (λ m. i ≤ m) i lo (items_from ps start count) (omega arith) r.covered);
      fewer = omega arith;
      some = r.some;
      back =
          e
          ∙ sym (chain_last-cell le line len i lo (items_from ps start (count - 1)) (get_or ps ((start + count - 1) % 65) no_pair) (omega arith)
          (subst (λ (l : List Pair). Covered le line len i lo l) (items_back ps start count r.some) r.covered));
      opened = chain_open le line len v i lo (items_from ps start count) r.covered;
    }

  module _ {i : ℕ} {ps : List Pair} {start count : ℕ} {front : ℤ} {death : ℕ} (r : Ring le line len i (i - len) ps start count front death) where
    -- the front's cell leaves the window
    pub ring_popped : death ≡ i → {s : ℕ} → s ≡ ring_place (start + 1) → Ring le line len i (i + 1 - len) ps s (count - 1) (get_or ps s no_pair).val (get_or ps s no_pair).death
    ring_popped e {s} q =
        let m : s ≡ (start + 1) % 65 = q ∙ place_mod (start + 1) (omega arith) in
        let rest : Covered le line len i (i + 1 - len) (items_from ps s (count - 1))
        = subst (λ (t : List Pair). Covered le line len i (i + 1 - len) t) (items_turned ps (start + 1) s (count - 1) (omega arith))
        (chain_expired le line len (λ m. i ≤ m) i (pair front death) (items_from ps (start + 1) (count - 1)) e (ring_front r)) in
        record {
          wide = r.wide;
          narrow = r.narrow;
          full = r.full;
          within = omega arith;
          low = omega arith;
          some = omega (arith, length_items ps s (count - 1), chain_some le line len i (i + 1 - len) (items_from ps s (count - 1)) (omega arith) rest);
          head = refl;
          covered = rest;
        }

    -- it stays
    pub ring_kept : (death ≡ i → ⊥) → Ring le line len i (i + 1 - len) ps start count front death
    ring_kept n = record {
      wide = r.wide;
      narrow = r.narrow;
      full = r.full;
      within = r.within;
      low = omega arith;
      some = r.some;
      head = r.head;
      covered =
          subst (λ (l : List Pair). Covered le line len i (i + 1 - len) l) (sym (ring_items r))
          (chain_kept le line len (λ m. i ≤ m) i (pair front death) (items_from ps (start + 1) (count - 1)) n (ring_front r));
    }

  module _ {i lo : ℕ} {ps : List Pair} {start count₀ count : ℕ} {front : ℤ} {death : ℕ} {last v : ℤ} (g : Trimming le line len v i lo ps start count₀ count front death last) where
    trim_back : Open le line len v i lo (items_from ps start (count - 1) ++ (get_or ps ((start + count - 1) % 65) no_pair ∷ []))
    trim_back = subst (λ (l : List Pair). Open le line len v i lo l) (items_back ps start count g.some) g.opened

    -- a back that goes is not the front, which comes before v
    pub trim_two : le v front ≡ false → le v last ≡ true → 1 < count
    trim_two f t =
        let r = g.ring in
        let front_is : count ≡ 1 → last ≡ front = λ e. (
        let q : (start + count - 1) % 65 ≡ start = omega arith in
        g.back ∙ ap (λ (k : ℕ). (get_or ps k no_pair).val) q ∙ ap (λ (p : Pair). p.val) r.head) in
        let one : count ≡ 1 → ⊥ = λ e. subst T f (subst (λ (z : ℤ). T (le v z)) (front_is e) (T_true t)) in
        omega arith

    -- the back goes, and the pair before it, at place b, is the back
    pub trim_more : le v front ≡ false → le v last ≡ true → {b : ℕ} {last' : ℤ} → b ≡ ring_place (start + (count - 1) - 1) → last' ≡ (get_or ps b no_pair).val
        → Trimming le line len v i lo ps start count₀ (count - 1) front death last'
    trim_more f t q e =
        let n = trim_two f t in
        let k : start + (count - 1) - 1 < 130 = omega arith in
        record {
          ring = g.ring;
          few = g.few;
          fewer = omega arith;
          some = omega arith;
          back = e ∙ ap (λ (k : ℕ). (get_or ps k no_pair).val) (q ∙ place_mod (start + (count - 1) - 1) k);
          opened =
              chain_trimmed O line len v i lo (items_from ps start (count - 1)) (get_or ps ((start + count - 1) % 65) no_pair)
              (subst (λ (z : ℤ). T (le v z)) g.back (T_true t)) trim_back;
        }

    -- the back comes before v: the cell i goes behind it, at place at
    pub ring_pushed : v ≡ get_or line i (pos 0) → le v last ≡ false → {at : ℕ} → at ≡ ring_place (start + count)
        → Ring le line len (i + 1) lo (set ps at (pair v (i + len))) start (count + 1) front death
    ring_pushed is t {at} q =
        let r = g.ring in
        let p = pair v (i + len) in
        let is_at : at ≡ (start + count) % 65 = q ∙ place_mod (start + count) (omega arith) in
        let apart : start ≡ at → ⊥ = λ e. omega arith in
        let put : items_from (set ps at p) start (count + 1) ≡ (items_from ps start (count - 1) ++ (get_or ps ((start + count - 1) % 65) no_pair ∷ [])) ++ (p ∷ [])
        = ap (λ (k : ℕ). items_from (set ps k p) start (count + 1)) is_at ∙ items_pushed ps start count p r.full (omega arith)
        ∙ ap (λ (z : List Pair). z ++ (p ∷ [])) (items_back ps start count g.some) in
        record {
          wide = r.wide;
          narrow = r.narrow;
          full = length-set ps at p ∙ r.full;
          within = r.within;
          low = omega arith;
          some = omega arith;
          head = get_or-set_other ps at start p no_pair apart ∙ r.head;
          covered =
              subst (λ (z : List Pair). Covered le line len (i + 1) lo z) (sym put)
              (chain_pushed O line len v i is lo (items_from ps start (count - 1)) (get_or ps ((start + count - 1) % 65) no_pair)
              (subst (λ (z : ℤ). T (le z v)) g.back (O.other v last (T_false t))) trim_back);
        }
