-- What is printed, return by return: the refusal number alone, or the levels that the answer has left at the front of the output.
-- Assumes nothing.
use Prim.Native.Nat.{ℕ, ◌/◌, ◌≤◌, ◌<◌}
use native.Mathlib.Omega.{arith}
use mathlib.Core.Path.{◌≡◌, refl, sym, ap, subst, ◌∙◌}
use mathlib.Core.Bool.{Bool, true, false, cond}
use mathlib.Core.List.{List, [], ◌∷◌, ◌++◌}
use borrow.Author.Tests.{eq-eqb, ne_eqb, eqb-true, eqb-false, le-ltb}
use lib.Dec.{T, eqb, ltb}
use lib.IntN.{ℤ, pos}
use lib.ListN.{length, take, drop, length-append}
use lib.Seq.{take_at}
use Rattle.numbers.specs.Limits.{most_cells}
use Rattle.numbers.specs.Lists.{Every}
use Rattle.numbers.specs.Refusal.{Judged, refusal_of}
use Rattle.numbers.proofs.Chain.{judged-append}
use Rattle.numbers.proofs.Tests.{cond_yes, cond_no}
use Rattle.recipe_spec.specs.Recipes.{file_judged}
use Rattle.recipe_spec.specs.Player.{recipe_steps}
use Rattle.grid_text_spec.specs.declared.TextState.{TextState}
use Rattle.grid_text_spec.specs.Words.{text_words, text_judged}
use Rattle.grid_text_spec.specs.Machine.{machine, start_state, fed}
use Rattle.grid_text_spec.specs.Lines.{level_lines, room_lacks, lines_in, lines_count}
use Rattle.grid_text_spec.proofs.Grids.{no_more}
use Rattle.play_text.specs.PlayText.{play_text_judged, played_text, at_front, PlayedText, PlayedFrom, shown_levels, printed_text, print_room, PrintedFrom}
use Rattle.play_text.proofs.FromText.{rest_judged, played_count, cells-played}

-- ---- lines of no more levels than a grid has, where there is room
lines_there : (xs : List ℤ) (text : List ℕ) (r : ℕ) (text' : List ℕ) → length xs ≤ most_cells → print_room ≤ length text → r ≡ lines_count xs text → text' ≡ lines_in xs text
    → (r ≡ length (level_lines xs)) × (text' ≡ level_lines xs ++ drop (length (level_lines xs)) text)
lines_there xs text r text' h w p q =
    let no : room_lacks xs text ≡ false = le-ltb (length text / 21) (length xs) (omega arith) in
    (p ∙ cond_no (room_lacks xs text) 0 (length (level_lines xs)) no, q ∙ cond_no (room_lacks xs text) text (level_lines xs ++ drop (length (level_lines xs)) text) no)

printed_is : (f t : List ℕ) (out second out' second' xs : List ℤ) (text : List ℕ) (r : ℕ) (text' : List ℕ)
    → PlayedText f t out second (refusal_of (play_text_judged f t)) out' second'
    → shown_levels (refusal_of (play_text_judged f t)) (played_text f t) ≡ xs → (r ≡ length (level_lines xs)) × (text' ≡ level_lines xs ++ drop (length (level_lines xs)) text)
    → (r ≡ length (printed_text f t)) × (text' ≡ printed_text f t ++ drop (length (printed_text f t)) text) × PlayedText f t out second (refusal_of (play_text_judged f t)) out' second'
printed_is f t out second out' second' xs text r text' a y p =
    (p.0 ∙ ap (λ l. length (level_lines l)) (sym y), p.1 ∙ ap (λ l. level_lines l ++ drop (length (level_lines l)) text) (sym y), a)

-- what the answer has left, under the number of the file and the text
left_as : {f t : List ℕ} {out second out' second' : List ℤ} {k : ℕ} → PlayedText f t out second k out' second'
    → PlayedText f t out second (refusal_of (play_text_judged f t)) out' second'
left_as {f} {t} {out} {second} {out'} {second'} a = subst (λ n. PlayedText f t out second n out' second') a.filled.number a

-- ---- an accepted answer has an accepted text
first-none : (js ks : Judged) → Every (λ j. T (ltb 0 j.1)) js → refusal_of (js ++ ks) ≡ 0 → refusal_of js ≡ 0
first-none js ks p e = go (eqb (refusal_of js) 0) refl (sym (judged-append js ks p) ∙ e)
  where
    go : (t : Bool) → eqb (refusal_of js) 0 ≡ t → cond t (refusal_of ks) (refusal_of js) ≡ 0 → refusal_of js ≡ 0
    go true q h = eqb-true (refusal_of js) 0 q
    go false q h = h

then_none : (js ks : Judged) → Every (λ j. T (ltb 0 j.1)) js → refusal_of (js ++ ks) ≡ 0 → refusal_of ks ≡ 0
then_none js ks p e = go (eqb (refusal_of js) 0) refl (sym (judged-append js ks p) ∙ e)
  where
    go : (t : Bool) → eqb (refusal_of js) 0 ≡ t → cond t (refusal_of ks) (refusal_of js) ≡ 0 → refusal_of ks ≡ 0
    go true q h = h
    go false q h = absurd (eqb-false (refusal_of js) 0 q h)

text_accepted : (f t : List ℕ) → refusal_of (play_text_judged f t) ≡ 0 → refusal_of (text_judged t) ≡ 0
text_accepted f t e =
    first-none (text_judged t) (rest_judged (recipe_steps f) t) (tt, (tt, tt)) (then_none (file_judged f) (text_judged t ++ rest_judged (recipe_steps f) t) (tt, (tt, (tt, tt))) e)

-- ---- the returns
module _ (f : List ℕ) (s : TextState) (l' : List ℕ) (v' out second out' second' : List ℤ) (text : List ℕ) {k : ℕ} (A : PlayedFrom f (machine s l' v') out second k out' second') where
  pub printed_number : (k ≡ 0 → ⊥) → {r : ℕ} {text' : List ℕ} → r ≡ lines_count (pos k ∷ []) text → text' ≡ lines_in (pos k ∷ []) text
      → PrintedFrom f (machine s l' v') out second text r out' second' text'
  printed_number h {r} {text'} p q = record {
    texts = λ t l v a b c d w e.
        printed_is f t out second out' second' (pos k ∷ []) text r text' (left_as (A.texts t l v a b c d e))
        (ap (λ n. shown_levels n (played_text f t)) (sym (A.texts t l v a b c d e).filled.number) ∙ cond_no (eqb k 0) (played_text f t) (pos k ∷ []) (ne_eqb k 0 h))
        (lines_there (pos k ∷ []) text r text' (omega arith) w p q);
  }

  module _ (z : k ≡ 0) where
    module _ (t l : List ℕ) (v : List ℤ) (a : 3 ≤ length l) (b : most_cells ≤ length v) (c : most_cells ≤ length out) (d : most_cells ≤ length second)
        (e : machine s l' v' ≡ fed (machine start_state l v) (t ++ 10 ∷ [])) where
      accepted : refusal_of (play_text_judged f t) ≡ 0
      accepted = sym (A.texts t l v a b c d e).filled.number ∙ z

      none : refusal_of (text_judged t) ≡ 0
      none = text_accepted f t accepted

      out_is : out' ≡ at_front (played_text f t) out
      out_is = (A.texts t l v a b c d e).filled.cells ∙ cond_yes (eqb k 0) (at_front (played_text f t) out) out (eq-eqb k 0 z)

      cells_is : s.shape.cells ≡ length (played_text f t)
      cells_is = cells-played f t l v s l' v' e a b none

      there : s.shape.cells ≤ length out'
      there = omega (arith, cells_is, ap length out_is, length-append (played_text f t) (drop (length (played_text f t)) out))

      front_is : take s.shape.cells out' ≡ played_text f t
      front_is = ap (take s.shape.cells) out_is ∙ take_at (played_text f t) (drop (length (played_text f t)) out) s.shape.cells (sym cells_is)

      shown_is : shown_levels (refusal_of (play_text_judged f t)) (played_text f t) ≡ take s.shape.cells out'
      shown_is = cond_yes (eqb (refusal_of (play_text_judged f t)) 0) (played_text f t) (pos (refusal_of (play_text_judged f t)) ∷ []) (eq-eqb (refusal_of (play_text_judged f t)) 0 accepted) ∙ sym front_is

      few : length (take s.shape.cells out') ≤ most_cells
      few = omega (arith, ap length front_is, played_count f t l v s l' v' e a b none, no_more (text_words t) none)

    pub printed_short : length out' < s.shape.cells → PrintedFrom f (machine s l' v') out second text 0 out' second' text
    printed_short h = record { texts = λ t l v a b c d w e. absurd (clash (there t l v a b c d e)) }
      where
        clash : s.shape.cells ≤ length out' → ⊥
        clash g = omega arith

    pub printed_levels : {r : ℕ} {text' : List ℕ} → r ≡ lines_count (take s.shape.cells out') text → text' ≡ lines_in (take s.shape.cells out') text
        → PrintedFrom f (machine s l' v') out second text r out' second' text'
    printed_levels {r} {text'} p q = record {
      texts = λ t l v a b c d w e.
          printed_is f t out second out' second' (take s.shape.cells out') text r text' (left_as (A.texts t l v a b c d e)) (shown_is t l v a b c d e)
          (lines_there (take s.shape.cells out') text r text' (few t l v a b c d e) w p q);
    }
