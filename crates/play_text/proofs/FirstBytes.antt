-- The first 119 bytes of a file decide: a longer file is refused, and so are these.
-- Assumes nothing.
use Prim.Native.Nat.{ℕ, ◌+◌, ◌*◌, ◌≤◌, ◌<◌}
use native.Mathlib.Omega.{arith}
use mathlib.Core.Path.{◌≡◌, refl, sym, ap, ◌∙◌}
use mathlib.Core.Bool.{Bool, true, false, not, ◌||◌, cond}
use mathlib.Core.List.{List, ◌++◌}
use borrow.Author.Tests.{ltb-true, ltb-false, le-ltb}
use lib.Dec.{eqb, ltb}
use lib.ListN.{length, get_or, take}
use lib.Seq.{take_all, get_or-take, length-take-le}
use Rattle.numbers.specs.Refusal.{refusal_of}
use Rattle.numbers.proofs.Chain.{judged-append}
use Rattle.recipe_spec.specs.Recipes.{bad_mark, bad_step_count, file_judged, Handed, read_of}
use Rattle.recipe_spec.specs.Player.{played, recipe_steps}
use Rattle.recipe_spec.proofs.Judge.{count_is}
use Rattle.recipe_spec.proofs.Read.{read_13, read_14}
use Rattle.grid_text_spec.specs.Words.{text_words, text_lengths, text_levels, text_judged}
use Rattle.play_text.specs.PlayText.{play_text_judged, played_text}
use Rattle.play_text.specs.First.{longest_file}
use Rattle.play_text.proofs.FromText.{rest_judged}

-- no count has so many bytes
long_count : (n len : ℕ) → longest_file < len → bad_step_count n len ≡ true
long_count n len h = go (bad_step_count n len) refl
  where
    clash : n ≤ 16 → len ≡ 6 + 7 * n → ⊥
    clash a b = omega arith

    go : (t : Bool) → bad_step_count n len ≡ t → bad_step_count n len ≡ true
    go true e = e
    go false e = let c = count_is n len e in absurd (clash c.1 c.2)

module _ (f : List ℕ) where
  module _ (h : longest_file + 1 < length f) where
    long : length (take (longest_file + 1) f) ≡ longest_file + 1
    long = length-take-le (longest_file + 1) f (omega arith)

    byte : (k : ℕ) → k < longest_file + 1 → get_or (take (longest_file + 1) f) k 0 ≡ get_or f k 0
    byte k b = get_or-take (longest_file + 1) f k 0 b

    same_length : ltb (length (take (longest_file + 1) f)) 6 ≡ ltb (length f) 6
    same_length = le-ltb (length (take (longest_file + 1) f)) 6 (omega (arith, long)) ∙ sym (le-ltb (length f) 6 (omega arith))

    same_mark : bad_mark (take (longest_file + 1) f) ≡ bad_mark f
    unfolding bad_mark
    same_mark =
        let p = byte 0 (omega arith) in
        let q = byte 1 (omega arith) in
        let r = byte 2 (omega arith) in
        let u = byte 3 (omega arith) in
        let w = byte 4 (omega arith) in
        (λ i. same_length i || not (eqb (p i) 76) || not (eqb (q i) 75) || not (eqb (r i) 83) || not (eqb (u i) 0) || not (eqb (w i) 1))

    both_refused : read_of (take (longest_file + 1) f) ≡ read_of f
    both_refused = go (bad_mark f) refl
      where
        go : (t : Bool) → bad_mark f ≡ t → read_of (take (longest_file + 1) f) ≡ read_of f
        go true e = sym (read_13 (take (longest_file + 1) f) (same_mark ∙ e)) ∙ read_13 f e
        go false e =
            sym (read_14 (take (longest_file + 1) f) (same_mark ∙ e) (long_count (get_or (take (longest_file + 1) f) 5 0) (length (take (longest_file + 1) f)) (omega (arith, long))))
            ∙ read_14 f e (long_count (get_or f 5 0) (length f) (omega arith))

  pub same_recipe : read_of (take (longest_file + 1) f) ≡ read_of f
  same_recipe = go (ltb (longest_file + 1) (length f)) refl
    where
      go : (t : Bool) → ltb (longest_file + 1) (length f) ≡ t → read_of (take (longest_file + 1) f) ≡ read_of f
      go true e = both_refused (ltb-true (longest_file + 1) (length f) e)
      go false e = ap read_of (take_all (longest_file + 1) f (ltb-false (longest_file + 1) (length f) e))

  same_file : refusal_of (file_judged (take (longest_file + 1) f)) ≡ refusal_of (file_judged f)
  same_file = ap (λ (r : Handed). r.number) same_recipe

  same_steps : recipe_steps (take (longest_file + 1) f) ≡ recipe_steps f
  same_steps = (λ i. take (same_recipe i).count (same_recipe i).steps)

  pub same_number : (t : List ℕ) → refusal_of (play_text_judged (take (longest_file + 1) f) t) ≡ refusal_of (play_text_judged f t)
  same_number t =
      judged-append (file_judged (take (longest_file + 1) f)) (text_judged t ++ rest_judged (recipe_steps (take (longest_file + 1) f)) t) (tt, (tt, (tt, tt)))
      ∙ (λ i. cond (eqb (same_file i) 0) (refusal_of (text_judged t ++ rest_judged (same_steps i) t)) (same_file i))
      ∙ sym (judged-append (file_judged f) (text_judged t ++ rest_judged (recipe_steps f) t) (tt, (tt, (tt, tt))))

  pub same_levels : (t : List ℕ) → played_text (take (longest_file + 1) f) t ≡ played_text f t
  same_levels t = ap (λ ss. played (text_lengths (text_words t)) ss (text_levels (text_words t))) same_steps
