-- The answer, return by return: the file's number, the text's, and what the player leaves in the front of what is lent.
-- Assumes nothing.
use Prim.Native.Nat.{ℕ, ◌≤◌}
use mathlib.Core.Path.{◌≡◌, refl, sym, ap, ◌∙◌}
use mathlib.Core.Bool.{Bool, true, false, not, ◌||◌, cond, true≢false}
use mathlib.Core.List.{List, [], ◌∷◌, ◌++◌}
use borrow.Author.Tests.{eq-eqb, ne_eqb}
use lib.Dec.{eqb, ltb}
use lib.IntN.{ℤ, pos}
use lib.ListN.{length, get_or, take, drop, replicate, take-append-drop, length-replicate}
use Rattle.numbers.specs.Limits.{most_cells}
use Rattle.numbers.specs.Lists.{any_of}
use Rattle.numbers.specs.Refusal.{Judged, refusal_of, left_in, ScratchAnswers}
use Rattle.numbers.proofs.Chain.{chain_stops, chain_goes, answers_refused}
use Rattle.array_spec.specs.Conditions.{bad_shape, grid_count, bad_length, bad_level, grid_judged}
use Rattle.array_spec.specs.Grid.{cell_count}
use Rattle.array_spec.proofs.Shapes.{count_accepted}
use Rattle.recipe_spec.specs.declared.Step.{Step}
use Rattle.recipe_spec.specs.Recipes.{file_judged}
use Rattle.recipe_spec.specs.Player.{played, recipe_steps, steps_judged, play_judged}
use Rattle.recipe_spec.proofs.Played.{length-played}
use Rattle.grid_text_spec.specs.declared.TextState.{TextState}
use Rattle.grid_text_spec.specs.Words.{text_words, text_lengths, text_levels, text_judged}
use Rattle.grid_text_spec.specs.Machine.{machine, start_state, fed, finish_of}
use Rattle.grid_text_spec.proofs.Grids.{levels_count}
use Rattle.grid_text_spec.proofs.Shaped.{shape_good}
use Rattle.play_text.specs.PlayText.{play_text_judged, played_text, at_front, PlayedText, PlayedFrom}
use Rattle.play_text.proofs.Fed.{number-fed, lengths_fed, levels-fed, cells-fed, room_there, lent_count}

-- ---- a part that comes back
put_back : (r n : ℕ) (x o o'' : List ℤ) → o'' ≡ left_in r x (take n o) → n ≡ length x → o'' ++ drop n o ≡ left_in r (at_front x o) o
put_back r n x o o'' e h = ap (λ w. w ++ drop n o) e ∙ go (eqb r 0) ∙ ap (λ k. left_in r (x ++ drop k o) o) h
  where
    go : (t : Bool) → cond t x (take n o) ++ drop n o ≡ cond t (x ++ drop n o) o
    go true = refl
    go false = take-append-drop n o

one_grid : (r : ℕ) (x y w : List ℤ) → w ∷ [] ≡ left_in r (x ∷ []) (y ∷ []) → w ≡ left_in r x y
one_grid r x y w e = ap (λ (ls : List (List ℤ)). get_or ls 0 []) e ∙ go (eqb r 0)
  where
    go : (t : Bool) → get_or (cond t (x ∷ []) (y ∷ [])) 0 [] ≡ cond t x y
    go true = refl
    go false = refl

-- a length that is the cell count of an accepted shape
length_good : (ns : List ℕ) (n : ℕ) → bad_shape ns ≡ false → n ≡ cell_count ns → bad_length ns n ≡ false
length_good ns n h e = ap not (eq-eqb n (grid_count ns) (e ∙ sym (count_accepted ns h)))

-- ---- a refused answer
refused : (f t : List ℕ) (out second : List ℤ) {r : ℕ} → r ≡ refusal_of (play_text_judged f t) → (r ≡ 0 → ⊥) → PlayedText f t out second r out second
refused f t out second {r} e h = record {
  filled = answers_refused (play_text_judged f t) (at_front (played_text f t) out) out r e h;
  cleared = rw (ne_eqb r 0 h) refl;
}

-- what is judged after the text
abbrev pub rest_judged : List Step → List ℕ → Judged
rest_judged ss t = (any_of bad_level (text_levels (text_words t)), 3) ∷ steps_judged (text_lengths (text_words t)) ss (text_levels (text_words t))

-- the file's number, where it is refused
file-number : (f t : List ℕ) {r : ℕ} → r ≡ refusal_of (file_judged f) → (r ≡ 0 → ⊥) → r ≡ refusal_of (play_text_judged f t)
file-number f t p h = chain_stops (file_judged f) (text_judged t ++ rest_judged (recipe_steps f) t) (tt, (tt, (tt, tt))) p h

-- the player's number, where the file and the text are accepted
player_number : (f t : List ℕ) → refusal_of (file_judged f) ≡ 0 → (z : refusal_of (text_judged t) ≡ 0)
    → refusal_of (play_judged f (text_lengths (text_words t)) (text_levels (text_words t)) (cell_count (text_lengths (text_words t))) (cell_count (text_lengths (text_words t)))) ≡ refusal_of (play_text_judged f t)
player_number f t y z =
    sym (chain_goes (file_judged f)
    (grid_judged (text_lengths (text_words t)) (text_levels (text_words t)) (cell_count (text_lengths (text_words t)) ∷ cell_count (text_lengths (text_words t)) ∷ [])
    ++ steps_judged (text_lengths (text_words t)) (recipe_steps f) (text_levels (text_words t))) (tt, (tt, (tt, tt))) refl y refl)
    ∙ (λ i. refusal_of ((good i, 1) ∷ (own i || (lent i || (lent i || false)), 2) ∷ rest_judged (recipe_steps f) t))
    ∙ chain_goes (text_judged t) (rest_judged (recipe_steps f) t) (tt, (tt, tt)) refl z refl
    ∙ chain_goes (file_judged f) (text_judged t ++ rest_judged (recipe_steps f) t) (tt, (tt, (tt, tt))) refl y refl
  where
    good : bad_shape (text_lengths (text_words t)) ≡ false
    good = shape_good (text_words t) z

    own : bad_length (text_lengths (text_words t)) (length (text_levels (text_words t))) ≡ false
    own = length_good (text_lengths (text_words t)) (length (text_levels (text_words t))) good (levels_count (text_words t) z)

    lent : bad_length (text_lengths (text_words t)) (cell_count (text_lengths (text_words t))) ≡ false
    lent = length_good (text_lengths (text_words t)) (cell_count (text_lengths (text_words t))) good refl

-- the machine keeps how many levels there are
module _ (f t l : List ℕ) (v : List ℤ) (s : TextState) (l' : List ℕ) (v' : List ℤ) (e : machine s l' v' ≡ fed (machine start_state l v) (t ++ 10 ∷ [])) (a : 3 ≤ length l)
    (b : most_cells ≤ length v) (z : refusal_of (text_judged t) ≡ 0) where
  pub played_count : length (played_text f t) ≡ cell_count (text_lengths (text_words t))
  played_count = length-played (text_lengths (text_words t)) _ (text_levels (text_words t)) ∙ levels_count (text_words t) z

  pub cells-played : s.shape.cells ≡ length (played_text f t)
  cells-played = cells-fed t l v s l' v' e a b z ∙ sym played_count

-- ---- the returns
module _ (f : List ℕ) (s : TextState) (l' : List ℕ) (v' out second : List ℤ) {r : ℕ} (p : r ≡ refusal_of (file_judged f)) where
  pub from_file : (r ≡ 0 → ⊥) → PlayedFrom f (machine s l' v') out second r out second
  from_file h = record { texts = λ t l v a b c d e. refused f t out second (file-number f t p h) h }

  module _ (z : r ≡ 0) {g : ℕ} (q : g ≡ finish_of s) where
    pub from_text : (g ≡ 0 → ⊥) → PlayedFrom f (machine s l' v') out second g out second
    from_text h = record {
      texts = λ t l v a b c d e.
          refused f t out second
          (chain_goes (file_judged f) (text_judged t ++ rest_judged (recipe_steps f) t) (tt, (tt, (tt, tt))) p z
          (chain_stops (text_judged t) (rest_judged (recipe_steps f) t) (tt, (tt, tt)) (q ∙ number-fed t l v s l' v' e) h)) h;
    }

    module _ (y : g ≡ 0) where
      pub from_room : ltb (length l') s.shape.axes || (ltb (length v') s.shape.cells || (ltb (length out) s.shape.cells || ltb (length second) s.shape.cells)) ≡ true
          → PlayedFrom f (machine s l' v') out second 2 out second
      from_room h = record {
        texts = λ t l v a b c d e. absurd (true≢false (sym h ∙ room_there t l v s l' v' e a b (sym (q ∙ number-fed t l v s l' v' e) ∙ y) out second c d));
      }

      module _ (out'' second'' : List ℤ) (k : ℕ)
          (P : ScratchAnswers (pos 0)
          (play_judged f (take s.shape.axes l') (take s.shape.cells v') (length (take s.shape.cells out)) (length (take s.shape.cells second)))
          (played (take s.shape.axes l') (recipe_steps f) (take s.shape.cells v')) (take s.shape.cells out) (take s.shape.cells second ∷ []) k out'' (second'' ∷ [])) where
        module _ (t l : List ℕ) (v : List ℤ) (a : 3 ≤ length l) (b : most_cells ≤ length v) (c : most_cells ≤ length out) (d : most_cells ≤ length second)
            (e : machine s l' v' ≡ fed (machine start_state l v) (t ++ 10 ∷ [])) where
          none : refusal_of (text_judged t) ≡ 0
          none = sym (q ∙ number-fed t l v s l' v' e) ∙ y

          ns_is : take s.shape.axes l' ≡ text_lengths (text_words t)
          ns_is = lengths_fed t l v s l' v' e a b none

          cs_is : take s.shape.cells v' ≡ text_levels (text_words t)
          cs_is = levels-fed t l v s l' v' e a b none

          cells_are : s.shape.cells ≡ length (played_text f t)
          cells_are = cells-played f t l v s l' v' e a b none

          number_is : k ≡ refusal_of (play_text_judged f t)
          number_is =
              P.filled.number
              ∙ (λ i. refusal_of (play_judged f (ns_is i) (cs_is i) (lent_count t l v s l' v' e a b none out c i) (lent_count t l v s l' v' e a b none second d i)))
              ∙ player_number f t (sym p ∙ z) none

          played_text_lem : PlayedText f t out second k (out'' ++ drop s.shape.cells out) (second'' ++ drop s.shape.cells second)
          played_text_lem = record {
            filled = record {
              number = number_is;
              cells =
                  put_back k s.shape.cells (played_text f t) out out''
                  (P.filled.cells ∙ (λ i. left_in k (played (ns_is i) (recipe_steps f) (cs_is i)) (take s.shape.cells out))) cells_are;
            };
            cleared =
                put_back k s.shape.cells (replicate (length (played_text f t)) (pos 0)) second second''
                (one_grid k _ _ second'' P.cleared
                ∙ ap (λ n. left_in k (replicate n (pos 0)) (take s.shape.cells second)) (lent_count t l v s l' v' e a b none second d ∙ sym (played_count f t l v s l' v' e a b none)))
                (cells_are ∙ sym (length-replicate (length (played_text f t)) (pos 0)));
          }

        pub from_play : PlayedFrom f (machine s l' v') out second k (out'' ++ drop s.shape.cells out) (second'' ++ drop s.shape.cells second)
        from_play = record { texts = played_text_lem }
