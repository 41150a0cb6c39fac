-- A text fed byte by byte: the words that ended, and the bytes of the word that did not.
-- Assumes nothing.
use Prim.Native.Nat.{ℕ}
use mathlib.Core.Path.{◌≡◌, refl, sym, ap, ◌∙◌}
use mathlib.Core.Bool.{Bool, true, false, cond}
use mathlib.Core.List.{List, [], ◌∷◌, ◌++◌, append_assoc, append-nil}
use lib.IntN.{ℤ}
use Rattle.numbers.specs.Refusal.{refusal_of}
use Rattle.grid_text_spec.specs.declared.TextState.{TextState}
use Rattle.grid_text_spec.specs.Words.{gap_byte, on_first, pieces, filled_pieces, text_words, words_judged, text_judged}
use Rattle.grid_text_spec.specs.Machine.{empty_word, is_empty, next_byte, word_end, start_state, state_after, Machine, machine, byte_fed, fed, shape_judged, finish_of}
use Rattle.grid_text_spec.proofs.Summary.{word_of, filled_word, word_more}
use Rattle.grid_text_spec.proofs.Shapes.{shape_of, shape-none, shape-more}
use Rattle.grid_text_spec.proofs.Verdict.{verdict}

abbrev pub state_of : List (List ℕ) → List ℕ → TextState
state_of ws w = record { word = word_of w; shape = shape_of ws }

-- ---- the state alone
abbrev pub walked : TextState → List ℕ → TextState
walked s [] = s
walked s (x ∷ t) = walked (state_after s x) t

one : (m : Machine) (x : ℕ) → (byte_fed m x).state ≡ state_after m.state x
unfolding byte_fed
one m x = refl

pub fed_state : (m : Machine) (t : List ℕ) → (fed m t).state ≡ walked m.state t
fed_state m [] = refl
fed_state m (x ∷ t) = fed_state (byte_fed m x) t ∙ ap (λ s. walked s t) (one m x)

-- ---- one byte
pub gap_empty : (ws : List (List ℕ)) (x : ℕ) → gap_byte x ≡ true → state_after (state_of ws []) x ≡ state_of ws []
unfolding state_after
gap_empty ws x e = ap (λ t. cond t (state_of ws []) (record { word = next_byte (word_of []) x; shape = shape_of ws })) e

pub gap_word : (ws : List (List ℕ)) (y : ℕ) (v : List ℕ) (x : ℕ) → gap_byte x ≡ true → state_after (state_of ws (y ∷ v)) x ≡ state_of (ws ++ (y ∷ v) ∷ []) []
unfolding state_after
gap_word ws y v x e =
    ap (λ t. cond t
    (cond (is_empty (word_of (y ∷ v))) (state_of ws (y ∷ v)) (record { word = empty_word; shape = word_end (shape_of ws) (word_of (y ∷ v)) }))
    (record { word = next_byte (word_of (y ∷ v)) x; shape = shape_of ws })) e
    ∙ ap (λ t. cond t (state_of ws (y ∷ v)) (record { word = empty_word; shape = word_end (shape_of ws) (word_of (y ∷ v)) })) (filled_word y v)
    ∙ ap (λ s. record { word = empty_word; shape = s }) (shape-more ws (y ∷ v))

pub byte_more : (ws : List (List ℕ)) (w : List ℕ) (x : ℕ) → gap_byte x ≡ false → state_after (state_of ws w) x ≡ state_of ws (w ++ x ∷ [])
unfolding state_after
byte_more ws w x e =
    ap (λ t. cond t
    (cond (is_empty (word_of w)) (state_of ws w) (record { word = empty_word; shape = word_end (shape_of ws) (word_of w) }))
    (record { word = next_byte (word_of w) x; shape = shape_of ws })) e
    ∙ ap (λ u. record { word = u; shape = shape_of ws }) (word_more w x)

-- ---- pieces
pub on_none : (t : List ℕ) → on_first [] (pieces t) ≡ pieces t
on_none [] = refl
on_none (x ∷ t) = go (gap_byte x)
  where
    kept : (ps : List (List ℕ)) → on_first [] (on_first (x ∷ []) ps) ≡ on_first (x ∷ []) ps
    kept [] = refl
    kept (p ∷ ps) = refl

    go : (u : Bool) → on_first [] (cond u ([] ∷ pieces t) (on_first (x ∷ []) (pieces t))) ≡ cond u ([] ∷ pieces t) (on_first (x ∷ []) (pieces t))
    go true = refl
    go false = kept (pieces t)

on_twice : (w : List ℕ) (x : ℕ) (ps : List (List ℕ)) → on_first w (on_first (x ∷ []) ps) ≡ on_first (w ++ x ∷ []) ps
on_twice w x [] = refl
on_twice w x (p ∷ ps) = ap (λ q. q ∷ ps) (sym (append_assoc w (x ∷ []) p))

-- ---- the words of what is left, after words that ended and a word that did not
abbrev pub words_left : List (List ℕ) → List ℕ → List ℕ → List (List ℕ)
words_left ws w t = ws ++ filled_pieces (on_first w (pieces t))

pub left_gap_empty : (ws : List (List ℕ)) (x : ℕ) (t : List ℕ) → gap_byte x ≡ true → words_left ws [] t ≡ words_left ws [] (x ∷ t)
left_gap_empty ws x t e =
    ap (λ ps. ws ++ filled_pieces ps) (on_none t)
    ∙ sym (ap (λ u. ws ++ filled_pieces (on_first [] (cond u ([] ∷ pieces t) (on_first (x ∷ []) (pieces t))))) e)

pub left_gap_word : (ws : List (List ℕ)) (y : ℕ) (v : List ℕ) (x : ℕ) (t : List ℕ) → gap_byte x ≡ true → words_left (ws ++ (y ∷ v) ∷ []) [] t ≡ words_left ws (y ∷ v) (x ∷ t)
left_gap_word ws y v x t e =
    ap (λ ps. (ws ++ (y ∷ v) ∷ []) ++ filled_pieces ps) (on_none t)
    ∙ append_assoc ws ((y ∷ v) ∷ []) (filled_pieces (pieces t))
    ∙ ap (λ q. ws ++ (y ∷ q) ∷ filled_pieces (pieces t)) (sym (append-nil v))
    ∙ sym (ap (λ u. ws ++ filled_pieces (on_first (y ∷ v) (cond u ([] ∷ pieces t) (on_first (x ∷ []) (pieces t))))) e)

pub left_byte : (ws : List (List ℕ)) (w : List ℕ) (x : ℕ) (t : List ℕ) → gap_byte x ≡ false → words_left ws (w ++ x ∷ []) t ≡ words_left ws w (x ∷ t)
left_byte ws w x t e =
    ap (λ ps. ws ++ filled_pieces ps) (sym (on_twice w x (pieces t)))
    ∙ sym (ap (λ u. ws ++ filled_pieces (on_first w (cond u ([] ∷ pieces t) (on_first (x ∷ []) (pieces t))))) e)

-- ---- the end of the text
ended : (ws : List (List ℕ)) (w : List ℕ) → finish_of (state_of ws w) ≡ refusal_of (words_judged (words_left ws w []))
unfolding finish_of
ended ws [] = verdict ws ∙ ap (λ l. refusal_of (words_judged l)) (sym (append-nil ws))
ended ws (y ∷ v) =
    ap (λ t. refusal_of (shape_judged (cond t (shape_of ws) (word_end (shape_of ws) (word_of (y ∷ v)))))) (filled_word y v)
    ∙ ap (λ s. refusal_of (shape_judged s)) (shape-more ws (y ∷ v))
    ∙ verdict (ws ++ (y ∷ v) ∷ [])
    ∙ ap (λ q. refusal_of (words_judged (ws ++ (y ∷ q) ∷ []))) (sym (append-nil v))

abbrev Walks : List ℕ → Type 0
Walks t = (ws : List (List ℕ)) (w : List ℕ) → finish_of (walked (state_of ws w) t) ≡ refusal_of (words_judged (words_left ws w t))

one_more_lem : (x : ℕ) (t : List ℕ) → Walks t → Walks (x ∷ t)
one_more_lem x t ih ws w = go (gap_byte x) refl w
  where
    go : (u : Bool) → gap_byte x ≡ u → (w : List ℕ) → finish_of (walked (state_after (state_of ws w) x) t) ≡ refusal_of (words_judged (words_left ws w (x ∷ t)))
    go true e [] =
        ap (λ s. finish_of (walked s t)) (gap_empty ws x e) ∙ ih ws [] ∙ ap (λ l. refusal_of (words_judged l)) (left_gap_empty ws x t e)
    go true e (y ∷ v) =
        ap (λ s. finish_of (walked s t)) (gap_word ws y v x e) ∙ ih (ws ++ (y ∷ v) ∷ []) [] ∙ ap (λ l. refusal_of (words_judged l)) (left_gap_word ws y v x t e)
    go false e w =
        ap (λ s. finish_of (walked s t)) (byte_more ws w x e) ∙ ih ws (w ++ x ∷ []) ∙ ap (λ l. refusal_of (words_judged l)) (left_byte ws w x t e)

walks : (t : List ℕ) → Walks t
walks [] = ended
walks (x ∷ t) = one_more_lem x t (walks t)

pub start_none : start_state ≡ state_of [] []
start_none = ap (λ s. record { word = empty_word; shape = s }) shape-none

pub text_number : (l : List ℕ) (v : List ℤ) (t : List ℕ) → finish_of (fed (machine start_state l v) t).state ≡ refusal_of (text_judged t)
text_number l v t =
    ap finish_of (fed_state (machine start_state l v) t)
    ∙ ap (λ s. finish_of (walked s t)) start_none
    ∙ walks t [] []
    ∙ ap (λ ps. refusal_of (words_judged (filled_pieces ps))) (on_none t)

-- ---- a line feed at the end changes no word
abbrev Closes : List ℕ → Type 0
Closes t = (ws : List (List ℕ)) (w : List ℕ) → words_left ws w (t ++ 10 ∷ []) ≡ words_left ws w t

closes_none : Closes []
closes_none ws [] = sym (left_gap_empty ws 10 [] refl)
closes_none ws (y ∷ v) =
    sym (left_gap_word ws y v 10 [] refl) ∙ append-nil (ws ++ (y ∷ v) ∷ []) ∙ ap (λ q. ws ++ (y ∷ q) ∷ []) (sym (append-nil v))

closes_more : (x : ℕ) (t : List ℕ) → Closes t → Closes (x ∷ t)
closes_more x t ih ws w = go (gap_byte x) refl w
  where
    go : (u : Bool) → gap_byte x ≡ u → (w : List ℕ) → words_left ws w (x ∷ (t ++ 10 ∷ [])) ≡ words_left ws w (x ∷ t)
    go true e [] = sym (left_gap_empty ws x (t ++ 10 ∷ []) e) ∙ ih ws [] ∙ left_gap_empty ws x t e
    go true e (y ∷ v) = sym (left_gap_word ws y v x (t ++ 10 ∷ []) e) ∙ ih (ws ++ (y ∷ v) ∷ []) [] ∙ left_gap_word ws y v x t e
    go false e w = sym (left_byte ws w x (t ++ 10 ∷ []) e) ∙ ih ws (w ++ x ∷ []) ∙ left_byte ws w x t e

closes : (t : List ℕ) → Closes t
closes [] = closes_none
closes (x ∷ t) = closes_more x t (closes t)

pub words_closed : (t : List ℕ) → text_words (t ++ 10 ∷ []) ≡ text_words t
words_closed t = sym (ap filled_pieces (on_none (t ++ 10 ∷ []))) ∙ closes t [] [] ∙ ap filled_pieces (on_none t)
