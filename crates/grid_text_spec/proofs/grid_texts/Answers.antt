-- `grid_texts` meets its contract by the laws of these names.
use mathlib.Core.Path.{ap, ◌∙◌}
use Rattle.grid_text_spec.specs.Words.{text_words}
use Rattle.grid_text_spec.specs.declared.TextShape.{TextShape}
use Rattle.grid_text_spec.proofs.Bytes.{fed-append}
use Rattle.grid_text_spec.proofs.Lexed.{text_number, words_closed}
use Rattle.grid_text_spec.proofs.Grids.{text_grid, lengths_count, levels_count}
use Rattle.grid_text_spec.proofs.Shaped.{shape_good, cells_whole}
use Rattle.grid_text_spec.proofs.grid_texts.Goals as goal

pub returns : goal.returns
returns c =
    record {
      any_cut = fed-append;
      number = text_number;
      closed = words_closed;
      lengths = λ l v t a b z. (text_grid l v t a b z).0;
      levels = λ l v t a b z. (text_grid l v t a b z).1;
      axes_kept = λ l v t a b z. ap (λ (s : TextShape). s.axes) (text_grid l v t a b z).2;
      cells-kept = λ l v t a b z. ap (λ (s : TextShape). s.cells) (text_grid l v t a b z).2 ∙ cells_whole (text_words t) z;
      axes = λ t z. lengths_count (text_words t) z;
      shape = λ t z. shape_good (text_words t) z;
      cells = λ t z. levels_count (text_words t) z;
    }
