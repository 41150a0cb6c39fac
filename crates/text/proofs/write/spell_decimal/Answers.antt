-- `spell_decimal` meets its contract, as `spell` does, two digits a turn and then the one that may be left. The measure is the digits that are left.
use mathlib.Core.Path.{◌∙◌}
use borrow.Author.Rules.{rules}
use Rattle.text_spec.proofs.Digits.{spell_two}
use Rattle.text.proofs.write.spell_decimal.Goals as goal

pub loop-i-preserved : goal.loop-i-preserved
loop-i-preserved c =
    let o = c in (
      search rules,
      search rules,
      rw (c.glyph.ensures, c.glyph-in-loop-i.ensures)
          (spell_two o.loop-i.i o.loop-i.rest o.loop-i.out c.loop-i-test.true (search rules) ∙ o.loop-i.invariant.2),
    )
