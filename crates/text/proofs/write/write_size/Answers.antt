-- `write_size` meets its contract: 19 bytes hold as many digits as `places` counts.
use borrow.Author.Rules.{rules}
use Rattle.text_spec.proofs.Digits.{places_most}
use Rattle.text.proofs.write.write_size.Goals as goal

pub spell_decimal-requires : goal.spell_decimal-requires
spell_decimal-requires c = let m = places_most 18 c.args.n in search rules
