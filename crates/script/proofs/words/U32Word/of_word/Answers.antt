use Rattle.script.proofs.Numerals.{number_is}
use Rattle.script.proofs.words.U32Word.of_word.Goals as goal

pub returns : goal.returns
returns c = number_is c.args.bytes.now c.number.result c.number.ensures
