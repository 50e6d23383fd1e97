use Rattle.std.proofs.Common.{rules, codes, sym, ap, arith}
use Rattle.std.proofs.lemmas.Slice.Eq.{text_from_reads}
use Rattle.script.specs.Words.{function_of}
use Rattle.script.proofs.words.FunctionWord.of_word.Goals as goal

pub returns-in-unknown : goal.returns-in-unknown
returns-in-unknown c = sym (ap function_of (text_from_reads c.args.bytes.now (codes "unknown") (omega arith) (search rules)))
