use Rattle.std.proofs.Common.{rules, codes, sym, ap, arith}
use Rattle.std.proofs.lemmas.Slice.Eq.{text_from_reads}
use Rattle.script.specs.Words.{form_of}
use Rattle.script.proofs.words.FormNameWord.of_word.Goals as goal

pub returns-in-cancel : goal.returns-in-cancel
returns-in-cancel c = sym (ap form_of (text_from_reads c.args.bytes.now (codes "cancel") (omega arith) (search rules)))
