use Rattle.std.proofs.Common.{◌≡◌, ◌<◌, true, ◌∷◌, length, get_or, length-drop, take, drop, sym, ◌+◌, ◌-◌, ap, ◌∙◌, arith}
use Rattle.std.proofs.lemmas.Bool.Decides.{nat_tests}
use Rattle.std.proofs.lemmas.List.{drop-drop, get_or-drop, get_or_default, length-take-le}
use Rattle.std.proofs.lemmas.Slice.{between_to_end}
use Rattle.std.specs.List.{between}
use Rattle.script.specs.Items.{in_word, items, word}
use Rattle.script.proofs.Lines.{at-word, past_first, plain_byte}
use Rattle.script.proofs.reader.Reader.item.Goals as goal

pub returns-in_default-from-clause-ahead : goal.returns-in_default-from-clause-ahead
returns-in_default-from-clause-ahead c =
    let l = c.args.self.now.line.now in
    let from = c.args.self.now.pos in
    let n = c.word_length.result in
    let e = c.word_length.ensures in
    let found = c.in-Some.ensures.lookup in
    let some : from < length l = grind (arith, nat_tests, found.0) in
    let bs = between from (length l) l in
    let all : bs ≡ drop from l = between_to_end l from (length l) (omega arith) in
    let long : length bs ≡ length l - from = ap length all ∙ length-drop from l in
    let byte : get_or bs 0 0 ≡ c.from.result = ap (λ us. get_or us 0 0) all ∙ get_or-drop from l 0 0 ∙ ap (λ k. get_or l k 0) (omega arith) ∙ get_or_default l from 0 c.in-Some.byte.now some ∙ sym (c.from.ensures ∙ found.1) in
    let plain : in_word c.from.result ≡ true = plain_byte c.from.result (omega arith) (omega arith) (omega arith) in
    let width = length-take-le n bs e.within in
    let behind : drop n bs ≡ drop (from + length (take n bs)) l = ap (drop n) all ∙ drop-drop n from l ∙ ap (λ k. drop (from + k) l) (sym width) in
    ap items (sym all) ∙ at-word bs n (past_first bs 0 n (omega arith) (ap in_word byte ∙ plain) (omega arith) e.stops) e.within e.inside e.stops ∙ ap (λ us. word (take n bs) ∷ items us) behind
