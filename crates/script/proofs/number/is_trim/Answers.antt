use Rattle.std.proofs.Common.{◌≡◌, get_or, arith}
use Rattle.std.proofs.lemmas.Bool.Decides.{nat_tests}
use Rattle.script.proofs.Numerals.{no_number}
use Rattle.script.proofs.number.is_trim.Goals as goal

pub returns-in-empty-clause-refused : goal.returns-in-empty-clause-refused
returns-in-empty-clause-refused c = λ _. no_number c.args.bytes.now (λ p. omega (arith, p.trim.some, c.in-empty.len_below))

pub returns-then-bytes-le-MOST_DIGITS-clause-refused : goal.returns-then-bytes-le-MOST_DIGITS-clause-refused
returns-then-bytes-le-MOST_DIGITS-clause-refused c = λ e. no_number c.args.bytes.now (λ p. let zero : get_or c.args.bytes.now 0 0 ≡ 48 = grind (arith, nat_tests) in omega (arith, p.trim.lead zero))

pub returns-else-bytes-le-MOST_DIGITS-clause-refused : goal.returns-else-bytes-le-MOST_DIGITS-clause-refused
returns-else-bytes-le-MOST_DIGITS-clause-refused c = λ _. no_number c.args.bytes.now (λ p. omega (arith, p.trim.short))
