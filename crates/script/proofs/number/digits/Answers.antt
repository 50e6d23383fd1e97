use Rattle.std.proofs.Common.{arith}
use Rattle.std.proofs.lemmas.Str.Parse.{digit_at}
use Rattle.script.proofs.Numerals.{no_number, reads_more, reads_all, read_small}
use Rattle.script.proofs.number.digits.Goals as goal

pub returns-then-not-is_ascii_digit : goal.returns-then-not-is_ascii_digit
returns-then-not-is_ascii_digit c =
    no_number c.args.bytes.now (λ p. omega (arith, digit_at c.args.bytes.now c.loop-b.b-index p.digits c.loop-b-test.true, c.if-not-is_ascii_digit.ensures.cases))

pub overflow_mul-n : goal.overflow_mul-n
overflow_mul-n c = omega (arith, read_small c.loop-b.invariant (omega (arith, c.requires.short)) (omega arith))

pub overflow_add-n : goal.overflow_add-n
overflow_add-n c = omega (arith, read_small c.loop-b.invariant (omega (arith, c.requires.short)) (omega arith), c.if-not-is_ascii_digit.ensures.cases)

pub loop-b-preserved : goal.loop-b-preserved
loop-b-preserved c = reads_more c.loop-b.invariant c.loop-b-test.true c.if-not-is_ascii_digit.ensures.cases c.from.ensures

pub returns : goal.returns
returns c = reads_all c.loop-b.invariant c.loop-b-test.false c.requires
