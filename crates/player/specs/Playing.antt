-- What a script prints.
use Rattle.std.specs.Prelude.{ℕ, cond, List, [], ◌∷◌, ◌++◌, length, None, Option, nat_lt}
use Rattle.script.specs.declared.fault.Fault.TheVariants.{InputTooLong}
use Rattle.script.specs.Judged.{reading}
use Rattle.printing.specs.declared.answer.Answer.TheVariants.{Bad}
use Rattle.printing.specs.Printed.{answer_line}
use Rattle.player.specs.Answers.{Manning, line_answer, line_after}
use Rattle.player.specs.Lines.{lines}

-- one printed line for each line of the script, each played to the bench that the lines before it left
unfoldable pub played_on : Option Manning → List (List ℕ) → List ℕ
played_on b [] = []
played_on b (l ∷ ls) = answer_line (line_answer b (reading l)) ++ played_on (line_after b (reading l)) ls

-- a script of more than 65,536 bytes is not played
abbrev pub played : List ℕ → List ℕ
played script = cond (nat_lt 65536 (length script)) (answer_line (Bad InputTooLong)) (played_on None (lines script))
