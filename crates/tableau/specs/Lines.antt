-- The lines of a proof file, cut out of its bytes.
--
-- line_of bytes      the line of these seven bytes
use Rattle.std.specs.Prelude.{ℕ, List}
use Rattle.files.specs.Heads.{byte, number}
use Rattle.rules.specs.declared.line.Line.{Line}
use Rattle.soundness.specs.Rules.{line}

abbrev pub line_of : List ℕ → Line
line_of bytes = line (byte bytes 0) (number bytes 1) (number bytes 3) (number bytes 5)
