-- How a job is cut into lines. Each newline, 10, ends a line; the last line may lack it.
--
-- lines job      the lines of the job, in order, without their newlines
-- ended line     the line with its newline
-- Whole job      the lines, each with its newline, are the job, or the job with the newline that it lacks at its end
use Rattle.std.specs.Prelude.{◌≡◌, ℕ, ◌⊎◌, List, [], ◌∷◌, ◌++◌}
use Rattle.std.specs.List.{flat_map}
use Rattle.job.specs.Words.{split}

abbrev pub lines : List ℕ → List (List ℕ)
lines job = split 10 job

abbrev pub ended : List ℕ → List ℕ
ended line = line ++ (10 ∷ [])

abbrev pub Whole : List ℕ → Type 0
Whole job = (flat_map ended (lines job) ≡ job) ⊎ (flat_map ended (lines job) ≡ ended job)
