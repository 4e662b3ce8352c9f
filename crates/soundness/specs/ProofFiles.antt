-- Proof files: a head of kind 1, and then seven bytes for each line: a code, and the operands A, B and C of 16 bits.
--
-- line_at bytes i             the line number i, from 0
-- lines_from bytes i n        n lines from the line number i on
-- lines_passed lim g bytes r n   the row r, if n lines complete the proof of r; denied 25 at place 0 if the fact table cannot take the request, then 20 to 26
-- Reading                     what the head of a proof file says: the request's row, and how many lines there are
-- proof_read most named bytes    that, where so many rows are named and a proof may have so many lines; denied 14 to 19
-- walked lim g bytes          the request's row, if the file passes; or the first denial: 14 to 19 of the head, 25 at place 0 if the fact table cannot take the request, 20 to 26 of the lines
-- ProofFile most r ls bytes   the bytes are laid out as a proof of the statement row r by the lines ls, of which there are 1 to `most`
-- Keeps g ok most bytes r     the file keeps the rules: it is laid out as a proof of r, r is named, and its lines complete the proof; `ok` holds at the start and after each line
-- file_of r ls                the bytes of a proof of the statement row r by the lines ls
-- SameBytes                   two files of bytes that are laid out as a proof of the same request by the same lines are the same bytes
use Rattle.std.specs.Prelude.{◌≡◌, ℕ, zero, suc, ◌+◌, ◌*◌, ◌/◌, ◌%◌, ◌<◌, ◌≤◌, cond, List, [], ◌∷◌, ◌++◌, length, Some, Ok, Err, Result, nat_le}
use Rattle.std.specs.List.{slice_get, All}
use Rattle.denials.specs.declared.denial.Denial.{Denial}
use Rattle.denials.specs.Denials.{denied}
use Rattle.files.specs.Heads.{byte, number, head_read, request_named, count_within, long_as, Headed}
use Rattle.rules.specs.declared.line.Line.{Line}
use Rattle.rules.specs.Branches.{Progress, going, start}
use Rattle.soundness.specs.Given.{Given}
use Rattle.soundness.specs.Rules.{line, Completes}
use Rattle.soundness.specs.Walking.{Limits, further, lines_walked}

abbrev pub line_at : List ℕ → ℕ → Line
line_at bytes i =
    line (byte bytes (10 + 7 * i)) (number bytes (11 + 7 * i)) (number bytes (13 + 7 * i)) (number bytes (15 + 7 * i))

abbrev pub lines_from : List ℕ → ℕ → ℕ → List Line
lines_from bytes i zero = []
lines_from bytes i (suc n) = line_at bytes i ∷ lines_from bytes (i + 1) n

abbrev pub lines_passed : Limits → Given → List ℕ → ℕ → ℕ → Result ℕ Denial
lines_passed lim g bytes r n =
    cond (nat_le 1 lim.facts)
    (further (lines_walked lim g 0 (going (start r) []) (lines_from bytes 0 n)) (λ _. Ok r))
    (Err (denied 25 0))

pub record Reading : Type 0 where
  pub request : ℕ
  pub lines : ℕ

abbrev pub proof_read : ℕ → ℕ → List ℕ → Result Reading Denial
proof_read most named bytes =
    further (head_read (1 ∷ []) bytes) (λ h.
    further (request_named named h) (λ r.
    further (count_within most h) (λ n.
    further (long_as (10 + 7 * n) bytes) (λ _. Ok (record { request = r; lines = n })))))

abbrev pub walked : Limits → Given → List ℕ → Result ℕ Denial
walked lim g bytes =
    further (proof_read lim.lines (length g.rows.statements) bytes) (λ p. lines_passed lim g bytes p.request p.lines)

pub record ProofFile (most r : ℕ) (ls : List Line) (bytes : List ℕ) : Type 0 where
  pub headed : Headed 1 r (length ls) bytes
  pub some : 1 ≤ length ls
  pub few : length ls ≤ most
  pub long : length bytes ≡ 10 + 7 * length ls
  pub each : (i : ℕ) (l : Line) → slice_get ls i ≡ Some l → line_at bytes i ≡ l

pub record Keeps (g : Given) (ok : Progress → Type 0) (most : ℕ) (bytes : List ℕ) (r : ℕ) : Type 0 where
  pub lines : List Line
  pub laid_out : ProofFile most r lines bytes
  pub named : r < length g.rows.statements
  pub starts : ok (going (start r) [])
  pub completes : Completes g ok (going (start r) []) lines

abbrev pub two_bytes : ℕ → List ℕ
two_bytes n = n / 256 ∷ n % 256 ∷ []

abbrev pub bytes_of : List Line → List ℕ
bytes_of [] = []
bytes_of (l ∷ ls) = (l.code ∷ two_bytes l.a) ++ (two_bytes l.b ++ (two_bytes l.c ++ bytes_of ls))

abbrev pub file_of : ℕ → List Line → List ℕ
file_of r ls = (80 ∷ 77 ∷ 84 ∷ 0 ∷ 1 ∷ 1 ∷ []) ++ (two_bytes r ++ (two_bytes (length ls) ++ bytes_of ls))

abbrev pub SameBytes : Type 0
SameBytes =
    (most r : ℕ) (ls : List Line) (xs ys : List ℕ) → All (λ x. x < 256) xs → All (λ y. y < 256) ys →
    ProofFile most r ls xs → ProofFile most r ls ys → xs ≡ ys
