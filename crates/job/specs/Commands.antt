-- What a line says: nothing, a command, or why it cannot be read.
--
-- Said                 a command as a value: the deed, and its numbers
-- Heard                what a line is read as
-- saying k ws          the command of keyword k with the words ws
-- spoken ws            what the words ws are read as
-- reading line         what the line is read as
-- asked d, said c      the value of a `Deed`, of a `Command`
-- meant r, heard o     the value of a command that was read, and of what `read_line` gives
use Rattle.std.specs.Prelude.{ℕ, cond, List, [], ◌∷◌, Some, None, Ok, Err, Option, Result, ◌==◌}
use Rattle.job.specs.declared.command.Command.{Command}
use Rattle.job.specs.declared.command.Command.TheVariants as commands
use Rattle.job.specs.declared.command.Deed.{Deed}
use Rattle.job.specs.declared.command.Deed.TheVariants as deeds
use Rattle.job.specs.declared.keyword.Keyword.{Keyword}
use Rattle.job.specs.declared.keyword.Keyword.TheVariants.{Open, At, Principal, Statement, File, Strike, Book}
use Rattle.job.specs.declared.unreadable.Unreadable.{Unreadable}
use Rattle.job.specs.declared.unreadable.Unreadable.TheVariants.{UnknownCommand}
use Rattle.job.specs.Books.{Floor, Held, sheets, floor_of, held_in, layers, floor, entries}
use Rattle.job.specs.Keywords.{keyword}
use Rattle.job.specs.Limits.{gate_limit, code_limit, small_limit}
use Rattle.job.specs.Operands.{Triple, triple, on, leading_number, closed, one, three}
use Rattle.job.specs.Words.{words}

pub data Said : Type 0 where
  opens : ℕ → List (List ℕ) → Floor → List Held → Said
  turns : ℕ → Said
  principal : ℕ → ℕ → ℕ → Said
  statement : ℕ → ℕ → ℕ → Said
  files : ℕ → ℕ → ℕ → Said
  strikes : ℕ → Said
  lists : Said

pub data Heard : Type 0 where
  silent : Heard
  unreadable : Unreadable → Heard
  command : Said → Heard

abbrev pub told : (ℕ → Said) → Result ℕ Unreadable → Result Said Unreadable
told f (Ok n) = Ok (f n)
told f (Err e) = Err e

abbrev pub told_three : (ℕ → ℕ → ℕ → Said) → Result Triple Unreadable → Result Said Unreadable
told_three f (Ok (triple x y z)) = Ok (f x y z)
told_three f (Err e) = Err e

abbrev pub told_held : (List Held → Said) → Result (List Held) Unreadable → Result Said Unreadable
told_held f (Ok hs) = Ok (f hs)
told_held f (Err e) = Err e

abbrev pub opening : List (List ℕ) → Result Said Unreadable
opening ws = on (leading_number gate_limit ws) (λ gate gs. on (layers gs) (λ over ls. on (floor ls) (λ base fs. told_held (opens gate over base) (entries fs))))

abbrev pub saying : Keyword → List (List ℕ) → Result Said Unreadable
saying Open ws = opening ws
saying At ws = told turns (one gate_limit ws)
saying Principal ws = told_three principal (three code_limit small_limit small_limit ws)
saying Statement ws = told_three statement (three code_limit small_limit small_limit ws)
saying File ws = told_three files (three small_limit code_limit small_limit ws)
saying Strike ws = told strikes (one small_limit ws)
saying Book ws = closed lists ws

abbrev pub answered : Result Said Unreadable → Heard
answered (Ok c) = command c
answered (Err e) = unreadable e

abbrev pub spoken_by : Option Keyword → List (List ℕ) → Heard
spoken_by (Some k) ws = answered (saying k ws)
spoken_by None ws = unreadable UnknownCommand

abbrev pub spoken : List (List ℕ) → Heard
spoken [] = silent
spoken (w ∷ ws) = spoken_by (keyword w) ws

-- a line whose first byte is '#' says nothing
abbrev pub reading : List ℕ → Heard
reading [] = silent
reading (b ∷ bs) = cond (b == 35) silent (spoken (words (b ∷ bs)))

abbrev pub asked : Deed → Said
asked (deeds.Principal n) = principal n.form n.x n.y
asked (deeds.Statement n) = statement n.form n.x n.y
asked (deeds.File s t r) = files s t r
asked (deeds.Strike s) = strikes s
asked deeds.List = lists

abbrev pub said : Command → Said
said (commands.At g) = turns g
said (commands.Open o) = opens o.gate (sheets o.layers) (floor_of o.ground) (held_in (words o.entries.now))
said (commands.Deed d) = asked d

abbrev pub meant : Result Command Unreadable → Result Said Unreadable
meant (Ok c) = Ok (said c)
meant (Err e) = Err e

abbrev pub heard : Option (Result Command Unreadable) → Heard
heard None = silent
heard (Some r) = answered (meant r)
