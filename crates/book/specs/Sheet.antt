-- sheet_list t             the serials on the sheet t, in the order in which they were added
-- sheet_add_number xs s    0 if s can be added, or the number of the denial
-- sheet_add_answer xs s    what adding s answers
-- sheet_add_after xs s     the serials on the sheet after adding s
use Rattle.std.specs.Prelude.{ℕ, cond, List, [], ◌∷◌, ◌++◌, length, take, Result, ◌==◌, nat_le}
use Rattle.denials.specs.declared.denial.Denial.{Denial}
use Rattle.book.specs.declared.sheet.Sheet.{Sheet}
use Rattle.book.specs.Meaning.{answered}
use Rattle.book.specs.Serials.{on}

abbrev pub sheet_list : Sheet → List ℕ
sheet_list t = take t.count t.serials

abbrev pub sheet_add_number : List ℕ → ℕ → ℕ
sheet_add_number xs s =
    cond (s == 0) 6
    (cond (on xs s) 0
    (cond (nat_le 64 (length xs)) 34 0))

abbrev pub sheet_add_answer : List ℕ → ℕ → Result (Unit {0}) Denial
sheet_add_answer xs s = answered (sheet_add_number xs s) 0

abbrev pub sheet_add_after : List ℕ → ℕ → List ℕ
sheet_add_after xs s =
    cond (s == 0) xs
    (cond (on xs s) xs
    (cond (nat_le 64 (length xs)) xs (xs ++ (s ∷ []))))
