-- number r      the number of the reason r, 1 to 34
-- origin r      where the reason r comes from
-- reasons       the reasons in the order of their numbers
-- count_up m n  the n numbers from m on
-- denied n p    the denial with the number n at the place p
use Rattle.std.specs.Prelude.{ℕ, zero, suc, ◌-◌, Bool, false, cond, ◌||◌, List, [], ◌∷◌, ◌==◌, nat_le, slice_index_or}
use Rattle.denials.specs.declared.denial.Reason.{Reason}
use Rattle.denials.specs.declared.denial.Reason.TheVariants.{UnknownForm, BadOperand, TableFull, UnknownStanding, RowNotNamed, SerialZero, SerialBarred, SerialLive, NoFreePlace, SlipOpen, NotLive, EightSlipsOpen, NumbersSpent, NoMark, WrongVersion, WrongKind, RequestNotNamed, CountOutOfRange, WrongLength, AlreadyComplete, UnknownCode, NoSuchOperand, NoLiveEntry, NeedsDoNotFit, NoPlace, BranchOpen, TooManyAtoms, NoSuchWorld, WorkTableShort, EntryNotNamed, EntryFails, RequestHolds, NoSuchSlip, SheetFull}
use Rattle.denials.specs.declared.denial.Origin.{Origin}
use Rattle.denials.specs.declared.denial.Origin.TheVariants.{Gate, Book, File, Line}
use Rattle.denials.specs.declared.denial.Denial.{Denial}

abbrev pub number : Reason → ℕ
number UnknownForm = 1
number BadOperand = 2
number TableFull = 3
number UnknownStanding = 4
number RowNotNamed = 5
number SerialZero = 6
number SerialBarred = 7
number SerialLive = 8
number NoFreePlace = 9
number SlipOpen = 10
number NotLive = 11
number EightSlipsOpen = 12
number NumbersSpent = 13
number NoMark = 14
number WrongVersion = 15
number WrongKind = 16
number RequestNotNamed = 17
number CountOutOfRange = 18
number WrongLength = 19
number AlreadyComplete = 20
number UnknownCode = 21
number NoSuchOperand = 22
number NoLiveEntry = 23
number NeedsDoNotFit = 24
number NoPlace = 25
number BranchOpen = 26
number TooManyAtoms = 27
number NoSuchWorld = 28
number WorkTableShort = 29
number EntryNotNamed = 30
number EntryFails = 31
number RequestHolds = 32
number NoSuchSlip = 33
number SheetFull = 34

abbrev pub count_up : ℕ → ℕ → List ℕ
count_up m zero = []
count_up m (suc n) = m ∷ count_up (suc m) n

abbrev pub reasons : List Reason
reasons =
    UnknownForm ∷ BadOperand ∷ TableFull ∷ UnknownStanding ∷ RowNotNamed ∷ SerialZero ∷ SerialBarred ∷ SerialLive ∷ NoFreePlace ∷ SlipOpen ∷ NotLive ∷ EightSlipsOpen ∷ NumbersSpent ∷ NoMark ∷ WrongVersion ∷ WrongKind ∷ RequestNotNamed ∷ CountOutOfRange ∷ WrongLength ∷ AlreadyComplete ∷ UnknownCode ∷ NoSuchOperand ∷ NoLiveEntry ∷ NeedsDoNotFit ∷ NoPlace ∷ BranchOpen ∷ TooManyAtoms ∷ NoSuchWorld ∷ WorkTableShort ∷ EntryNotNamed ∷ EntryFails ∷ RequestHolds ∷ NoSuchSlip ∷ SheetFull ∷ []

abbrev pub within : ℕ → ℕ → ℕ → Bool
within low high n = cond (nat_le low n) (nat_le n high) false

-- 6 to 9, 11, 30, 31 and 34 come from the book; 14 to 19, 27 and 28 from the file; 20 to 26 from a line; the others from the gate
abbrev pub origin_numbered : ℕ → Origin
origin_numbered n =
    cond (within 6 9 n || (n == 11 || (within 30 31 n || n == 34))) Book
    (cond (within 14 19 n || within 27 28 n) File
    (cond (within 20 26 n) Line Gate))

abbrev pub origin : Reason → Origin
origin r = origin_numbered (number r)

abbrev pub denied : ℕ → ℕ → Denial
denied n p = record { reason = slice_index_or reasons (n - 1) UnknownForm; place = p }
