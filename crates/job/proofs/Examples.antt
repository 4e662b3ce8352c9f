-- A few lines, and what they are read as.
use Rattle.std.proofs.Common.{◌≡◌, [], ◌∷◌, codes, refl}
use Rattle.job.specs.declared.unreadable.Unreadable.TheVariants.{UnknownCommand, MissingWord, ExtraWord, BadNumber, BadBook, BadEntry}
use Rattle.job.specs.Books.{ledger, card, held}
use Rattle.job.specs.Commands.{silent, unreadable, command, opens, turns, principal, files, lists, reading}
use Rattle.job.specs.Lines.{lines}
use Rattle.job.specs.Words.{words}

two_lines : lines (codes "at 7\n\nbook\n") ≡ codes "at 7" ∷ [] ∷ codes "book" ∷ []
two_lines = refl

last_line : lines (codes "\nbook") ≡ [] ∷ codes "book" ∷ []
last_line = refl

two_words : words (codes "  strike   5 ") ≡ codes "strike" ∷ codes "5" ∷ []
two_words = refl

comment : reading (codes "# at 7") ≡ silent
comment = refl

spaces : reading (codes "   ") ≡ silent
spaces = refl

indented_comment : reading (codes " # at 7") ≡ unreadable UnknownCommand
indented_comment = refl

at_gate : reading (codes "at 004294967295") ≡ command (turns 4294967295)
at_gate = refl

at_too_large : reading (codes "at 4294967296") ≡ unreadable BadNumber
at_too_large = refl

names : reading (codes "principal 2 10 65535") ≡ command (principal 2 10 65535)
names = refl

form_too_large : reading (codes "statement 256 1 2") ≡ unreadable BadNumber
form_too_large = refl

filed : reading (codes "file  5 255 3") ≡ command (files 5 255 3)
filed = refl

signed : reading (codes "strike +5") ≡ unreadable BadNumber
signed = refl

short : reading (codes "strike") ≡ unreadable MissingWord
short = refl

long : reading (codes "book 1") ≡ unreadable ExtraWord
long = refl

listing : reading (codes " book ") ≡ command lists
listing = refl

opened : reading (codes "open 7 recall 5 9 over ledger 8 with 5:1:0 6:2:3") ≡ command (opens 7 ((5 ∷ 9 ∷ []) ∷ []) (ledger 8) (held 5 1 0 ∷ held 6 2 3 ∷ []))
opened = refl

opened_twice : reading (codes "open 7 recall over recall 1 over card") ≡ command (opens 7 ([] ∷ (1 ∷ []) ∷ []) card [])
opened_twice = refl

three_layers : reading (codes "open 7 recall over recall over recall over card") ≡ unreadable BadBook
three_layers = refl

no_entries : reading (codes "open 7 card with") ≡ unreadable MissingWord
no_entries = refl

bad_standing : reading (codes "open 7 card with 5:3:0") ≡ unreadable BadEntry
bad_standing = refl

two_parts : reading (codes "open 7 card with 5:1") ≡ unreadable BadEntry
two_parts = refl

four_parts : reading (codes "open 7 card with 5:1:0:") ≡ unreadable BadEntry
four_parts = refl

no_over : reading (codes "open 7 recall 5 card") ≡ unreadable BadNumber
no_over = refl
