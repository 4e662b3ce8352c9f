-- ledger_size xs       how many of the records xs a ledger uses: the first 1,024, or all if there are fewer
-- LedgerSound xs n     what a ledger keeps true of its records, of which n are in use
-- ledger_live xs n     the live entries of a ledger
-- ledger_free xs n     its free places. It bars nothing
-- BlankFront xs        the records that a ledger uses are blank
-- Behind xs ys         the records behind the first 1,024 are in ys as they were in xs
-- SameBehind r s       r and s lend the same slice, of one length, and the records behind the first 1,024 are alike
use Rattle.std.specs.Prelude.{◌≡◌, ℕ, ◌-◌, ◌<◌, ◌≤◌, min, List, length, Option, slice_index_or, refl}
use Rattle.std.proofs.Common.{◌∙◌}
use Rattle.std.specs.Borrow.{MutBor}
use Rattle.book.specs.declared.entry.Entry.{Entry}
use Rattle.book.specs.Live.{Orderly, blank}
use Rattle.records.specs.Records.{held, Kept}
use Rattle.records.specs.Orderly.{kept_orderly}

abbrev pub ledger_size : List Entry → ℕ
ledger_size xs = min 1024 (length xs)

abbrev pub LedgerSound : List Entry → ℕ → Type 0
LedgerSound xs n = Kept xs (ledger_size xs) n

abbrev pub ledger_live : List Entry → ℕ → ℕ → Option Entry
ledger_live xs n = held xs n

abbrev pub ledger_free : List Entry → ℕ → ℕ
ledger_free xs n = ledger_size xs - n

pub ledger_orderly : (xs : List Entry) (n : ℕ) → LedgerSound xs n → Orderly (ledger_live xs n)
ledger_orderly xs n kept = kept_orderly xs (ledger_size xs) n kept

abbrev pub BlankFront : List Entry → Type 0
BlankFront xs = (k : ℕ) → k < ledger_size xs → slice_index_or xs k blank ≡ blank

abbrev pub Behind : List Entry → List Entry → Type 0
Behind xs ys = (k : ℕ) → 1024 ≤ k → slice_index_or ys k blank ≡ slice_index_or xs k blank

pub record SameBehind (r s : MutBor (List Entry)) : Type 0 where
  pub lender : s.ghost_name ≡ r.ghost_name
  pub size : length s.now ≡ length r.now
  pub records : Behind r.now s.now

pub behind_still : (r : MutBor (List Entry)) → SameBehind r r
behind_still r = record { lender = refl; size = refl; records = λ k le. refl }

pub behind_onward : (r s t : MutBor (List Entry)) → SameBehind r s → SameBehind s t → SameBehind r t
behind_onward r s t a b = record {
  lender = b.lender ∙ a.lender;
  size = b.size ∙ a.size;
  records = λ k le. b.records k le ∙ a.records k le;
}
