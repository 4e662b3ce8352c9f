-- OwnedSound xs size n      what an owned ledger keeps true of its 1,024 records: it uses the first size, and n are in use
-- OwnedBehind xs s ys t     it uses as many records as before, and those behind them are as they were
use Rattle.std.specs.Prelude.{◌≡◌, ℕ, ◌≤◌, List, length, slice_index_or, refl}
use Rattle.std.proofs.Common.{subst, sym, ◌∙◌}
use Rattle.book.specs.declared.entry.Entry.{Entry}
use Rattle.book.specs.Live.{blank}
use Rattle.records.specs.Records.{Kept}

pub record OwnedSound (xs : List Entry) (size n : ℕ) : Type 0 where
  pub places : length xs ≡ 1024
  pub kept : Kept xs size n

pub record OwnedBehind (xs : List Entry) (s : ℕ) (ys : List Entry) (t : ℕ) : Type 0 where
  pub size : t ≡ s
  pub records : (k : ℕ) → s ≤ k → slice_index_or ys k blank ≡ slice_index_or xs k blank

pub owned_still : (xs : List Entry) (s : ℕ) → OwnedBehind xs s xs s
owned_still xs s = record { size = refl; records = λ k le. refl }

pub owned_onward :
    (xs : List Entry) (s : ℕ) (ys : List Entry) (t : ℕ) (zs : List Entry) (u : ℕ) →
    OwnedBehind xs s ys t → OwnedBehind ys t zs u → OwnedBehind xs s zs u
owned_onward xs s ys t zs u a b = record {
  size = b.size ∙ a.size;
  records = λ k le. b.records k (subst (λ n. n ≤ k) (sym a.size) le) ∙ a.records k le;
}
