-- The places of a trail.
--
-- capacity places          how many of the places count: the first 4,096, or all if there are fewer
-- Cleared blank xs m n ys   ys is xs with the places from m on, before n, blanked
-- AllBlank blank places    every place is blank, those that do not count too
-- Sound blank places len   what a trail keeps true of its places, the first `len` of which are in use: no more are in use than count, and all the others are blank
use Rattle.std.specs.Prelude.{◌≡◌, ℕ, ◌<◌, ◌≤◌, min, List, length, take, slice_index_or}

abbrev pub capacity : {T : Type 0} → List T → ℕ
capacity places = min 4096 (length places)

pub record Sound {T : Type 0} (blank : T) (places : List T) (len : ℕ) : Type 0 where
  pub fits : len ≤ capacity places
  pub rest : (k : ℕ) → len ≤ k → slice_index_or places k blank ≡ blank

abbrev pub AllBlank : {T : Type 0} → T → List T → Type 0
AllBlank blank places = (k : ℕ) → slice_index_or places k blank ≡ blank

pub record Cleared {T : Type 0} (blank : T) (before : List T) (m n : ℕ) (after : List T) : Type 0 where
  pub kept : take m after ≡ take m before
  pub blanked : (k : ℕ) → m ≤ k → k < n → slice_index_or after k blank ≡ blank
  pub behind : (k : ℕ) → n ≤ k → slice_index_or after k blank ≡ slice_index_or before k blank
