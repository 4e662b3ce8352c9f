-- The ten bytes that every file begins with: the mark PMT, the version, the kind, the request's row and a count. Numbers stand highest byte first.
--
-- byte bytes i              the byte at the place i, from 0
-- number bytes i            the 16-bit number at the places i and i + 1
-- marked bytes              there are at least ten bytes, and the first three are the mark PMT
-- among kinds k             k is one of the kinds
-- head_at bytes             the kind, the request's row and the count that the ten bytes hold
-- head_read kinds bytes     the head, if the file is marked (else denied 14, byte 0), its version is 1 (15, byte 3) and its kind is one of `kinds` (16, byte 5)
-- request_named named h     the request's row, if it is among the first `named` rows (else denied 17, byte 6)
-- count_within limit h      the count, if it is 1 to `limit` (else denied 18, byte 8)
-- long_as n bytes           done, if there are n bytes in all (else denied 19, byte 10)
-- Headed kind r n bytes     the file begins with a head of this kind, request and count
-- HeadExactly               a head is read just where the file begins with a head of one of the kinds
use Rattle.std.specs.Prelude.{◌≡◌, ℕ, ◌+◌, ◌*◌, ◌≤◌, Bool, true, cond, ◌&&◌, List, length, Ok, Err, Result, ◌==◌, nat_le, nat_lt, slice_index}
use Rattle.std.specs.List.{list_any}
use Rattle.denials.specs.declared.denial.Denial.{Denial}
use Rattle.denials.specs.Denials.{denied}
use Rattle.files.specs.declared.head.Head.{Head}

abbrev pub byte : List ℕ → ℕ → ℕ
byte bytes i = slice_index bytes i

abbrev pub number : List ℕ → ℕ → ℕ
number bytes i = byte bytes i * 256 + byte bytes (i + 1)

abbrev pub marked : List ℕ → Bool
marked bytes = nat_le 10 (length bytes) && (byte bytes 0 == 80 && (byte bytes 1 == 77 && byte bytes 2 == 84))

abbrev pub among : List ℕ → ℕ → Bool
among kinds k = list_any (λ x. x == k) kinds

abbrev pub head_at : List ℕ → Head
head_at bytes = record { kind = byte bytes 5; request = number bytes 6; count = number bytes 8 }

abbrev pub head_read : List ℕ → List ℕ → Result Head Denial
head_read kinds bytes =
    cond (marked bytes)
    (cond (number bytes 3 == 1)
    (cond (among kinds (byte bytes 5)) (Ok (head_at bytes)) (Err (denied 16 5)))
    (Err (denied 15 3)))
    (Err (denied 14 0))

abbrev pub request_named : ℕ → Head → Result ℕ Denial
request_named named h = cond (nat_lt h.request named) (Ok h.request) (Err (denied 17 6))

abbrev pub count_within : ℕ → Head → Result ℕ Denial
count_within limit h = cond (nat_le 1 h.count && nat_le h.count limit) (Ok h.count) (Err (denied 18 8))

abbrev pub long_as : ℕ → List ℕ → Result (Unit {0}) Denial
long_as n bytes = cond (length bytes == n) (Ok tt) (Err (denied 19 10))

pub record Headed (kind request count : ℕ) (bytes : List ℕ) : Type 0 where
  pub long : 10 ≤ length bytes
  pub mark : (byte bytes 0 ≡ 80) × ((byte bytes 1 ≡ 77) × (byte bytes 2 ≡ 84))
  pub version : number bytes 3 ≡ 1
  pub kinds : byte bytes 5 ≡ kind
  pub requests : number bytes 6 ≡ request
  pub counts : number bytes 8 ≡ count

abbrev pub HeadExactly : Type 0
HeadExactly =
    (kinds bytes : List ℕ) (h : Head) →
    (head_read kinds bytes ≡ Ok h → (among kinds h.kind ≡ true) × Headed h.kind h.request h.count bytes) ×
    ((among kinds h.kind ≡ true) × Headed h.kind h.request h.count bytes → head_read kinds bytes ≡ Ok h)
