-- A file passes just when it keeps the rules within the limits.
use Rattle.std.proofs.Common.{◌≡◌, ℕ, zero, suc, ◌+◌, ◌*◌, ◌<◌, ◌≤◌, true, ◌&&◌, eqb, ltb, leb, List, [], ◌∷◌, length, Some, Ok, sym, refl, ap, ◌∙◌, subst, arith}
use Rattle.std.specs.List.{slice_get}
use Rattle.std.proofs.lemmas.Bool.{and_parts, and_from, leb-true, le-leb, ltb-true, lt-ltb, eqb-true, eq-eqb, cond-true}
use Rattle.std.proofs.lemmas.Bool.Decides.{nat_tests}
use Rattle.std.proofs.lemmas.Option.{same_Some}
use Rattle.denials.specs.Denials.{denied}
use Rattle.files.specs.declared.head.Head.{Head}
use Rattle.files.specs.Heads.{among, head_read, request_named, count_within, long_as, Headed}
use Rattle.files.proofs.Heading.{head_exactly}
use Rattle.rules.specs.declared.branch.Fork.{Fork}
use Rattle.rules.specs.declared.line.Line.{Line}
use Rattle.rules.specs.declared.moves.Move.{Move}
use Rattle.rules.specs.declared.table.Shape.{Shape}
use Rattle.rules.specs.Branches.{Branch, Effect, Progress, going, complete, moved, start}
use Rattle.rules.specs.Fits.{effect}
use Rattle.rules.specs.Shapes.{shaped, takes}
use Rattle.soundness.specs.Given.{Given}
use Rattle.soundness.specs.Rules.{Allows, Completes}
use Rattle.soundness.specs.Walking.{Limits, Held, Within, ForksFit, Roomy, sizes, further, line_move, roomy, line_walked, lines_walked}
use Rattle.soundness.specs.ProofFiles.{line_at, lines_from, Reading, proof_read, walked, Keeps}
use Rattle.soundness.specs.Laws.{PassesExactly}
use Rattle.soundness.proofs.Allowed.{allowed_walks}
use Rattle.soundness.proofs.Inversions.{on_some, further_ok, cond_ok}
use Rattle.soundness.proofs.Rooms.{room_parts, room_from, fine_after, room_before}
use Rattle.soundness.proofs.Walked.{walked_allows}

-- a line that is walked takes up the places of its rule
pub takes_up : (g : Given) (b : Branch) (l : Line) (s : Shape) (m : Move) (n : ℕ) → shaped l ≡ Some s → line_move g b s l n ≡ Ok m → takes s.rule ≡ sizes (effect m)
takes_up g b l s m n shapes moves =
    let w = allowed_walks g b l (effect m) n (walked_allows g b l s m n shapes moves) in
    let shape : w.shape ≡ s = same_Some _ _ (sym w.shaped_so ∙ shapes) in
    ap (λ t. takes t.rule) (sym shape) ∙ w.takes_up

-- what walking a line answers where all goes well
pub moving : (lim : Limits) (g : Given) (b : Branch) (fs : List Fork) (l : Line) (n : ℕ) (s : Shape) (m : Move) → shaped l ≡ Some s → line_move g b s l n ≡ Ok m → roomy lim b fs (takes s.rule) ≡ true → line_walked lim g b fs l n ≡ Ok (moved b fs (effect m))
moving lim g b fs l n s m shapes moves room = simp (shapes, moves, room)

-- one line
module _ (lim : Limits) (g : Given) (b : Branch) (fs : List Fork) (l : Line) (n : ℕ) (held : Held lim b fs) where
  pub line_passes : (e : Effect) → Allows g b l e → Within lim (moved b fs e) → line_walked lim g b fs l n ≡ Ok (moved b fs e)
  line_passes e allowed within =
      let w = allowed_walks g b l e n allowed in
      let room : roomy lim b fs (takes w.shape.rule) ≡ true = ap (roomy lim b fs) w.takes_up ∙ room_from lim b fs (sizes e) (room_before lim b fs held e within) in
      moving lim g b fs l n w.shape w.move w.shaped_so w.moves room ∙ ap (λ d. Ok (moved b fs d)) (sym w.does)

  pub line_passed : (p : Progress) → ForksFit lim fs → line_walked lim g b fs l n ≡ Ok p → (e : Effect) × (Allows g b l e × ((p ≡ moved b fs e) × (Within lim p × Roomy lim p)))
  line_passed p fit e =
      let (s, (shapes, e₁)) = on_some (denied 21 n) (shaped l) _ p e in
      let (m, (moves, e₂)) = further_ok (line_move g b s l n) _ p e₁ in
      let (free, ran) = cond_ok (roomy lim b fs (takes s.rule)) (Ok (moved b fs (effect m))) (denied 25 n) p e₂ in
      let is : p ≡ moved b fs (effect m) = cc in
      let room = room_parts lim b fs (sizes (effect m)) (ap (roomy lim b fs) (sym (takes_up g b l s m n shapes moves)) ∙ free) in
      (effect m, (walked_allows g b l s m n shapes moves, (is, subst (λ q. Within lim q × Roomy lim q) (sym is) (fine_after lim b fs held m fit room))))

-- all lines
module _ (lim : Limits) (g : Given) where
  pub lines_pass : (ls : List Line) (p : Progress) (n : ℕ) → Within lim p → Completes g (Within lim) p ls → lines_walked lim g n p ls ≡ Ok tt
  lines_pass [] complete n within done = refl
  lines_pass [] (going b fs) n within done = absurd done
  lines_pass (l ∷ ls) complete n within done = absurd done
  lines_pass (l ∷ ls) (going b fs) n within done =
      let e = done.0 in
      ap (λ r. further r (λ p. lines_walked lim g (n + 1) p ls)) (line_passes lim g b fs l (n + 1) within e done.1.0 done.1.1.0) ∙
      lines_pass ls (moved b fs e) (n + 1) done.1.1.0 done.1.1.1

  pub lines_passing : (ls : List Line) (p : Progress) (n : ℕ) → Within lim p → Roomy lim p → lines_walked lim g n p ls ≡ Ok tt → Completes g (Within lim) p ls
  lines_passing [] complete n within room e = tt
  lines_passing [] (going b fs) n within room e = cc
  lines_passing (l ∷ ls) complete n within room e = cc
  lines_passing (l ∷ ls) (going b fs) n within room e =
      let (p, (walks, rest)) = further_ok (line_walked lim g b fs l (n + 1)) _ tt e in
      let (effects, (allowed, (is, (fine, roomy)))) = line_passed lim g b fs l (n + 1) within p room walks in
      let later = lines_passing ls p (n + 1) fine roomy rest in
      (effects, (allowed, subst (λ q. Within lim q × Completes g (Within lim) q ls) is (fine, later)))

-- the lines of a file
length_lines : (bytes : List ℕ) (i n : ℕ) → length (lines_from bytes i n) ≡ n
length_lines bytes i zero = refl
length_lines bytes i (suc n) = ap suc (length_lines bytes (i + 1) n)

lines_each : (bytes : List ℕ) (i n k : ℕ) (l : Line) → slice_get (lines_from bytes i n) k ≡ Some l → line_at bytes (i + k) ≡ l
lines_each bytes i zero k l e = cc
lines_each bytes i (suc n) zero l e = ap (line_at bytes) (omega arith) ∙ same_Some _ _ e
lines_each bytes i (suc n) (suc k) l e = ap (line_at bytes) (omega arith) ∙ lines_each bytes (i + 1) n k l e

lines_are : (bytes : List ℕ) (i : ℕ) (ls : List Line) → ((k : ℕ) (l : Line) → slice_get ls k ≡ Some l → line_at bytes (i + k) ≡ l) → lines_from bytes i (length ls) ≡ ls
lines_are bytes i [] each = refl
lines_are bytes i (l ∷ ls) each =
    let first : line_at bytes i ≡ l = ap (line_at bytes) (omega arith) ∙ each 0 l refl in
    let rest = lines_are bytes (i + 1) ls (λ k r e. ap (line_at bytes) (omega arith) ∙ each (suc k) r e) in
    cc

among_one : (k : ℕ) → among (1 ∷ []) k ≡ true → k ≡ 1
among_one k e = grind (arith, nat_tests)

-- what is read off a proof file that is laid out right
record Read (most named : ℕ) (bytes : List ℕ) (p : Reading) : Type 0 where
  headed : Headed 1 p.request p.lines bytes
  known : p.request < named
  some : 1 ≤ p.lines
  few : p.lines ≤ most
  long : length bytes ≡ 10 + 7 * p.lines

read_so : (most named : ℕ) (bytes : List ℕ) (p : Reading) → proof_read most named bytes ≡ Ok p → Read most named bytes p
read_so most named bytes p e =
    let (h, (reading, e₁)) = further_ok (head_read (1 ∷ []) bytes) _ p e in
    let (row, (requests, e₂)) = further_ok (request_named named h) _ p e₁ in
    let (count, (counts, e₃)) = further_ok (count_within most h) _ p e₂ in
    let (done, (measures, e₄)) = further_ok (long_as (10 + 7 * count) bytes) _ p e₃ in
    let is : record { request = row; lines = count } ≡ p = cc in
    let (below, same-row) = cond_ok (ltb h.request named) (Ok h.request) (denied 17 6) row requests in
    let (within, same-count) = cond_ok (leb 1 h.count && leb h.count most) (Ok h.count) (denied 18 8) count counts in
    let (sized, _) = cond_ok (eqb (length bytes) (10 + 7 * count)) (Ok tt) (denied 19 10) done measures in
    let (known, headed) = (head_exactly (1 ∷ []) bytes h).0 reading in
    let kind = among_one h.kind known in
    let row_is : h.request ≡ row = cc in
    let count_is : h.count ≡ count = cc in
    let request : h.request ≡ p.request = row_is ∙ ap (λ q. q.request) is in
    let lines : h.count ≡ p.lines = count_is ∙ ap (λ q. q.lines) is in
    let range = and_parts (leb 1 h.count) (leb h.count most) within in
    record {
      headed = rw (kind, request, lines) at headed;
      known = omega (arith, ltb-true h.request named below);
      some = omega (arith, leb-true 1 h.count range.0);
      few = omega (arith, leb-true h.count most range.1);
      long = eqb-true _ _ sized ∙ ap (λ q. 10 + 7 * q.lines) is;
    }

reads : (most named : ℕ) (bytes : List ℕ) (p : Reading) → Read most named bytes p → proof_read most named bytes ≡ Ok p
reads most named bytes p read =
    let r = p.request in
    let n = p.lines in
    let h : Head = record { kind = 1; request = r; count = n } in
    let head : head_read (1 ∷ []) bytes ≡ Ok h = (head_exactly (1 ∷ []) bytes h).1 (refl, read.headed) in
    let row : request_named named h ≡ Ok r = cond-true _ _ _ (lt-ltb r named read.known) in
    let count : count_within most h ≡ Ok n = cond-true _ _ _ (and_from _ _ (le-leb 1 n read.some) (le-leb n most read.few)) in
    let long : long_as (10 + 7 * n) bytes ≡ Ok tt = cond-true _ _ _ (eq-eqb _ _ read.long) in
    simp (head, row, count, long)

pub passes_exactly : PassesExactly
passes_exactly lim g bytes r some_world = (keeps, passes)
  where
    named : ℕ
    named = length g.rows.statements

    starts : 1 ≤ lim.facts → Held lim (start r) []
    starts room = record { facts = room; links = omega arith; forks = omega arith; worlds = some_world }

    keeps : walked lim g bytes ≡ Ok r → Keeps g (Within lim) lim.lines bytes r
    keeps e =
        let found = further_ok (proof_read lim.lines named bytes) _ r e in
        let p = found.0 in
        let read = read_so lim.lines named bytes p found.1.0 in
        let room = cond_ok (leb 1 lim.facts) _ (denied 25 0) r found.1.1 in
        let ran = further_ok (lines_walked lim g 0 (going (start p.request) []) (lines_from bytes 0 p.lines)) _ r room.1 in
        let request : p.request ≡ r = (let same = ran.1.1 in cc) in
        let lines = lines_from bytes 0 p.lines in
        let size : length lines ≡ p.lines = length_lines bytes 0 p.lines in
        let fits = starts (leb-true 1 lim.facts room.0) in
        record {
          lines = lines;
          laid_out = record {
            headed = rw (request, ← size) at read.headed;
            some = omega arith;
            few = omega arith;
            long = omega arith;
            each = λ i l at. ap (line_at bytes) (omega arith) ∙ lines_each bytes 0 p.lines i l at;
          };
          named = omega arith;
          starts = fits;
          completes = subst (λ q. Completes g (Within lim) (going (start q) []) lines) request (lines_passing lim g lines (going (start p.request) []) 0 (subst (λ q. Held lim (start q) []) (sym request) fits) tt ran.1.0);
        }

    passes : Keeps g (Within lim) lim.lines bytes r → walked lim g bytes ≡ Ok r
    passes k =
        let n = length k.lines in
        let d = k.laid_out in
        let p : Reading = record { request = r; lines = n } in
        let read = reads lim.lines named bytes p (record { headed = d.headed; known = k.named; some = d.some; few = d.few; long = d.long }) in
        let room : leb 1 lim.facts ≡ true = le-leb 1 lim.facts k.starts.facts in
        let lines : lines_from bytes 0 n ≡ k.lines = lines_are bytes 0 k.lines (λ i l at. ap (line_at bytes) (omega arith) ∙ d.each i l at) in
        let ran : lines_walked lim g 0 (going (start r) []) (lines_from bytes 0 n) ≡ Ok tt = ap (lines_walked lim g 0 (going (start r) [])) lines ∙ lines_pass lim g k.lines (going (start r) []) 0 k.starts k.completes in
        simp (read, room, ran)
