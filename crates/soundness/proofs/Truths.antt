-- What rows, facts and links say in a structure.
--
-- sentence g n               what the statement row n writes out to
-- principal g n              what the principal row n writes out to
-- sentence_by g r            what the row r writes out to, by the sentences and principals of its parts
-- principal_by g r           the same of a principal's row
-- TrueAt g M n w             the statement row n holds at the world w of M
-- Linked g M n w v           the pair (w, v) of worlds of M is one of the principal row n
-- Signed sign A              A, or that A fails
-- FactTrue g M ρ f           the fact f is right in M, where ρ says which world each number stands for
-- LinkTrue g M ρ l           the link l is right in M
use Rattle.std.proofs.Common.{◌≡◌, ℕ, ◌<◌, List, length, Some, arith}
use Rattle.std.proofs.lemmas.Option.{slice_get-get_or, get_or_from_slice_get}
use Rattle.terms.specs.declared.row.PrincipalRow.{PrincipalRow}
use Rattle.terms.specs.declared.row.StatementRow.{StatementRow}
use Rattle.terms.specs.Laws.{SoundRows}
use Rattle.terms.specs.Truth.{Structure, Pair, Holds}
use Rattle.terms.specs.Written.{Principal, atom, Statement, request, principal_at, statement_at, principal_of, statement_of, principals_written, statements_written, statement_written}
use Rattle.terms.proofs.Writing.{length_written, principal_row_writes, statement_row_writes}
use Rattle.rules.specs.declared.branch.Fact.{Fact}
use Rattle.rules.specs.declared.branch.Link.{Link}
use Rattle.rules.specs.declared.branch.Sign.{Sign}
use Rattle.rules.specs.declared.branch.Sign.TheVariants.{True, False}
use Rattle.soundness.specs.Given.{Given, StatementIs, PrincipalIs}

abbrev principals : Given → List Principal
principals g = principals_written g.rows.principals

abbrev statements : Given → List Statement
statements g = statements_written (principals g) g.rows.statements

abbrev pub sentence : Given → ℕ → Statement
sentence g n = statement_at (statements g) n

abbrev pub principal : Given → ℕ → Principal
principal g n = principal_at (principals g) n

abbrev pub sentence_by : Given → StatementRow → Statement
sentence_by g r = statement_of (principals g) (statements g) r

abbrev pub principal_by : Given → PrincipalRow → Principal
principal_by g r = principal_of (principals g) r

abbrev pub TrueAt : {W : Type 0} → Given → Structure W → ℕ → W → Type 0
TrueAt g M n w = Holds M (sentence g n) w

abbrev pub Linked : {W : Type 0} → Given → Structure W → ℕ → W → W → Type 0
Linked g M n w v = Pair M (principal g n) w v

abbrev pub Signed : Sign → Type 0 → Type 0
Signed True A = A
Signed False A = A → ⊥

abbrev pub FactTrue : {W : Type 0} → Given → Structure W → (ℕ → W) → Fact → Type 0
FactTrue g M ρ f = Signed f.sign (TrueAt g M f.row (ρ f.world))

abbrev pub LinkTrue : {W : Type 0} → Given → Structure W → (ℕ → W) → Link → Type 0
LinkTrue g M ρ l = Signed l.sign (Linked g M l.row (ρ l.from) (ρ l.to))

-- what is decided and cannot fail is so
pub stable : {A : Type 0} → Dec A → ((A → ⊥) → ⊥) → A
stable (yes a) h = a
stable (no f) h = absurd (h f)

pub named_sentence : (g : Given) (n : ℕ) → n < length g.rows.statements → statement_written g.rows n ≡ Some (sentence g n)
named_sentence g n h =
    slice_get-get_or (statements g) n (request 0) (omega (arith, length_written (statement_of (principals g)) g.rows.statements))

-- a named row says what its parts make of it
module _ (g : Given) (sound : SoundRows g.rows) where
  pub sentence_is : (n : ℕ) (r : StatementRow) → StatementIs g n r → sentence g n ≡ sentence_by g r
  sentence_is n r e =
      get_or_from_slice_get (statements g) n (sentence_by g r) (request 0) (statement_row_writes (principals g) g.rows.statements sound.statements_earlier n r e)

  pub principal_is : (n : ℕ) (r : PrincipalRow) → PrincipalIs g n r → principal g n ≡ principal_by g r
  principal_is n r e =
      get_or_from_slice_get (principals g) n (principal_by g r) (atom 0) (principal_row_writes g.rows.principals sound.principals_earlier n r e)
