-- The words that begin a command.
--
-- keyword w      the keyword that w spells, if any
use Rattle.std.specs.Prelude.{ℕ, cond, List, Some, None, codes, Option}
use Rattle.std.specs.Str.{bytes_eq}
use Rattle.job.specs.declared.keyword.Keyword.{Keyword}
use Rattle.job.specs.declared.keyword.Keyword.TheVariants.{Open, At, Principal, Statement, File, Strike, Book}

abbrev pub keyword : List ℕ → Option Keyword
keyword w =
    cond (bytes_eq w (codes "open")) (Some Open) (
    cond (bytes_eq w (codes "at")) (Some At) (
    cond (bytes_eq w (codes "principal")) (Some Principal) (
    cond (bytes_eq w (codes "statement")) (Some Statement) (
    cond (bytes_eq w (codes "file")) (Some File) (
    cond (bytes_eq w (codes "strike")) (Some Strike) (
    cond (bytes_eq w (codes "book")) (Some Book) None))))))
