use Rattle.std.proofs.Common.{refl}
use Rattle.gate.proofs.worked.worked_cases_hold.Goals as goal

pub returns : goal.returns
returns c =
    record {
      cases = record {
        principals_named = refl;
        statements_named = refl;
        named_again = refl;
        full_ledger = refl;
        struck = refl;
        filed_after_striking = refl;
        proof_length = refl;
        proved = refl;
        six_facts = refl;
        saying_struck = refl;
        for_itself = refl;
        no_clash = refl;
      };
    }
