use Rattle.std.proofs.Common.{not, rules, tests, sym, ◌∙◌}
use Rattle.std.proofs.lemmas.Iterator.Consumers.{YieldsList-from_first}
use Rattle.std.proofs.lemmas.Iterator.Adapters.{option_map_id}
use Rattle.std.proofs.lemmas.Iterator.Search.{find_from_yields_List}
use Rattle.book.specs.Going.{entries_left}
use Rattle.book.specs.Listings.{live_above}
use Rattle.book.specs.Serials.{on}
use Rattle.book.specs.Sheet.{sheet_list}
use Rattle.book.proofs.Layers.{shown_next}
use Rattle.book.proofs.recall.RecallRegister.next_after.Goals as goal

-- the closure tests whether an entry is shown
pub returns : goal.returns
returns g c =
    let book = c.args.self.now in
    let live = g.B.Register.live book.below in
    let xs = sheet_list book.sheet in
    let chain = YieldsList-from_first (λ x. x) (entries_left g.B.Register.live) (live_above live c.args.serial) c.new-entries.ensures.left in
    let found = find_from_yields_List (λ e. not (on xs e.serial)) c.find.new.self _ c.find.result c.find.ensures.ran chain (λ x b q k. search (rules, tests)) in
    record { answer = sym (option_map_id c.find.result) ∙ found ∙ shown_next xs live (g.met.B.Register.orderly book.below) c.args.serial }
