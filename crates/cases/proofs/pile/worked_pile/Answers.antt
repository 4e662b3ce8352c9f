use Rattle.std.proofs.Common.{◌≡◌, ℕ, ◌-◌, false, List, [], ◌∷◌, refl, ap, ◌∙◌}
use Rattle.records.specs.declared.owned.OwnedLedger.{OwnedLedger}
use Rattle.cases.specs.declared.pile.Answers.{Answers}
use Rattle.book.specs.Meaning.{Meaning, means, file_after}
use Rattle.records.specs.Records.{held}
use Rattle.book.specs.Sheet.{sheet_list}
use Rattle.cases.specs.Pile.{asked, a_rule, held_before}
use Rattle.book.specs.Pile.{piled}
use Rattle.cases.proofs.pile.worked_pile.Goals as goal

abbrev owned-means : OwnedLedger → Meaning
owned-means b = means (held b.records b.count) (λ s. false) (b.size - b.count)

abbrev told : List ℕ → List ℕ → Meaning → Answers
told upper lower m = asked (piled upper lower m) (a_rule 5 2) (a_rule 7 3)

pub returns : goal.returns
returns c =
    let p = c.new-pile.result in
    let high : sheet_list p.sheet ≡ 5 ∷ [] = ap sheet_list c.new-pile.ensures.sheet ∙ c.sheet_of.ensures.list in
    let low : sheet_list p.below.sheet ≡ 6 ∷ [] =
    ap (λ b. sheet_list b.sheet) c.new-pile.ensures.below ∙ ap sheet_list c.new.ensures.sheet ∙
    c.sheet_of-2.ensures.list in
    let book : owned-means p.below.below ≡ held_before =
    ap (λ b. owned-means b.below) c.new-pile.ensures.below ∙ ap owned-means c.new.ensures.below ∙
    c.file.ensures.after ∙ ap (λ m. file_after m (a_rule 5 2)) c.new-ledger.ensures.empty in
    let answers : c.ask.result ≡ told (5 ∷ []) (6 ∷ []) held_before =
    c.ask.ensures.answer ∙ ap (λ xs. told xs (sheet_list p.below.sheet) (owned-means p.below.below)) high ∙
    ap (λ xs. told (5 ∷ []) xs (owned-means p.below.below)) low ∙ ap (told (5 ∷ []) (6 ∷ [])) book in
    record { answers = (refl, answers, ap (λ r. r.found) answers, ap (λ r. r.filed) answers, ap (λ r. r.struck) answers, ap (λ r. r.other) answers) }
