use Rattle.std.proofs.Common.{◌≡◌, ℕ, ◌&&◌, List, [], ◌∷◌, is_some, Some, None, refl, ◌∙◌, rules, tests}
use Rattle.std.specs.List.{list_all}
use Rattle.std.proofs.lemmas.Iterator.Consumers.{YieldsList-from_first}
use Rattle.std.proofs.lemmas.Iterator.Search.{all_from_yields_List}
use Rattle.job.specs.declared.words.Words.{Words}
use Rattle.job.specs.Books.{entry, also, all_held}
use Rattle.job.specs.Words.{words}
use Rattle.job.proofs.opening.all_entries.Goals as goal

list_all_entry : (ws : List (List ℕ)) → list_all (λ w. is_some (entry w)) ws ≡ all_held ws
list_all_entry [] = refl
list_all_entry (w ∷ ws) =
    elim (entry w) as (λ o. is_some o && list_all (λ v. is_some (entry v)) ws ≡ also o (all_held ws)) [ Some h ↦ list_all_entry ws | None ↦ refl ]

pub returns : goal.returns
returns c =
    let all = words c.args.text.now in
    all_from_yields_List {all = all} (λ w. is_some (entry w)) c.all.new.self _ c.all.result c.all.ensures.ran
    (YieldsList-from_first (λ w. w.now) (λ (s : Words). words s.0.now) {s = record { 0 = c.args.text }} all refl) (λ x b q k. search (rules, tests))
    ∙ list_all_entry all
